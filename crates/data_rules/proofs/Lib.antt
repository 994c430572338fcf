pub mod Comes
pub mod Exactly
pub mod Scoped
pub mod Told
pub mod Accepted
pub mod Refused
pub mod Steps
