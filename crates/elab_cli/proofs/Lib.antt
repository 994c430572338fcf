pub mod Endings
pub mod Sent
