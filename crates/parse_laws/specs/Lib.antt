pub mod Parser
pub mod Nesting
pub mod Reading
