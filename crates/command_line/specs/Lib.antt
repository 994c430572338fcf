pub mod Number
pub mod Limit
pub mod Word
pub mod Rule
pub mod Seen
pub mod Ask
pub mod Command
