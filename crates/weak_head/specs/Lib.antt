pub mod Pending
pub mod Meanings
pub mod Elims
pub mod States
pub mod Answers
