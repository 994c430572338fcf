pub mod Unifier
pub mod Joined
pub mod UnifierLaws
pub mod Answered
pub mod Rows
