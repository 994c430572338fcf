pub mod Answers
pub mod Writer
pub mod Binders
pub mod Spine
pub mod Written
pub mod Labels
pub mod Records
