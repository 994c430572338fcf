pub mod Answers
pub mod Checker
pub mod Spine
pub mod Family
pub mod Record
