-- What is not convertible.
pub mod Substituted
pub mod Reach
pub mod Constants
