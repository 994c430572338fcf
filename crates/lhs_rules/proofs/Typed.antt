-- The left side that is reached, step by step, and its type.
pub mod Terms
pub mod Steps
pub mod Whole
