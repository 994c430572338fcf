pub mod Standing
pub mod Solved
pub mod Families
pub mod Known
pub mod KnownTrees
