-- Laws of substitution.
pub mod Traversal
pub mod Lifted
pub mod Changes
pub mod Exchange
