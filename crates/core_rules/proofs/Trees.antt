-- Laws of typed trees.
pub mod Scoped
pub mod Regular
pub mod Sound
pub mod Addition
pub mod Vector
pub mod Keeping
pub mod Append
pub mod Middle
pub mod Swap
pub mod Solving
pub mod Needed
