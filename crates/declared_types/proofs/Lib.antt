pub mod Fields
pub mod Grown
pub mod Named
pub mod Turned
mod Ends
mod Taken
mod Telescopes
