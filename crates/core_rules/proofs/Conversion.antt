-- Laws of conversion.
pub mod Changed
pub mod Pointwise
pub mod Shifted
pub mod Names
pub mod Replaced
