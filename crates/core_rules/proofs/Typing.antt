-- Laws of typing.
pub mod Closed
pub mod Scoped
pub mod Changed
pub mod Weakened
pub mod Substituted
pub mod Inverted
pub mod Fitting
pub mod NoMeta
