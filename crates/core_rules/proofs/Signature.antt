-- Laws of signatures.
pub mod Places
pub mod Growth
pub mod Known
pub mod Grown
pub mod Closing
pub mod FamilyKnown
