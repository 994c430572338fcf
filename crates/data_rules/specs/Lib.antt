pub mod Refusals
pub mod Reading
pub mod Shapes
pub mod Rules
pub mod Families
pub mod Laws
pub mod Examples
