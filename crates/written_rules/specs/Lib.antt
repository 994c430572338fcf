pub mod Asking
pub mod Refusals
pub mod Rules
pub mod Expressions
pub mod Laws
pub mod Examples
