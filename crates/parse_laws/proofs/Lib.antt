pub mod Good
pub mod Many
pub mod Look
pub mod Limit
