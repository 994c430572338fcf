pub mod Grown
pub mod Innermost
pub mod Inside
pub mod Places
pub mod Puts
