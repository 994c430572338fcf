pub mod Alone
pub mod Orders
pub mod Depths
pub mod Outsides
