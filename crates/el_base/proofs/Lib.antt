pub mod Lists
pub mod Throughout
