pub mod Steps
pub mod Between
pub mod Stands
pub mod LineStarts
