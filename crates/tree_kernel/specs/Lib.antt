pub mod Reading
pub mod Laws
pub mod Answers
pub mod Stand
pub mod Jobs
pub mod Reader
pub mod Branches
pub mod Nodes
