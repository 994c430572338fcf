-- Laws of the run of a case tree.
pub mod Constructors
pub mod Renamed
pub mod Records
pub mod Moved
pub mod Once
