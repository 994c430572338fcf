pub mod Characters
pub mod Runs
pub mod Pieces
pub mod Tokens
pub mod Found
pub mod Laws
pub mod Fixed
