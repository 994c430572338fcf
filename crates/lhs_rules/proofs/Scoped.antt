-- What an accepted left side is made of is in scope.
pub mod Lefts
pub mod Puts
pub mod Branches
pub mod Settled
pub mod Whole
