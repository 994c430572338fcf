mod Leads
mod Lighter
mod Ranks
mod Hops
mod Resolving
mod Spines
mod Environments
pub mod Lookups
mod Moves
mod Stays
mod Calls
pub mod Turning
