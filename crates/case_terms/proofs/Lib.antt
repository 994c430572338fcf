pub mod Chains
pub mod Scopes
pub mod Sizes
pub mod TreeScopes
