pub mod Comes
pub mod Forms
pub mod Told
pub mod ByHand
pub mod ScopedHeads
pub mod ScopedSpines
pub mod ScopedRules
pub mod ScopedForms
