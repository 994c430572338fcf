pub mod LeftSide
pub mod Flagged
pub mod Looking
pub mod CoverOf
pub mod Ending
pub mod Ready
pub mod Example
pub mod Laws
