pub mod Depths
pub mod FileDepths
pub mod OneAnswer
