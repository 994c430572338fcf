pub mod Declared
pub mod Mapped
pub mod SignatureGrowth
pub mod Instances
