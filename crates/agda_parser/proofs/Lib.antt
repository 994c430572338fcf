pub mod GroupSteps
pub mod LineSteps
pub mod DeclarationRules
pub mod DeclarationComplete
pub mod Whole
