pub mod Laid
pub mod DeclarationSyntax
