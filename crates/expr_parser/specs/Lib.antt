pub mod Cursor
pub mod Token
pub mod Syntax
pub mod PatternSyntax
pub mod NestingView
pub mod Refusals
