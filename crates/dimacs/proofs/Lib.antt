pub mod Literals
pub mod Lines
pub mod Refusals
pub mod Grammars
