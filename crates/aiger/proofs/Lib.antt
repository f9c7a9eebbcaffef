pub mod Inputs
pub mod Refusals
pub mod Grammars
pub mod Literals
