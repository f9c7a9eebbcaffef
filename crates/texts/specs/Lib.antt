pub mod Lexemes
pub mod Numerals
pub mod Due
pub mod Lines
pub mod Places
pub mod Kinds
