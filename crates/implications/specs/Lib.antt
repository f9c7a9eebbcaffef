pub mod Ternaries
pub mod Implied
