pub mod Values
pub mod Circuits
