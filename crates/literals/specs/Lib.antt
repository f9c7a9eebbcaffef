pub mod Bits
pub mod Literals
pub mod Shown
