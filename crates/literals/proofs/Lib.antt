pub mod Bits
pub mod First
pub mod Booleans
pub mod Places
