pub mod Sound
pub mod Implying
pub mod Narrowing
