pub mod Rules
pub mod Loaded
