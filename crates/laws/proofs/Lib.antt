pub mod Least
pub mod Literals
pub mod Named
pub mod Prefix
pub mod Trim
pub mod Why
pub mod Records
pub mod Terms
mod Positions
