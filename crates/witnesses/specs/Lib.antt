pub mod Witnesses
pub mod Recalls
