pub mod Steps
pub mod Lanes
pub mod Present
