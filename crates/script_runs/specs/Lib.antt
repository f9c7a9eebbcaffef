pub mod Outcomes
pub mod Obeyed
pub mod Keeping
pub mod Fresh
pub mod Writing
