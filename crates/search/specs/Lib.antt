pub mod Assignments
pub mod Search
