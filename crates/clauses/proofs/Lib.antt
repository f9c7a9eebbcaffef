pub mod Sums
pub mod Answered
