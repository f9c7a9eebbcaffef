pub mod Looks
pub mod Answered
