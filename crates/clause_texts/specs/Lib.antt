pub mod Allowed
pub mod Answer
pub mod Shown
