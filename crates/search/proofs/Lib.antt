pub mod Pointwise
pub mod Assignments
pub mod Machine
