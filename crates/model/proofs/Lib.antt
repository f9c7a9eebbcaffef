pub mod Runs
pub mod Told
pub mod Renewed
pub mod Whole
mod WorkedRun
