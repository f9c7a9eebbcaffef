pub mod Model
pub mod Calls
pub mod Guarantee
pub mod WorkedRun
