pub mod Buffers
pub mod Trips
pub mod Sets
pub mod Lengths
pub mod Written
