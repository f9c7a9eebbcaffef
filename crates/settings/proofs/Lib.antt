pub mod Recorded
pub mod Scans
pub mod Sets
pub mod Listed
pub mod Wanted
