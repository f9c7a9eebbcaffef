pub mod Settings
pub mod Least
pub mod Readings
pub mod Laws
pub mod TermRecords
