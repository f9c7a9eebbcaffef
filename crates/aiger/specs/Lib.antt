pub mod Aag
pub mod Reader
pub mod Counts
pub mod Grammar
