pub mod Literals
pub mod Cnf
pub mod Reader
pub mod Counts
pub mod Grammar
