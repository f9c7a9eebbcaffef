pub mod Meaning
pub mod Over
pub mod Count
