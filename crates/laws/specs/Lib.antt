pub mod Choices
pub mod Terms
pub mod Laws
pub mod Texts
pub mod Positions
