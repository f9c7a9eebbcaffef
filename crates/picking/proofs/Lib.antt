mod Fronts
pub mod Nearest
