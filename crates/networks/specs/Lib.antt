pub mod Evaluation
pub mod Networks
pub mod Circuits
