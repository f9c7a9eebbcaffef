pub mod Bars
mod Kept
