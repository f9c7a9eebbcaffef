pub mod Scans
pub mod Masks
pub mod Forces
pub mod Sums
pub mod Firsts
