pub mod Cuts
pub mod Numerals
pub mod Dues
pub mod Spellings
pub mod Places
