mod Order
pub mod Written
pub mod Places
