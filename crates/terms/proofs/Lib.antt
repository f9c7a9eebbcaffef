mod Records
mod Covered
mod Turns
mod Struck
mod Written
