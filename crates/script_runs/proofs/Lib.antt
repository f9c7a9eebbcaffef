mod Assumed
mod Released
mod Found
