mod Released
pub mod Steps
