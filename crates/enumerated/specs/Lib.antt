pub mod Enumerated
