pub mod Answers
mod Reasons
mod Contacts
