pub mod Alternates
pub mod Lists
pub mod Running
