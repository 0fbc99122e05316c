pub mod Lists
pub mod Records
pub mod Lent
pub mod Laws
