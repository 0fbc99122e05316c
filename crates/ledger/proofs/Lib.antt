pub mod Sizes
pub mod Payments
pub mod Balance
