pub mod Least
pub mod SmallestPower
