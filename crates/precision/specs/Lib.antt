pub mod Precision
pub mod SmallestPower
