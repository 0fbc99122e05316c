pub mod Halving
pub mod Differences
