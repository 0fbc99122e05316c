pub mod Offset
pub mod Halving
