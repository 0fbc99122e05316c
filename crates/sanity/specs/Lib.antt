pub mod Sanity
pub mod Readings
