pub mod Seconds
pub mod Fractions
pub mod Laws
