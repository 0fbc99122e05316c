pub mod Integers
pub mod Modulo
pub mod TwosComplement
pub mod Machine
pub mod Octets
pub mod Parts
