pub mod Exchanges
pub mod ForC
pub mod Refuted
