pub mod Client
pub mod Others
pub mod ForC
pub mod Refuted
