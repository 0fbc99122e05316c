pub mod Cut
pub mod Exchange
pub mod OneUnit
pub mod Reduction
pub mod WorkedExchanges
