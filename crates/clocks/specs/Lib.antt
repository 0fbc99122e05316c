pub mod Four
pub mod Exchange
pub mod Ticks
pub mod WorkedExchanges
