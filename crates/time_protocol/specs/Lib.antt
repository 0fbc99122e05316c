pub mod TimeProtocol
pub mod Laws
