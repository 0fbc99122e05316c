pub mod UnixTime
pub mod Laws
