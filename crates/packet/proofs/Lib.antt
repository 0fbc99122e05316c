pub mod Packet
pub mod RoundTrips
