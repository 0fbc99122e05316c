pub mod ToLineFeed
pub mod Decoding
