pub mod Broadcast
