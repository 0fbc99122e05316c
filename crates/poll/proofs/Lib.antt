pub mod Uptime
