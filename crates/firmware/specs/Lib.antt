pub mod Numbers
pub mod Client
pub mod Server
