pub mod Poll
