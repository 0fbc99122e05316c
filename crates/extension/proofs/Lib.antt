pub mod Heads
pub mod Front
pub mod Reading
pub mod Reader
pub mod Walks
pub mod WrongReaders
