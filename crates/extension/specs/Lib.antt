pub mod Tail
pub mod Reading
pub mod Reader
pub mod TailLaws
pub mod ReaderLaws
pub mod WrongReaders
