pub mod InUse
pub mod Associations
pub mod Alternates
