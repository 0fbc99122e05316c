pub mod Fill
pub mod Adding
