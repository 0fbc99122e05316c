pub mod Due
pub mod Laws
