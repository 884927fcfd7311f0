pub mod AtOnce
pub mod Laws
