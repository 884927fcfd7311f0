pub mod Grown
pub mod Grows
pub mod Owns
pub mod Told
