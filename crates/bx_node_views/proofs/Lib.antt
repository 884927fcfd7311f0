pub mod Knowing
pub mod Reaching
pub mod Touching
pub mod Views
