pub mod Serving
pub mod Sides
pub mod Working
