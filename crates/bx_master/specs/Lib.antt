pub mod Masters
pub mod Events
pub mod Steps
pub mod Serving
