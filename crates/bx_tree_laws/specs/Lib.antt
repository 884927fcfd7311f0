pub mod Every
pub mod Acting
pub mod Ways
pub mod Telling
pub use Rattle.bx_model
