pub mod Keys
pub mod Contents
pub mod Places
pub mod View
pub mod Spelling
pub mod Parts
pub mod Reading
pub use Rattle.bx_base
