pub mod Regions
pub mod Calls
pub mod Laws
pub use Rattle.bx_disk
