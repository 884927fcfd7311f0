pub mod Listings
pub mod Lookups
pub mod Pages
pub use Rattle.bx_dirs
