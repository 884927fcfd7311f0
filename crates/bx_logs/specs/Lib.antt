pub mod Members
pub mod Bodies
pub mod Logs
pub mod Newest
pub use Rattle.bx_homes
