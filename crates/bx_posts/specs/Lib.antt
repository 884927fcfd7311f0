pub mod Separators
pub mod Parents
pub mod Posts
pub use Rattle.bx_splits
