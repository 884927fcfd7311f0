pub mod Records
pub mod Overlay
pub mod Images
pub mod States
pub mod Volumes
pub mod AtRest
pub use Rattle.bx_truth
pub use Rattle.bx_truth.specs.bx_views
