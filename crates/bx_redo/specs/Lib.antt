pub mod View
pub mod Steps
pub mod Stands
pub mod Found
pub mod Homes
pub use Rattle.bx_volume.specs.bx_truth
pub use Rattle.bx_volume
