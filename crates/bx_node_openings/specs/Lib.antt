pub mod Opening
pub mod Resting
pub use Rattle.bx_world_stays.specs.bx_world_logs
pub use Rattle.bx_world_stays.specs.bx_world_standing
pub use Rattle.bx_world_stays
