pub mod Changes
pub use Rattle.bx_world_standing.specs.bx_redo
pub use Rattle.bx_world_standing.specs.bx_volume
pub use Rattle.bx_world_standing.specs.bx_world_chains
pub use Rattle.bx_world_standing.specs.bx_world_logs
pub use Rattle.bx_world_standing
