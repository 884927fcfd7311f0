pub use Rattle.bx_world_standing.specs.bx_world_logs
pub use Rattle.bx_world_standing
