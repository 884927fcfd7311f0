pub mod AtOnce
pub mod Opening
pub use Rattle.bx_cluster
pub use Rattle.bx_rack_audit
pub use Rattle.bx_world_events
