pub mod Works
pub use Rattle.bx_node_holds
pub use Rattle.bx_world_stays
