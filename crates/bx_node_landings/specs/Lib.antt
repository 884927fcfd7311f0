pub use Rattle.bx_node_closings
