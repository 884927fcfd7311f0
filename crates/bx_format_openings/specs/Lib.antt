pub use Rattle.bx_node_openings
