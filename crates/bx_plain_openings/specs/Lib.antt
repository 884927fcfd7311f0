pub use Rattle.bx_format_openings
pub use Rattle.bx_node_openings
