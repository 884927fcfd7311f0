-- Handles in rising order.
pub use Rattle.bx_tree_parts.specs.Given.{with_handle, without_handle}
