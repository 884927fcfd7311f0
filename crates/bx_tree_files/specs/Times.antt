-- Times: seconds and microseconds.
pub use Rattle.bx_tree_parts.specs.Times.{Time, time_of, is_given, stored}
