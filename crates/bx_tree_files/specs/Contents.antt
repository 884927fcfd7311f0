-- Contents of files, as lists of bytes.
pub use Rattle.bx_tree_parts.specs.Contents.{sized, reaching, written_over}
pub use Rattle.bx_tree_parts.specs.Sparse.{AreZerosFrom, IsNext}
