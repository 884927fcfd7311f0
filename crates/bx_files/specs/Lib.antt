pub mod Paths
pub mod Reads
pub use Rattle.bx_inodes.specs.bx_blink
pub use Rattle.bx_chunks
pub use Rattle.bx_inodes
pub use Rattle.bx_chunks.specs.bx_truth
