pub mod Calls
pub mod Paths
pub mod Replies
pub mod First
pub mod Full
pub mod Attempts
pub use Rattle.bx_clean
pub use Rattle.bx_creating.specs.bx_directory_reads
