pub mod Changes
pub mod Given
pub mod First
pub mod Growing
pub mod Stopping
pub mod Procedures
pub use Rattle.bx_reads.specs.bx_files
pub use Rattle.bx_reads
