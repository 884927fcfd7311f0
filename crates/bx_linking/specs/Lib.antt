pub mod Drafting
pub mod Linking
pub use Rattle.bx_entries.specs.Lacking
pub use Rattle.bx_entries.specs.RoomFinding
pub use Rattle.bx_entries.specs.bx_directory_reads
pub use Rattle.bx_entries.specs.bx_dirs
pub use Rattle.bx_entries
