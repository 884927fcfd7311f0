pub mod Records
pub mod RecordReading
pub mod Runs
pub mod Drafts
pub use Rattle.bx_layout.specs.Blocks
pub use Rattle.bx_layout.specs.bx_base
pub use Rattle.bx_layout
pub use Rattle.bx_layout.specs.bx_places
