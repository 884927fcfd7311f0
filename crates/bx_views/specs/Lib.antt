pub mod Attempts
pub mod Truths
pub use Rattle.bx_records.specs.bx_layout
pub use Rattle.bx_records
