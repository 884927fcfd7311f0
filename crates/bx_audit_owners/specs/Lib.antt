pub mod Holding
pub mod Found
pub mod Dead
pub mod Whole
pub mod Walks
pub mod Words
pub use Rattle.bx_audit_bodies
pub use Rattle.bx_audit_slots
