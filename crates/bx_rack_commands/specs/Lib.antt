pub mod Checks
pub mod Failures
pub mod NewVolumes
pub use Rattle.bx_rack_audit.specs.bx_audit
pub use Rattle.bx_rack_audit
