pub mod Alone
pub use Rattle.bx_audit
pub use Rattle.bx_paxos_found.specs.bx_paxos
