pub mod Boots
pub mod Choosing
pub mod Finding
pub mod Origins
pub use Rattle.bx_paxos
