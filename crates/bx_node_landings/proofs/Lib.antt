pub mod Acked
pub mod Landed
