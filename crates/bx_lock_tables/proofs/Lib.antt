pub mod Opening
pub mod Waiting
mod ByBlock
