pub mod Bytes
pub mod Drawn
pub mod Laws
pub mod Cells
pub mod Memory
