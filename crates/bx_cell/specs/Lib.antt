pub mod Errors
pub mod Halves
pub mod Images
pub mod Cells
pub mod Bytes
pub mod Laws
pub mod Formats
