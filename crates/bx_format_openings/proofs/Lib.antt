pub mod Alike
pub mod Formatted
pub mod Opening
