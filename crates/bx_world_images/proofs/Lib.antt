pub mod Audited
pub mod Images
pub mod Settling
pub mod Volume
