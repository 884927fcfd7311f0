pub mod Asking
pub mod OneForm
pub mod OneItem
pub mod Reading
pub mod Sizes
