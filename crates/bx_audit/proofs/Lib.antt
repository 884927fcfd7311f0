pub mod Ordered
pub mod Trees
pub mod Shown
pub mod Volumes
pub mod Walked
