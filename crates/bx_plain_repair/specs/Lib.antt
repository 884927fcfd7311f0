pub mod Bench
pub mod HomesOf
pub mod Kept
pub mod Left
pub mod Recovering
pub mod Resting
pub mod Spared
pub mod Through
