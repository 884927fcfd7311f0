pub mod Benches
pub mod Together
