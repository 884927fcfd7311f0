pub mod Bench
pub mod Headline
pub mod Lines
pub mod Outcome
pub mod Replay
pub mod Stops
