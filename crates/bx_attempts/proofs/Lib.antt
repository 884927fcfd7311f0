pub mod Acting
pub mod Attempted
pub mod Changing
pub mod Fairness
pub mod Fine
pub mod First
pub mod Fullness
