pub mod Between
pub mod Dropping
pub mod InTurn
pub mod Least
pub mod Numbers
pub mod Sets
pub mod Turns
pub mod Stepping
