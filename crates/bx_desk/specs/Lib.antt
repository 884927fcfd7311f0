pub mod Desks
pub mod Nodes
