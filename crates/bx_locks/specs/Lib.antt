pub mod Machines
pub mod Events
pub mod Meanings
pub mod Laws
