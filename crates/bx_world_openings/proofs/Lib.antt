pub mod Firsts
pub mod Restarting
