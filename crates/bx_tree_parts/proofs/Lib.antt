pub mod GivenOut
pub mod Indexed
pub mod Paired
mod Places
mod Updated
mod Contents
