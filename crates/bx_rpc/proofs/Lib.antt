pub mod Behind
pub mod Openings
pub mod Parts
pub mod Passing
pub mod Refusing
pub mod Steps
pub mod Telling
pub mod Verdicts
