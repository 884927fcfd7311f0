pub mod Agreement
pub mod Steps
pub mod Turns
pub mod Courses
