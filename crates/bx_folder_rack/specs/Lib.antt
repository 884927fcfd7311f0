pub mod Folder
pub mod Waits
