pub mod Audits
pub mod Inodes
pub mod Names
pub mod Lists
