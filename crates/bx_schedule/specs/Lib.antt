pub mod Disks
pub mod Doing
pub mod Execution
pub mod Lacking
pub mod Places
pub mod Placing
pub mod Refusing
