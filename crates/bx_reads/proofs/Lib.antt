pub mod BytesRead
pub mod Found
pub mod FreeSpace
pub mod Told
