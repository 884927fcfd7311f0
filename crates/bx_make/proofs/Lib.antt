pub mod Counting
pub mod Doing
pub mod Feeds
pub mod Made
pub mod Refused
