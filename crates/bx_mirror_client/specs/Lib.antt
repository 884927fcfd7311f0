pub mod Sends
pub mod Asks
pub mod Letters
pub mod Streams
pub mod Events
pub mod Telling
pub mod Leaving
