pub mod Memory
pub mod LineReader
pub mod Outcome
pub mod Streams
pub mod Clocks
pub mod Datagrams
pub mod Links
