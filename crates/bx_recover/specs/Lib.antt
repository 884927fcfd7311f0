pub mod Bodies
pub mod Gates
pub mod HomesOf
pub mod Recovering
pub mod Done
pub mod Reading
