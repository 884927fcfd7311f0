pub mod Anew
pub mod Calls
pub mod Changing
pub mod Gives
pub mod Logging
pub mod Ready
pub mod Seen
pub mod Tidying
