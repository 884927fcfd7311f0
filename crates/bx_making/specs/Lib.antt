pub mod Common
pub mod Making
pub mod Made
pub mod Burying
pub mod Links
