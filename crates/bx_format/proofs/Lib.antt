pub mod Puts
pub mod Made
pub mod Blank
pub mod Sure
pub mod Labelled
pub mod Rests
pub mod Whole
pub mod Spared
