pub mod Coming
pub mod Found
pub mod Leading
pub mod Ready
pub mod Ticking
pub mod Turning
