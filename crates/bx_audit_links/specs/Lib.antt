pub mod InOrder
pub mod Children
pub mod Right
pub mod Counted
pub mod Reached
