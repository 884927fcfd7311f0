pub mod InUse
pub mod Numbers
