pub mod Rows
pub mod Accounts
pub mod Queue
