pub mod Trace
pub mod Legal
pub mod Parts
pub mod Placed
pub mod Along
pub mod Account
pub mod Laws
