pub mod DeviceMessages
pub mod Parting
pub mod Reading
