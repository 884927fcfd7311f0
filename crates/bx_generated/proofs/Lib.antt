pub mod Drawing
pub mod Grammar
pub mod Sized
pub mod Texts
