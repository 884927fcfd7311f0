pub mod Begins
pub mod HeldText
pub mod Kept
pub mod Lengths
pub mod Places
pub mod Rising
pub mod StateText
pub mod StaysAllowed
