pub mod FileChanged
pub mod AttributesSet
pub mod LiveHeld
pub mod HintsKept
