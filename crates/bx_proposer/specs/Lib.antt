pub mod Names
pub mod Letters
pub mod Standing
