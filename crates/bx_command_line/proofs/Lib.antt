pub mod Decimals
pub mod Lines
pub mod MakeWords
pub mod Parses
pub mod Plain
pub mod WordLists
