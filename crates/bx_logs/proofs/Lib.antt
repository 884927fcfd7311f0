pub mod Pieces
pub mod LogRuns
pub mod Clashes
