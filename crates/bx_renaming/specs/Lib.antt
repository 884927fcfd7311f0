pub mod Places
pub mod Found
pub mod Path
pub mod Renaming
pub mod Lacking
pub use Rattle.bx_linking.specs.Linking
