pub mod Given
pub mod Levels
pub mod Absorbed
pub mod Lowered
pub mod DeadFile
pub mod DeadTree
pub mod Slots
pub mod DeadPiece
pub mod Bare
pub mod Gone
mod Firsts
mod Takes
mod Found
mod Freed
mod Sizes
mod Fallen
mod Cuts
mod Stripped
mod Below
mod WholeTree
mod WholeFile
mod Needed
mod HeldOnes
mod Told
mod Fewer
