mod Asking
pub mod Beginning
mod AtBlock
mod Blocks
mod Granting
mod Keeping
mod Machines
mod Order
mod Puts
mod Stands
mod Waiting
mod Wants
