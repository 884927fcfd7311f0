mod Crossing
mod Each
mod Filing
mod Rising
mod Posts
mod Slots
mod Soonest
