pub mod Answering
pub mod Hearing
pub mod Labelling
pub mod Places
pub mod Reading
pub mod Replicas
pub mod Restarting
pub mod Rooms
pub mod Sending
pub mod Serving
pub mod Shapes
pub mod Standing
mod Stepping
pub mod Taking
