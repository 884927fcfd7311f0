pub mod Asked
pub mod Finding
pub mod Leaving
pub mod StoreKinds
pub mod Telling
