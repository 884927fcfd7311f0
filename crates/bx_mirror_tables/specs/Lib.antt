pub mod Inside
pub mod Lasts
pub mod Owed
