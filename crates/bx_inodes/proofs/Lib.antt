pub mod Found
pub mod Written
pub mod Trees
pub mod Pages
pub mod Later
