pub mod Lists
pub mod Answers
pub mod Hearing
pub mod Going
pub mod Serving
