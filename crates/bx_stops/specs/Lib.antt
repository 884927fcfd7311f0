pub mod FromLine
