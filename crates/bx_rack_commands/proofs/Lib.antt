pub mod Cells
pub mod Checked
pub mod Made
