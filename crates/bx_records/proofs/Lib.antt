pub mod Lengths
pub mod HeadFields
pub mod Sectors
pub mod Changes
