pub mod Arguments
pub mod Asked
pub mod Forms
pub mod Items
pub mod Limits
pub mod Results
pub mod Wire
