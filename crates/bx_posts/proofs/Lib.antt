pub mod PutTree
pub mod PostTree
pub mod PostFair
pub mod ParentSteps
pub mod Neighbours
pub mod PostTaken
