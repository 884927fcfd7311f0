pub mod ScheduleLine
pub mod TraceText
pub mod Schedule
pub mod Reading
