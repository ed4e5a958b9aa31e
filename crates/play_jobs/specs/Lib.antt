pub mod Ends
pub mod Play
pub mod Traces
