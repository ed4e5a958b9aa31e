pub mod Files
pub mod Traces
pub mod Ends
