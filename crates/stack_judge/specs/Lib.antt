pub mod Edges
pub mod Vertices
pub mod Measures
pub mod Searches
pub mod Judged
pub mod Steady
pub mod Rows
pub mod Answer
