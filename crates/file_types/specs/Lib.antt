pub mod Answer
pub mod Blocks
pub mod Counts
pub mod Declarations
pub mod Files
