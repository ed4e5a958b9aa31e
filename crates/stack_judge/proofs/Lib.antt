pub mod Numbered
pub mod Blocks
pub mod Steps
pub mod Entered
pub mod Settled
pub mod Judged
