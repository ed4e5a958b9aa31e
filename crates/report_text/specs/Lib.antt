pub mod Told
pub mod Counts
pub mod Cells
pub mod Numbered
