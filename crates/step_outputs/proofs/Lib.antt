pub mod Ranges
pub mod Announced
mod Numbers
