pub mod Cutting
pub mod Flat
pub mod Groups
pub mod Numbers
pub mod PartWords
pub mod Parting
pub mod Rows
pub mod Tables
