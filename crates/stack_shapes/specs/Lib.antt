pub mod Lists
pub mod Prints
pub mod Trees
pub mod Shapes
pub mod Entries
pub mod Starts
