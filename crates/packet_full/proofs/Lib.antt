pub mod Chain
pub mod Declared
pub mod Numbers
pub mod Steps
pub mod Taken
