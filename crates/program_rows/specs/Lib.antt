pub mod Refused
pub mod FlipFile
pub mod LateFile
pub mod Written
pub mod Node
