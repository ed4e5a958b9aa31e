pub mod Decimals
pub mod Joined
pub mod Nones
pub mod Rows
pub mod Spelled
pub mod LaidOut
