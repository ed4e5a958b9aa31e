pub mod Ownership
pub mod Calls
pub mod Told
pub mod Faults
pub mod Opens
