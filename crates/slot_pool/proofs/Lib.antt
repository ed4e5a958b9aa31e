pub mod Calls
pub mod Held
pub mod Map
pub mod Places
pub mod References
pub mod Spots
pub mod Times
pub mod Rules
