mod Failing
mod Found
mod Gone
mod Needed
pub mod Places
mod Tests
