pub mod Audits
pub mod Clashes
pub mod Entries
pub mod Lacks
pub mod Marks
pub mod Places
pub mod Reading
