mod Ran
mod Looked
mod Judged
mod Played
pub mod Lines
mod Through
