pub mod Standing
pub mod Judging
pub mod Families
