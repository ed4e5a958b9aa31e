pub mod Laid
pub mod Need
pub mod Spent
