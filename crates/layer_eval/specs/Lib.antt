pub mod Worth
pub mod Did
pub mod Owed
pub mod Visit
