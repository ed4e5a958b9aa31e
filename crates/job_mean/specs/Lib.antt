pub mod Command
pub mod Given
pub mod Job
