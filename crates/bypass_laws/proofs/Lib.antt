pub mod Guards
pub mod Making
