pub mod Layer
pub mod Steps
pub mod Protocol
pub mod Law
pub mod Sample
