pub mod Steps
pub mod Protocol
pub mod Law
