pub mod Again
pub mod Chain
pub mod Form
pub mod Steps
pub mod Room
pub mod Scanned
pub mod Sent
pub mod Taking
