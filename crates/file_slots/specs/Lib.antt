pub mod Place
pub mod Placed
pub mod Scope
pub mod Visible
