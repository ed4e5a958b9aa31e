pub mod Entries
pub mod Members
pub mod Outputs
pub mod Nodes
pub mod Common
pub mod Handled
