pub mod Along
pub mod Members
pub mod Fit
pub mod Safe
pub mod Right
pub mod Unchecked
pub mod Calls
pub mod Shapes
