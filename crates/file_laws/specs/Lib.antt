pub mod Literals
pub mod Files
pub mod Texts
pub mod Named
pub mod Samples
pub mod Bounds
pub mod Headers
