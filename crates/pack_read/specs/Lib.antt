pub mod Sorts
pub mod Inside
pub mod Expressions
pub mod Operations
pub mod Lines
pub mod Open
pub mod Files
