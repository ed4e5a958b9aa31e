pub mod Layers
pub mod Lists
pub mod Lookups
pub mod Scopes
mod Sorted
pub mod Standing
mod Tables
pub mod Again
pub mod Finds
pub mod Firsts
pub mod Moved
pub mod Parts
mod Rules
