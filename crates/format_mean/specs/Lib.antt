pub mod Classes
pub mod Laws
pub mod Layout
pub mod Library
pub mod Pieces
pub mod Samples
