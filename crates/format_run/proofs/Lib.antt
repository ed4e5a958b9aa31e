pub mod Comes
pub mod Due
pub mod Texts
pub mod Through
