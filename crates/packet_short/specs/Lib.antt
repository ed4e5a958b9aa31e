pub mod Again
pub mod Contents
pub mod Dealing
pub mod Fits
pub mod Keeping
pub mod Laid
pub mod Layouts
pub mod Shortened
