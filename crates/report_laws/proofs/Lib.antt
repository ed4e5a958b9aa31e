pub mod Clear
pub mod Words
pub mod Lines
pub mod Sayable
pub mod Texts
pub mod Moments
pub mod ReadsBack
