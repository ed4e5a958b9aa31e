pub mod Reading
pub mod Names
pub mod Words
pub mod View
