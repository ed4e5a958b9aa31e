pub mod Second
pub mod Headline
