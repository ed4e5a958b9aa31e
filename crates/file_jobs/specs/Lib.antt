pub mod Stack
pub mod Report
pub mod Second
