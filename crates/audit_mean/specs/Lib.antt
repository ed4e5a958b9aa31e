pub mod Text
pub mod Line
pub mod Report
pub mod Segment
pub mod Clash
pub mod Lack
pub mod Finding
pub mod Examples
