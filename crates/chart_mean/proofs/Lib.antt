pub mod Arrows
pub mod Stubbed
pub mod Shown
pub mod Drawn
pub mod Exact
