pub mod Lists
pub mod Small
pub mod Sorts
pub mod Values
pub mod Statements
pub mod Visits
pub mod Runs
pub mod Orderly
