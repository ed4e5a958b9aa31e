pub mod Deliveries
pub mod Said
pub mod Calm
