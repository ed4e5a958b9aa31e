pub mod Layer
pub mod Lead
pub mod Nones
pub mod Deliveries
pub mod Cells
pub mod Fronts
