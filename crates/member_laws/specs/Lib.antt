pub mod Members
pub mod Steps
pub mod Plans
pub mod Nodes
pub mod Samples
pub mod Fit
pub mod PlanSamples
