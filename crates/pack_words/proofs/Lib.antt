pub mod Fronts
mod Runs
mod Signs
mod Places
mod Rules
