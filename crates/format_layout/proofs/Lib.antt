pub mod Laying
pub mod Lines
pub mod Remarks
pub mod Rules
