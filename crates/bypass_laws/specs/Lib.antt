pub mod Stack
pub mod Making
pub mod Printed
