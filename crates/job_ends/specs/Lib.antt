pub mod Printed
pub mod Shown
pub mod Causes
pub mod Comes
pub mod Seen
pub mod Due
pub mod Closes
