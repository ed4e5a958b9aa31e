pub mod View
pub mod Table
pub mod Places
pub mod Headers
