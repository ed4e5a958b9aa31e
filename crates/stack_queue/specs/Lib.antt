pub mod Pending
pub mod Put
pub mod Stages
pub mod Taken
pub mod Going
pub mod Passing
pub mod Round
pub mod Laws
