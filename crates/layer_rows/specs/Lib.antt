pub mod Words
pub mod Counter
pub mod Alias
pub mod Keeper
pub mod Tower
pub mod Fork
pub mod Values
pub mod Missing
