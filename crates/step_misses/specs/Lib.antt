pub mod Misses
