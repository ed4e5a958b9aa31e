mod Answered
mod Ran
mod Fetched
mod Through
mod Alike
