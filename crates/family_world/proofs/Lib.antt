mod Kept
mod Reported
mod Judged
