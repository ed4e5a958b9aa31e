mod Dues
mod Joining
mod Walk
mod Plans
mod Whole
mod Judging
mod Replacing
