mod Views
mod Rows
mod After
mod Blocks
mod Stacks
