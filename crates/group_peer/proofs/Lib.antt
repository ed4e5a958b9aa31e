mod Others
mod Rules
mod Short
mod Stepped
mod Tells
