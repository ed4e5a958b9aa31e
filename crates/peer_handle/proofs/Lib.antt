mod AsBox
mod Opens
mod Rules
mod Sound
mod Texts
