mod Trees
mod Rules
