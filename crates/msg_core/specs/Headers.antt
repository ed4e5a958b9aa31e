-- How many places a stack has at most, and how many headers a message; what a layer declares of them, and what they
-- carry.
use Rattle.std.specs.Prelude.{ℕ}

-- The most places of a stack.
abbrev pub most_places : ℕ
most_places = 24

-- One for each place of a stack.
abbrev pub most_headers : ℕ
most_headers = most_places

-- The most headers that a layer declares.
abbrev pub most_declared : ℕ
most_declared = 7

-- The most tags that a layer's headers have: those of the declared ones, and 0 for `none`.
abbrev pub most_tags : ℕ
most_tags = 8

-- The most numbers of a header, of a row, and of an event's arguments.
abbrev pub most_fields : ℕ
most_fields = 4
