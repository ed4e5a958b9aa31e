-- The lines of a text.
use Rattle.std.specs.Prelude.{ℕ, List}
use Rattle.script_text.specs.Parts.{parts_after}
use Rattle.pack_read.specs.declared.lines.Lines.{Lines}

-- Those that are left.
abbrev pub lines_left : Lines → List (List ℕ)
lines_left lines = parts_after 10 lines.rest
