-- Which rows noted messages name.
use Rattle.std.specs.Prelude.{ℕ, Bool, nat_le, List}
use Rattle.std.specs.List.{list_all}
use Rattle.synth_print.specs.declared.written.Note.{Note}
use Rattle.synth_print.specs.declared.written.Note.TheVariants as notes

-- How many first rows a noted message may name.
abbrev pub rows_named : Note → ℕ
rows_named notes.Called = 0
rows_named (notes.Spelled message rows) = rows

-- Whether a noted message names none but the first n rows.
abbrev pub is_within : ℕ → Note → Bool
is_within n note = nat_le (rows_named note) n

abbrev pub are_within : ℕ → List Note → Bool
are_within n noted = list_all (is_within n) noted
