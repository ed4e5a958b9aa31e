-- How the handler for an event is found: by one number for its direction, kind and popped tag together.
use Rattle.std.specs.Prelude.{ℕ, suc, ◌+◌, ◌*◌, ◌<◌, ◌==◌, if◌then◌else◌, List, [], ◌∷◌, map}
use Rattle.std.specs.List.{range_with_len}
use denote.Enum.Declared.{tag_of}
use Rattle.layer_words.specs.declared.events.Dir.{Dir}
use Rattle.layer_words.specs.declared.events.Kind.{Kind}
use Rattle.layer_words.specs.contracts.events.Dir as dir_row
use Rattle.layer_words.specs.contracts.events.Kind as kind_row
use Rattle.typed_layer.specs.declared.tree.Handler.{Handler}

-- How many kinds there are, and how many tags a layer's headers can have, `none` counted.
abbrev pub kind_count : ℕ
kind_count = 12

abbrev pub tag_count : ℕ
tag_count = 8

-- The number of a direction, a kind and a tag, and how many such numbers there are.
abbrev pub code : Dir → Kind → ℕ → ℕ
code dir kind tag = (tag_of dir_row.the_type dir * kind_count + tag_of kind_row.the_type kind) * tag_count + tag

abbrev pub code_count : ℕ
code_count = 192

abbrev pub handler_code : Handler → ℕ
handler_code h = code h.direction h.kind h.tag

-- What stands where no handler is.
abbrev pub no_handler : ℕ
no_handler = 255

-- The number of the first of some handlers that has a code, counted from a number on.
abbrev pub entry_from : ℕ → List Handler → ℕ → ℕ
entry_from k [] c = no_handler
entry_from k (h ∷ rest) c = if handler_code h == c then k else entry_from (suc k) rest c

-- The table of some handlers that are counted from a number on: for each code the number of its handler.
unfoldable pub table_from : ℕ → List Handler → List ℕ
table_from k handlers = map (entry_from k handlers) (range_with_len 0 code_count)

-- A handler's tag is one that a header of its layer can have.
abbrev pub IsTagged : Handler → Type 0
IsTagged h = h.tag < tag_count
