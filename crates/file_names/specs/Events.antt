-- What a handler takes, as the key of a table.
use Rattle.std.specs.Prelude.{◌≡◌, ℕ, List, [], ◌∷◌, bytes_eq, Option, Some, None}
use Rattle.std.specs.List.{list_any}
use denote.Enum.Declared.{tag_of}
use Rattle.layer_words.specs.contracts.events.Dir as dir_row
use Rattle.layer_words.specs.contracts.events.Kind as kind_row
use Rattle.layer_ast.specs.Tree.{HandlerTree, PoppedTree}
use Rattle.indexmap.specs.IndexSet.{IndexSet, contains}

-- The header that a handler takes off, if it does; and what the handler takes: the numbers of its direction and its
-- kind, and after them that header.
abbrev pub popped_code : Option PoppedTree → List ℕ
popped_code None = []
popped_code (Some popped) = 1 ∷ popped.name.word

abbrev pub event_code : HandlerTree → List ℕ
event_code handler =
    tag_of dir_row.the_type handler.direction ∷ tag_of kind_row.the_type handler.kind ∷ popped_code handler.popped

-- A table has what these handlers take, and nothing else.
abbrev pub IsSeen : {S : Type 0} → IndexSet (List ℕ) S → List HandlerTree → Type 0
IsSeen seen handlers = (code : List ℕ) → contains bytes_eq seen code ≡
    list_any (λ h. bytes_eq (event_code h) code) handlers
