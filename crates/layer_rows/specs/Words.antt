-- Short words for the layers of these runs.
use Rattle.std.specs.Prelude.{ℕ, true, false, List, [], ◌∷◌, Some, None}
use Rattle.msg_core.specs.Chain.{Content}
use Rattle.layer_words.specs.declared.events.Dir.{Dir}
use Rattle.layer_words.specs.declared.events.Dir.TheVariants.{Up, Down}
use Rattle.layer_words.specs.declared.events.Kind.{Kind}
use Rattle.layer_words.specs.declared.events.Kind.TheVariants.{Cast}
use Rattle.layer_words.specs.declared.sorts.Shape.TheVariants.{One}
use Rattle.layer_mean.specs.declared.run.Event.{Event}
use Rattle.layer_mean.specs.Tree.{ExpressionTree, number, MessageTree, message, EmissionTree, StatementTree}
use Rattle.layer_mean.specs.Tree.{StatementTrees, none, more, Expected, HandlerTree, CellTree, numbers, HeaderTree}

-- A cast of a message, going down after this header.
abbrev pub cast_of : ExpressionTree → MessageTree → ℕ → List ExpressionTree → EmissionTree
cast_of peer m tag fields = record {
  direction = Down;
  kind = Cast;
  numbers = peer ∷ [];
  content = Some (record { message = m; tag = tag; fields = fields });
}

-- A cast of the handler's message, going down after this header.
abbrev pub cast_down : ExpressionTree → ℕ → List ExpressionTree → EmissionTree
cast_down peer tag fields = cast_of peer (message 0) tag fields

-- A cast of the handler's message, going up.
abbrev pub cast_up : ExpressionTree → EmissionTree
cast_up peer = record {
  direction = Up;
  kind = Cast;
  numbers = peer ∷ [];
  content = Some (record { message = message 0; tag = 0; fields = [] });
}

-- Statements in order.
abbrev pub block : List StatementTree → StatementTrees
block [] = none
block (x ∷ rest) = more x (block rest)

-- A handler whose block declares no names.
abbrev pub handler : Dir → Kind → ℕ → Expected → List StatementTree → HandlerTree
handler dir kind tag expected statements = record {
  direction = dir;
  kind = kind;
  tag = tag;
  expected = expected;
  numbers = 0;
  messages = 0;
  block = block statements;
}

-- A cell of one number with an initial value.
abbrev pub cell_of_one : List ℕ → ℕ → CellTree
cell_of_one name initial = record { name = name; form = numbers One (number initial) }

-- Headers that pass and that end.
abbrev pub passing : List ℕ → ℕ → HeaderTree
passing name fields = record { name = name; fields = fields; ends = false }

-- A header that ends the chain.
abbrev pub ending : List ℕ → ℕ → HeaderTree
ending name fields = record { name = name; fields = fields; ends = true }

-- A cast that carries a message.
abbrev pub cast : ℕ → Content → Event
cast peer m = record { kind = Cast; peer = peer; a = 0; b = 0; message = Some m }

-- An event without a message.
abbrev pub signal : Kind → ℕ → ℕ → Event
signal kind a b = record { kind = kind; peer = 0; a = a; b = b; message = None }
