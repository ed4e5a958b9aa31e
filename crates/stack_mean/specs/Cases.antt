-- Cases at the edges of what is accepted and drawn.
use Rattle.std.specs.Prelude.{◌≡◌, true, List, [], ◌∷◌, ◌++◌, map, replicate, Some, None, Ok, Err, codes}
use Rattle.layer_words.specs.declared.events.Dir.{Dir}
use Rattle.layer_words.specs.declared.events.Dir.TheVariants.{Up, Down}
use Rattle.layer_words.specs.declared.events.Kind.TheVariants.{Cast, Send, Ack}
use Rattle.layer_words.specs.declared.operators.Function.TheVariants.{Bit}
use Rattle.layer_words.specs.declared.operators.Operator.TheVariants.{Add, Subtract, Multiply}
use Rattle.layer_mean.specs.declared.run.Case.TheVariants.{First}
use Rattle.layer_mean.specs.Tree.{part, ExpressionTree, number, me, local, size, binary, apply, pick, MessageTree}
use Rattle.layer_mean.specs.Tree.{message, held, cut, tail, join, StatementTree, push, take, each, emit, none, always}
use Rattle.layer_mean.specs.Tree.{common, rare, queue, LayerTree}
use Rattle.stack_mean.specs.Acceptance.{cycle, too_many, acceptance, largest_weight, largest_joins}
use Rattle.stack_mean.specs.NoShape as no_shape
use Rattle.stack_mean.specs.Shape.{app_cast, packet_entry, shape}
use Rattle.stack_mean.specs.Plans.{outs_of}
use Rattle.stack_mean.specs.SampleLayers.{block, sends, on, named_cell, with_fields, kept_rows, bare_layer, counter}
use Rattle.stack_mean.specs.SampleLayers.{echo}
use Rattle.stack_mean.specs.SampleLayers.{fan, silent_layer}
use Rattle.stack_mean.specs.Samples.{header, length_of}

-- An Ack with the numbers of the one that came, sent in a direction.
abbrev pub acks : Dir → StatementTree
acks dir = emit (record { direction = dir; kind = Ack; numbers = local 0 ∷ local 1 ∷ []; content = None })

-- A layer that sends each Ack back where it came from.
abbrev pub ack_echo : LayerTree
ack_echo = bare_layer (codes "acks") (on Down Ack 0 always (acks Up ∷ []) ∷ on Up Ack 0 always (acks Down ∷ []) ∷ [])

-- A layer that sends each Ack and each cast back where it came from.
abbrev pub two_echoes_at_once : LayerTree
two_echoes_at_once = bare_layer (codes "both") (ack_echo.handlers ++ echo.handlers)

-- A cycle counts even if no entry reaches it; the refusal names the lowest place on a cycle, and there the first kind.
abbrev pub UnreachedCycles : Type 0
UnreachedCycles =
    (acceptance (ack_echo ∷ ack_echo ∷ []) ≡ Err (cycle 0 Ack)) ×
    (acceptance (silent_layer ∷ ack_echo ∷ ack_echo ∷ []) ≡ Err (cycle 1 Ack)) ×
    (acceptance (two_echoes_at_once ∷ two_echoes_at_once ∷ []) ≡ Err (cycle 0 Cast))

-- In the refusal a weight that 32 bits don't hold is the largest number that they do.
abbrev pub HugeWeight : Type 0
HugeWeight = acceptance (replicate 9 fan) ≡ Err (too_many 4294967295)

-- A layer with a rare handler that sends a cast up eight times, and with a common case whose condition makes a join.
abbrev pub rarely : LayerTree
rarely = bare_layer (codes "rarely")
    (on Up Cast 0 rare (each 1 (number 8) 8 (block (sends Up Cast (local 0) (message 0) 0 [] ∷ [])) ∷ []) ∷
    on Down Cast 0 (common (size (join (message 0) (message 0)))) (sends Down Cast (local 0) (message 0) 0 [] ∷ []) ∷
    [])

-- Rare handlers count, and so do joins in the condition of a common case.
abbrev pub AllCounts : Type 0
AllCounts = (largest_weight (rarely ∷ []) ≡ 9) × (largest_joins (rarely ∷ rarely ∷ []) ≡ 2)

-- Four fields: a computation with numbers alone, a difference that is always 0 but is made of a local, and two choices,
-- of which the first has `me` where it isn't chosen.
abbrev pub constant_fields : List ExpressionTree
constant_fields =
    binary Add (binary Multiply (number 2) (number 3)) (apply Bit (number 3)) ∷
    binary Subtract (local 0) (local 0) ∷
    pick (number 1) (number 2) me ∷
    pick (number 0) (number 5) (number 6) ∷ []

-- A layer that sends each cast down with a header of the four fields `constant_fields`.
abbrev pub constant_layer : LayerTree
constant_layer = record {
  name = codes "fixed";
  cells = [];
  headers = with_fields (codes "fields") 4 ∷ [];
  handlers = on Down Cast 0 always (sends Down Cast (local 0) (message 0) 1 constant_fields ∷ []) ∷ [];
}

-- Fields that are written with numbers alone are constant, others vary, even where they give one number.
abbrev pub ConstantFields : Type 0
ConstantFields = map (λ out. out.headers) (outs_of (shape (constant_layer ∷ []) app_cast First)) ≡
    (header 1 (Some 14 ∷ None ∷ None ∷ Some 6 ∷ []) ∷ []) ∷ []

-- A message without a handler passes after `none`, and can't be drawn after another header.
abbrev pub Unhandled : Type 0
Unhandled =
    (length_of (shape (counter ∷ []) (packet_entry Cast (0 ∷ [])) First) ≡ Ok 1) ×
    (shape (counter ∷ []) (packet_entry Send (1 ∷ [])) First ≡ Err (no_shape.rare 0))

-- A cast is cut, and its part taken back and sent; then a part that is held is sent.
abbrev pub parting : LayerTree
parting = record {
  name = codes "parting";
  cells = named_cell (codes "parts") (queue 4 (record { numbers = []; message = Some (codes "p", part) })) ∷ [];
  headers = record { name = codes "piece"; fields = 0; ends = true } ∷ [];
  handlers = on Down Cast 0 always
      (push 0 (number 0) 4 (record { numbers = []; message = Some (cut (message 0) (number 0) (number 8)) }) none ∷
      take 0 (number 0) (record { numbers = []; message = Some (1, part) })
      (block (sends Down Cast (local 0) (message 1) 1 [] ∷ [])) none ∷
      sends Down Cast (local 0) (held 0 (number 0) (number 0) part) 1 [] ∷ []) ∷ [];
}

-- A message that is made of a stored one is sent.
abbrev pub sending : MessageTree → LayerTree
sending m = record {
  name = codes "sending";
  cells = named_cell (codes "kept") (queue 4 (record { numbers = []; message = Some (codes "m", kept_rows) })) ∷ [];
  headers = [];
  handlers = on Down Cast 0 always (sends Down Cast (local 0) m 0 [] ∷ []) ∷ [];
}

-- The message of the front row of the queue `kept`.
abbrev pub stored_first : MessageTree
stored_first = held 0 (number 0) (number 0) kept_rows

-- Parts have no headers and can be drawn; what is made of a stored message can't be, except a part of it and a part
-- before another.
abbrev pub PartsAndStored : Type 0
PartsAndStored =
    (map (λ out. out.headers) (outs_of (shape (silent_layer ∷ parting ∷ []) app_cast First)) ≡
    (header 0 [] ∷ header 1 [] ∷ []) ∷ (header 0 [] ∷ header 1 [] ∷ []) ∷ []) ×
    (shape (sending (tail stored_first (number 1)) ∷ []) app_cast First ≡ Err (no_shape.stored 0)) ×
    (shape (sending (join (cut (message 0) (number 0) (number 1)) stored_first) ∷ []) app_cast First ≡
    Err (no_shape.stored 0)) ×
    (length_of (shape (sending (join (cut stored_first (number 0) (number 1)) (message 0)) ∷ []) app_cast First) ≡ Ok 2)
