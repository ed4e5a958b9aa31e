-- Layers with two common cases, drawn in both.
use Rattle.std.specs.Prelude.{◌≡◌, List, [], ◌∷◌, None, Ok, Err, codes}
use Rattle.layer_words.specs.declared.events.Dir.TheVariants.{Down}
use Rattle.layer_words.specs.declared.events.Kind.TheVariants.{Cast, Send}
use Rattle.layer_words.specs.declared.sorts.Likely.TheVariants.{Two}
use Rattle.layer_words.specs.declared.operators.Operator.TheVariants.{Equal, BitAnd}
use Rattle.layer_words.specs.declared.sorts.Shape.TheVariants.{One}
use Rattle.layer_mean.specs.declared.run.Case.TheVariants.{First, Second}
use Rattle.layer_mean.specs.Tree.{ExpressionTree, number, local, binary, message, StatementTree, branch, each, always}
use Rattle.layer_mean.specs.Tree.{numbers, LayerTree}
use Rattle.stack_mean.specs.NoShape as no_shape
use Rattle.stack_mean.specs.Shape.{app_cast, app_send, packet_entry, shape}
use Rattle.stack_mean.specs.Plans.{plans_of}
use Rattle.stack_mean.specs.SampleLayers.{block, sends, on, cell, raise, named_cell, with_fields, silent_layer}
use Rattle.stack_mean.specs.Samples.{length_of, header, visit, out, made_by}

-- Whether the counter is odd.
abbrev pub is_odd : ExpressionTree
is_odd = binary Equal (binary BitAnd (cell 0) (number 1)) (number 1)

-- A condition with two predicted ways over the counter.
abbrev pub either : List StatementTree → List StatementTree → StatementTree
either first second = branch Two is_odd (block first) (block second)

-- A layer whose casts do this.
abbrev pub casting : List StatementTree → LayerTree
casting statements = record {
  name = codes "flip";
  cells = named_cell (codes "k") (numbers One (number 0)) ∷ [];
  headers = with_fields (codes "a") 1 ∷ with_fields (codes "b") 1 ∷ [];
  handlers = on Down Cast 0 always statements ∷ [];
}

-- Casts are counted, and those of odd numbers get another header than those of even ones.
abbrev pub flip : LayerTree
flip = casting (raise 0 ∷
    either (sends Down Cast (local 0) (message 0) 1 (cell 0 ∷ []) ∷ [])
    (sends Down Cast (local 0) (message 0) 2 (cell 0 ∷ []) ∷ []) ∷ [])

-- A cast has a shape in both cases; a send meets no such condition, so that its second case is the same as its first.
abbrev pub FlipShapes : Type 0
FlipShapes =
    (shape (flip ∷ []) app_cast First ≡
    Ok (record {
      visits = visit 0 Down 0 None ∷ [];
      outs = out Down (header 1 (None ∷ []) ∷ []) (made_by 0 0) ∷
          [];
      length = 5;
    })) ×
    (shape (flip ∷ []) app_cast Second ≡
    Ok (record {
      visits = visit 0 Down 0 None ∷ [];
      outs = out Down (header 2 (None ∷ []) ∷ []) (made_by 0 0) ∷
          [];
      length = 5;
    })) ×
    (length_of (shape (flip ∷ []) app_send First) ≡ Ok 1) ×
    (shape (flip ∷ []) app_send Second ≡ Err no_shape.same)

-- The plans of the first case stand before those of the second. Their packets have no shape, since no handler takes
-- them.
abbrev pub FlipPlans : Type 0
FlipPlans =
    (plans_of (flip ∷ []) ≡
    record { kind = Cast; tags = 1 ∷ []; fields = None ∷ [] } ∷ record { kind = Send; tags = 0 ∷ []; fields = [] } ∷
    record { kind = Cast; tags = 2 ∷ []; fields = None ∷ [] } ∷ []) ×
    (shape (flip ∷ []) (packet_entry Cast (1 ∷ [])) First ≡ Err (no_shape.rare 0)) ×
    (shape (flip ∷ []) (packet_entry Cast (2 ∷ [])) First ≡ Err (no_shape.rare 0)) ×
    (shape (flip ∷ []) (packet_entry Cast (1 ∷ [])) Second ≡ Err no_shape.same)

-- A loop.
abbrev pub looping : StatementTree
looping = each 1 (number 2) 2 (block [])

-- The cast that came, sent down with the header `none`.
abbrev pub plain_cast : StatementTree
plain_cast = sends Down Cast (local 0) (message 0) 0 []

-- The first case may fail after a condition with two predicted ways while the second has a shape; a failure before the
-- condition fails both. A condition that the first case meets after a visit of another layer counts.
abbrev pub FailedCases : Type 0
FailedCases =
    (shape (casting (either (looping ∷ []) (plain_cast ∷ []) ∷ []) ∷ []) app_cast First ≡ Err (no_shape.loop 0)) ×
    (length_of (shape (casting (either (looping ∷ []) (plain_cast ∷ []) ∷ []) ∷ []) app_cast Second) ≡ Ok 3) ×
    (shape (casting (looping ∷ either (plain_cast ∷ []) (plain_cast ∷ []) ∷ []) ∷ []) app_cast Second ≡
    Err no_shape.same) ×
    (length_of (shape (flip ∷ silent_layer ∷ []) app_cast Second) ≡ Ok 5)
