-- A visit makes no more joins than are counted of its handler.
use Rattle.std.proofs.Common.{ℕ, zero, suc, ◌+◌, ◌*◌, ◌≤◌, Bool, true, false, min, Option, Some, None, mul-le-mul_right}
use Rattle.std.proofs.Common.{arith}
use Rattle.std.specs.Prelude.{if◌then◌else◌}
use Rattle.std.specs.Option.{option_map_or}
use Rattle.layer_mean.specs.declared.run.Event.{Event}
use Rattle.layer_mean.specs.declared.run.Row.{Row}
use Rattle.layer_mean.specs.Tree.{StatementTree, bind, assign, assign_square, push, take, branch, each, emit}
use Rattle.layer_mean.specs.Tree.{StatementTrees, none, more, HandlerTree}
use Rattle.layer_mean.specs.State.{State, row_at, has_room, without_front}
use Rattle.layer_mean.specs.Value.{Scope, is_true, val}
use Rattle.layer_mean.specs.Effect.{Act, Outcome, turns, with_slot, with_taken, in_order, acts, does}
use Rattle.layer_mean.specs.Visit.{Met, entered_scope}
use Rattle.stack_mean.specs.Emissions.{joins_in_row, joins, joins_of, handler_joins}
use Rattle.weight_laws.specs.Made.{made_in_turns, made, made_in, handler_made}

turns_make : (n k slot : ℕ) (act : Act) (count : State → Scope → ℕ) (s : State) (l : Scope) →
    ((t : State) (m : Scope) → count t m ≤ n) →
    made_in_turns k slot act count s l ≤ k * n
turns_make n zero slot act count s l h = omega arith
turns_make n (suc k) slot act count s l h =
    let o : Outcome = turns k slot act s l in
    omega (arith, turns_make n k slot act count s l h, h o.state (with_slot slot k o.scope))

one_of : (b : Bool) (m n : ℕ) (x y : ℕ) → x ≤ m → y ≤ n → (if b then x else y) ≤ m + n
one_of true m n x y one other = omega arith
one_of false m n x y one other = omega arith

row_or : (row : Option Row) (m n : ℕ) (f : Row → ℕ) (y : ℕ) → ((r : Row) → f r ≤ m) → y ≤ n →
    option_map_or f row y ≤ m + n
row_or (Some r) m n f y one other = omega (arith, one r)
row_or None m n f y one other = omega arith

mutual
  made_le : (place : ℕ) (x : StatementTree) (s : State) (l : Scope) → made place x s l ≤ joins x
  made_le place (bind k e) s l = omega arith
  made_le place (assign c i e) s l = omega arith
  made_le place (assign_square c row column e) s l = omega arith
  made_le place (push c i capacity row otherwise) s l =
      omega (
        arith,
        one_of (has_room s c (val i s l) capacity) (joins_in_row row) (joins_of otherwise) (joins_in_row row)
            (made_in place otherwise s l) (omega arith) (made_in_le place otherwise s l),
      )
  made_le place (take c i taken block otherwise) s l =
      omega (
        arith,
        row_or (row_at s c (val i s l) 0) (joins_of block) (joins_of otherwise)
            (λ row. made_in place block (without_front s c (val i s l)) (with_taken taken row l))
            (made_in place otherwise s l)
            (λ row. made_in_le place block (without_front s c (val i s l)) (with_taken taken row l))
            (made_in_le place otherwise s l),
      )
  made_le place (branch likely e block otherwise) s l =
      omega (
        arith,
        one_of (is_true (val e s l)) (joins_of block) (joins_of otherwise) (made_in place block s l)
            (made_in place otherwise s l)
            (made_in_le place block s l) (made_in_le place otherwise s l),
      )
  made_le place (each k below most block) s l =
      let turned = turns_make (joins_of block) (min (val below s l) most) k (in_order (acts place block))
      (made_in place block) s l
      (λ t m. made_in_le place block t m) in
      let fewer : min (val below s l) most * joins_of block ≤ most * joins_of block =
      mul-le-mul_right (joins_of block) (omega arith) in
      omega arith
  made_le place (emit e) s l = omega arith

  made_in_le : (place : ℕ) (xs : StatementTrees) (s : State) (l : Scope) → made_in place xs s l ≤ joins_of xs
  made_in_le place none s l = omega arith
  made_in_le place (more x rest) s l =
      omega (arith, made_le place x s l, made_in_le place rest (does place x s l).state (does place x s l).scope)

pub handler_makes : (place : ℕ) (o : Option HandlerTree) (s : State) (event : Event) (m : Met) →
    handler_made place o s event m ≤ option_map_or handler_joins o 0
handler_makes place None s event m = omega arith
handler_makes place (Some h) s event m = omega (arith, made_in_le place h.block s (entered_scope h event m))
