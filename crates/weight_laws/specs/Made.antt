-- The joins that a visit makes.
use Rattle.std.specs.Prelude.{ℕ, zero, suc, ◌+◌, if◌then◌else◌, min, Option, Some, None}
use Rattle.std.specs.Option.{option_map_or}
use Rattle.layer_words.specs.declared.events.Dir.{Dir}
use Rattle.layer_mean.specs.declared.run.Event.{Event}
use Rattle.layer_mean.specs.Tree.{StatementTree, bind, assign, assign_square, push, take, branch, each, emit}
use Rattle.layer_mean.specs.Tree.{StatementTrees, none, more, HandlerTree, LayerTree}
use Rattle.layer_mean.specs.State.{State, row_at, has_room, without_front}
use Rattle.layer_mean.specs.Value.{Scope, is_true, val}
use Rattle.layer_mean.specs.Effect.{Act, turns, with_slot, with_taken, in_order, acts, does}
use Rattle.layer_mean.specs.Visit.{Met, met, handler_for, entered_scope}
use Rattle.stack_mean.specs.Emissions.{joins_in, joins_in_emission, joins_in_row, joins_expected}

-- How many joins the turns of an act make, for 0, 1 and so on below a number: each turn makes what `made` says at its
-- own state and scope.
abbrev pub made_in_turns : ℕ → ℕ → Act → (State → Scope → ℕ) → State → Scope → ℕ
made_in_turns zero slot act made s l = 0
made_in_turns (suc k) slot act made s l = let o = turns k slot act s l in
    made_in_turns k slot act made s l + made o.state (with_slot slot k o.scope)

abbrev mutual
  -- How many joins a statement makes: those that are written in the expressions along the way that it takes.
  pub made : ℕ → StatementTree → State → Scope → ℕ
  made place (bind k e) s l = joins_in e
  made place (assign c i e) s l = joins_in i + joins_in e
  made place (assign_square c row column e) s l = joins_in row + joins_in column + joins_in e
  made place (push c i capacity row otherwise) s l =
      joins_in i + (if has_room s c (val i s l) capacity then joins_in_row row else made_in place otherwise s l)
  made place (take c i taken block otherwise) s l = joins_in i + option_map_or
      (λ row. made_in place block (without_front s c (val i s l)) (with_taken taken row l))
      (row_at s c (val i s l) 0) (made_in place otherwise s l)
  made place (branch likely e block otherwise) s l =
      joins_in e + (if is_true (val e s l) then made_in place block s l else made_in place otherwise s l)
  made place (each k below most block) s l =
      joins_in below + made_in_turns (min (val below s l) most) k (in_order (acts place block)) (made_in place block) s
      l
  made place (emit e) s l = joins_in_emission e

  -- How many joins the statements of a block make, each at the state and scope to which those before it have led.
  pub made_in : ℕ → StatementTrees → State → Scope → ℕ
  made_in place none s l = 0
  made_in place (more x rest) s l =
      made place x s l + (let o = does place x s l in made_in place rest o.state o.scope)

-- How many joins a handler makes, those of its common case's condition included.
abbrev pub handler_made : ℕ → Option HandlerTree → State → Event → Met → ℕ
handler_made place None s event m = 0
handler_made place (Some h) s event m = joins_expected h.expected + made_in place h.block s (entered_scope h event m)

-- How many joins a visit makes.
abbrev pub visit_joins : ℕ → LayerTree → State → Dir → Event → ℕ
visit_joins place layer s dir event = let m = met dir event.message in
    handler_made place (handler_for layer dir event.kind m.tag) s event m
