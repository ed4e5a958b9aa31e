-- How a predicted way is walked on a state: step by step, as long as all goes as predicted.
use Rattle.std.specs.Prelude.{ℕ, true, false, if◌then◌else◌, List, [], ◌∷◌, ◌++◌, Option, Some, None}
use Rattle.layer_words.specs.declared.events.Dir.{Dir}
use Rattle.layer_mean.specs.declared.run.Case.TheVariants.{First, Second}
use Rattle.layer_mean.specs.declared.run.Event.{Event}
use Rattle.layer_mean.specs.declared.run.Row.{Row}
use Rattle.layer_mean.specs.Tree.{TakenTree}
use Rattle.layer_mean.specs.State.{State, flat_index, row_at, has_room, with_number, with_row, without_front}
use Rattle.layer_mean.specs.Value.{Scope, is_true, val}
use Rattle.layer_mean.specs.Effect.{with_slot, with_taken, row_of, emitted_event}
use Rattle.layer_mean.specs.Way.{Step, test, fork, set_slot, set_number, set_square, put, get, send, loop}

-- Where a walk stands: the state, the scope, and what was sent so far.
pub record Here : Type 0 where
  pub state : State
  pub scope : Scope
  pub sent : List (Dir × Event)

-- The row that is taken, if it is there.
abbrev pub took : ℕ → ℕ → TakenTree → Here → Option Row → Option Here
took c i taken h None = None
took c i taken h (Some row) =
    Some (record h { state = without_front h.state c i; scope = with_taken taken row h.scope })

-- One step, where it goes as predicted.
abbrev pub walk_step : ℕ → Step → Here → Option Here
walk_step place (test true e) h = if is_true (val e h.state h.scope) then Some h else None
walk_step place (test false e) h = if is_true (val e h.state h.scope) then None else Some h
walk_step place (fork First e) h = if is_true (val e h.state h.scope) then Some h else None
walk_step place (fork Second e) h = if is_true (val e h.state h.scope) then None else Some h
walk_step place (set_slot k e) h = Some (record h { scope = with_slot k (val e h.state h.scope) h.scope })
walk_step place (set_number c i e) h =
    Some (record h { state = with_number h.state c (val i h.state h.scope) (val e h.state h.scope) })
walk_step place (set_square c row column e) h = Some (record h {
  state = with_number h.state c (flat_index h.state.count (val row h.state h.scope) (val column h.state h.scope))
      (val e h.state h.scope);
})
walk_step place (put c i capacity row) h = if has_room h.state c (val i h.state h.scope) capacity
    then Some (record h { state = with_row h.state c (val i h.state h.scope) (row_of row h.state h.scope) })
    else None
walk_step place (get c i taken) h = took c (val i h.state h.scope) taken h (row_at h.state c (val i h.state h.scope) 0)
walk_step place (send e) h =
    Some (record h { sent = h.sent ++ (e.direction, emitted_event place e h.state h.scope) ∷ [] })
walk_step place loop h = None

-- What is done from where a walk stands.
abbrev pub onward : (Here → Option Here) → Option Here → Option Here
onward go None = None
onward go (Some h) = go h

-- Steps in order.
abbrev pub walk : ℕ → List Step → Here → Option Here
walk place [] h = Some h
walk place (x ∷ xs) h = onward (walk place xs) (walk_step place x h)
