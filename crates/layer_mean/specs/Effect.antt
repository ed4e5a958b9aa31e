-- What statements do.
use Rattle.std.specs.Prelude.{ℕ, zero, suc, Bool, true, false, not, if◌then◌else◌, List, [], ◌∷◌, ◌++◌, map, min}
use Rattle.std.specs.Prelude.{slice_set, Option, Some, None, option_map}
use Rattle.std.specs.List.{fold, list_all, position}
use Rattle.std.specs.Option.{option_map_or}
use Rattle.msg_core.specs.Chain.{Content, pushed}
use Rattle.msg_core.specs.declared.message.Header.{Header}
use Rattle.layer_words.specs.declared.events.Dir.{Dir}
use Rattle.layer_words.specs.declared.events.Dir.TheVariants.{Up, Down}
use Rattle.layer_words.specs.declared.sorts.Likely.{Likely}
use Rattle.layer_words.specs.declared.sorts.Likely.TheVariants as likely
use Rattle.layer_mean.specs.declared.run.Case.{Case}
use Rattle.layer_mean.specs.declared.run.Case.TheVariants.{First, Second}
use Rattle.layer_mean.specs.declared.run.Event.{Event}
use Rattle.layer_mean.specs.declared.run.Row.{Row}
use Rattle.layer_mean.specs.Event.{event_of}
use Rattle.layer_mean.specs.Tree.{ContentTree, EmissionTree, RowTree, TakenTree, StatementTree, bind, assign}
use Rattle.layer_mean.specs.Tree.{assign_square, push, take, branch, each, emit, StatementTrees, none, more}
use Rattle.layer_mean.specs.State.{State, flat_index, row_at, has_room, with_number, with_row, without_front}
use Rattle.layer_mean.specs.Value.{Scope, is_true, val, mval, message_in}

-- How a decision of a visit went: as predicted, or not; or, at a condition with two predicted ways, as it is predicted
-- in this case. What can't be predicted, such as a loop, is a decision that didn't go as predicted.
pub data Decision : Type 0 where
  usual : Decision
  unusual : Decision
  forked : Case → Decision

-- Whether a decision went as it is predicted in a case.
abbrev pub went_as : Case → Decision → Bool
went_as case usual = true
went_as case unusual = false
went_as First (forked First) = true
went_as First (forked Second) = false
went_as Second (forked First) = false
went_as Second (forked Second) = true

-- Whether all decisions went as predicted in a case.
abbrev pub all_as : Case → List Decision → Bool
all_as case decided = list_all (went_as case) decided

-- The number of the first decision that didn't go as predicted in a case, counted from 0, if there is one.
abbrev pub first_missed : Case → List Decision → Option ℕ
first_missed case decided = position (λ d. not (went_as case d)) decided

-- What a stretch of statements yields: the state and the scope after it, and, in order, the events that it sent and its
-- decisions.
pub record Outcome : Type 0 where
  pub state : State
  pub scope : Scope
  pub sent : List (Dir × Event)
  pub decided : List Decision

-- What is done at a state and a scope.
abbrev pub Act : Type 0
Act = State → Scope → Outcome

-- Nothing is sent or decided, and the state and the scope are these.
abbrev pub done : Act
done s l = record { state = s; scope = l; sent = []; decided = [] }

-- One act after what was done before.
abbrev pub after : Outcome → Act → Outcome
after o act = let p = act o.state o.scope in
    record { state = p.state; scope = p.scope; sent = o.sent ++ p.sent; decided = o.decided ++ p.decided }

-- Acts in order.
abbrev pub in_order : List Act → Act
in_order acts s l = fold after (done s l) acts

-- A decision before what follows from it.
abbrev pub decides : Decision → Outcome → Outcome
decides d o = record o { decided = d ∷ o.decided }

-- A scope with this number in slot k; a slot outside changes nothing.
abbrev pub with_slot : ℕ → ℕ → Scope → Scope
with_slot k v l = record l { numbers = slice_set l.numbers k v }

-- A scope with this message in slot k; a slot outside changes nothing.
abbrev pub with_message : ℕ → Content → Scope → Scope
with_message k m l = record l { messages = slice_set l.messages k m }

-- An act done for each number below a count, from 0 up; a slot of the scope holds the number.
abbrev pub turns : ℕ → ℕ → Act → Act
turns zero slot act s l = done s l
turns (suc k) slot act s l = after (turns k slot act s l) (λ t m. act t (with_slot slot k m))

-- The row whose numbers and message are the values of its expressions.
abbrev pub row_of : RowTree → State → Scope → Row
row_of r s l = record { numbers = map (λ e. val e s l) r.numbers; message = option_map (λ m. mval m s l) r.message }

-- A scope in which the numbers of a list stand in these slots.
abbrev pub with_slots : List ℕ → List ℕ → Scope → Scope
with_slots (k ∷ slots) (v ∷ values) l = with_slots slots values (with_slot k v l)
with_slots _ _ l = l

-- A scope in which a taken row's message stands in its slot, where it has one.
abbrev pub with_taken : TakenTree → Row → Scope → Scope
with_taken t row l = option_map_or
    (λ slot. with_message slot.0 (message_in slot.1 (Some row)) (with_slots t.numbers row.numbers l))
    t.message (with_slots t.numbers row.numbers l)

-- The header of an emission from a place.
abbrev pub header_of : ℕ → ContentTree → State → Scope → Header
header_of place c s l = record { layer = place; tag = c.tag; fields = map (λ e. val e s l) c.fields }

-- A message going down gets the sending layer's header; going up it has lost it (Hayden).
abbrev pub sent_as : Dir → Header → Content → Content
sent_as Up header m = m
sent_as Down header m = pushed header m

-- The event of an emission, whose arguments are evaluated at once.
abbrev pub emitted_event : ℕ → EmissionTree → State → Scope → Event
emitted_event place e s l = event_of e.kind (map (λ n. val n s l) e.numbers)
    (option_map (λ c. sent_as e.direction (header_of place c s l) (mval c.message s l)) e.content)

-- The outcome that a condition chooses of two, with the decision that the choice is.
abbrev pub chosen_outcome : Bool → Likely → Outcome → Outcome → Outcome
chosen_outcome true likely.First first second = decides usual first
chosen_outcome true likely.Else first second = decides unusual first
chosen_outcome true likely.Two first second = decides (forked First) first
chosen_outcome false likely.First first second = decides unusual second
chosen_outcome false likely.Else first second = decides usual second
chosen_outcome false likely.Two first second = decides (forked Second) second

-- A row that was looked for: if it was found, one act is done with it, and else another.
abbrev pub taking : Option Row → (Row → Outcome) → Outcome → Outcome
taking (Some row) first second = decides usual (first row)
taking None first second = decides unusual second

abbrev mutual
  -- One statement of the layer at a place.
  pub does : ℕ → StatementTree → Act
  does place (bind k e) s l = done s (with_slot k (val e s l) l)
  does place (assign c i e) s l = done (with_number s c (val i s l) (val e s l)) l
  does place (assign_square c row column e) s l =
      done (with_number s c (flat_index s.count (val row s l) (val column s l)) (val e s l)) l
  does place (push c i capacity row otherwise) s l = if has_room s c (val i s l) capacity
      then decides usual (done (with_row s c (val i s l) (row_of row s l)) l)
      else decides unusual (in_order (acts place otherwise) s l)
  does place (take c i taken block otherwise) s l = taking (row_at s c (val i s l) 0)
      (λ row. in_order (acts place block) (without_front s c (val i s l)) (with_taken taken row l))
      (in_order (acts place otherwise) s l)
  does place (branch likely condition block otherwise) s l =
      chosen_outcome (is_true (val condition s l)) likely (in_order (acts place block) s l)
      (in_order (acts place otherwise) s l)
  does place (each k below most block) s l =
      decides unusual (turns (min (val below s l) most) k (in_order (acts place block)) s l)
  does place (emit e) s l = record (done s l) { sent = (e.direction, emitted_event place e s l) ∷ [] }

  -- What each statement of a block does, in order.
  pub acts : ℕ → StatementTrees → List Act
  acts place none = []
  acts place (more x rest) = does place x ∷ acts place rest
