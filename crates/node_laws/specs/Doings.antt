-- What a node does, call by call: its members' events, what they ask the network, and the failures that it bears. Its
-- notes are what is written of these.
use Rattle.std.specs.Prelude.{◌≡◌, ℕ, zero, suc, ◌+◌, List, [], ◌∷◌, ◌++◌, map, length, take, drop, zip, Option, Some}
use Rattle.std.specs.Prelude.{None}
use Rattle.std.specs.List.{filter_map}
use Rattle.script_mean.specs.declared.event.ScriptEvent.{ScriptEvent}
use Rattle.script_mean.specs.declared.event.ScriptEvent.TheVariants.{Tick, Raw}
use Rattle.script_mean.specs.declared.plan.NodePlan.{NodePlan}
use Rattle.run_mean.specs.Journal.{Heard, datagram, silence, failure, Note, fed, deaf, journal, planned_events}
use Rattle.group_mean.specs.Node.{notes_from, receiving}

-- A member takes an event; a member asks the network, and hears something; a failure to hear is borne.
pub data Doing : Type 0 where
  does : ScriptEvent → Doing
  asks : (id : ℕ) → Heard → Doing
  bears : (id : ℕ) → Doing

-- What is done as members ask in a turn, and how many more failures are borne. A failure that isn't borne leaves None
-- here, and nothing is done after it.
pub record Asking : Type 0 where
  pub doings : List Doing
  pub patience : Option ℕ

abbrev pub doing : List Doing → Asking → Asking
doing more a = record a { doings = more ++ a.doings }

abbrev pub asking : ℕ → List (ℕ × Heard) → Asking
asking patience [] = record { doings = []; patience = Some patience }
asking patience ((id, datagram bytes) ∷ rest) = doing (asks id (datagram bytes) ∷ does (Raw id bytes) ∷ [])
    (asking patience rest)
asking patience ((id, silence) ∷ rest) = doing (asks id silence ∷ []) (asking patience rest)
asking zero ((id, failure) ∷ rest) = record { doings = asks id failure ∷ []; patience = None }
asking (suc patience) ((id, failure) ∷ rest) = doing (asks id failure ∷ bears id ∷ []) (asking patience rest)

-- What follows, unless a failure wasn't borne.
abbrev pub while_patient : Option ℕ → (ℕ → List Doing) → List Doing
while_patient None next = []
while_patient (Some left) next = next left

-- What is done from a turn on.
abbrev pub doings_from : NodePlan → List ℕ → (t turns patience : ℕ) (moments : List ℕ) (heard : List Heard) → List Doing
doings_from plan me t zero patience clock heard = []
doings_from plan me t (suc turns) patience [] heard = []
doings_from plan me t (suc turns) patience (moment ∷ clock) heard =
    let a = asking patience (zip (receiving me) (take (length (receiving me)) heard)) in
    map (λ id. does (Tick id moment)) me ++ a.doings
    ++ while_patient a.patience (λ left.
    map does (planned_events plan me t)
    ++ doings_from plan me (t + 1) turns left clock (drop (length (receiving me)) heard))

abbrev pub doings_of : NodePlan → List ℕ → (turns patience : ℕ) → List ℕ → List Heard → List Doing
doings_of plan me turns patience clock heard = doings_from plan me 0 turns patience clock heard

-- What is noted of it.
abbrev pub note_in : Doing → Option Note
note_in (does event) = Some (fed event)
note_in (asks id heard) = None
note_in (bears id) = Some (deaf id)

-- The events of what is done, and what members heard in it.
abbrev pub events_of : List Doing → List ScriptEvent
events_of doings = journal (filter_map note_in doings)

abbrev pub heard_in : List Doing → List Heard
heard_in [] = []
heard_in (does event ∷ doings) = heard_in doings
heard_in (asks id heard ∷ doings) = heard ∷ heard_in doings
heard_in (bears id ∷ doings) = heard_in doings

-- The notes of what a node does are its notes.
abbrev pub NotesAreOfDoings : Type 0
NotesAreOfDoings = (plan : NodePlan) (me : List ℕ) (t turns patience : ℕ) (clock : List ℕ) (heard : List Heard) →
    filter_map note_in (doings_from plan me t turns patience clock heard) ≡
    notes_from plan me t turns patience clock heard
