-- A node's journal is made of bytes and numbers where its plan, its clock and its network are.
use Rattle.std.proofs.Common.{ℕ, zero, suc, ◌+◌, List, [], ◌∷◌, ◌++◌, map, length, Option, Some, None}
use Rattle.std.specs.Prelude.{take, drop, zip}
use Rattle.std.specs.List.{AllByRecursion}
use Rattle.packet_mean.specs.ChainedState.{IsNumber}
use Rattle.script_mean.specs.declared.event.ScriptEvent.TheVariants.{Tick}
use Rattle.script_mean.specs.declared.plan.NodePlan.{NodePlan}
use Rattle.run_mean.specs.Journal.{Heard, datagram, silence, failure, Note, fed, deaf, hearing, journal, planned_events}
use Rattle.run_mean.specs.Journal.{while_patient, notes_from, notes_of}
use Rattle.run_mean.specs.World.{first_world}
use Rattle.chain_laws.proofs.Lists.{each_map, each_append, each_take, each_drop}
use Rattle.member_laws.specs.Members.{IsGivenEvent}
use Rattle.member_laws.proofs.Members.{first_world_is_chained}
use Rattle.member_laws.specs.Nodes.{IsHeard, NodesAreChained}
use Rattle.member_laws.proofs.Numbered.{each_filter, worlds_are_chained}

-- a note whose event is made of bytes and numbers
abbrev Given : Note → Type 0
Given (fed event) = IsGivenEvent event
Given (deaf id) = Unit {0}

journal_given : (notes : List Note) → AllByRecursion Given notes → AllByRecursion IsGivenEvent (journal notes)
journal_given [] h = tt
journal_given (fed event ∷ notes) h = (h.0, journal_given notes h.1)
journal_given (deaf id ∷ notes) h = journal_given notes h.1

heard_given : (patience : ℕ) (pairs : List (ℕ × Heard)) → AllByRecursion (λ pair. IsHeard pair.1) pairs →
    AllByRecursion Given (hearing patience pairs).notes
heard_given patience [] h = tt
heard_given patience ((id, datagram bytes) ∷ rest) h = (h.0, heard_given patience rest h.1)
heard_given patience ((id, silence) ∷ rest) h = heard_given patience rest h.1
heard_given zero ((id, failure) ∷ rest) h = tt
heard_given (suc patience) ((id, failure) ∷ rest) h = (tt, heard_given patience rest h.1)

pairs_given : (me : List ℕ) (heard : List Heard) → AllByRecursion IsHeard heard →
    AllByRecursion (λ pair. IsHeard pair.1) (zip me heard)
pairs_given [] heard h = tt
pairs_given (id ∷ me) [] h = tt
pairs_given (id ∷ me) (x ∷ heard) h = (h.0, pairs_given me heard h.1)

ticks_given : (moment : ℕ) → IsNumber moment → (me : List ℕ) →
    AllByRecursion Given (map (λ id. fed (Tick id moment)) me)
ticks_given moment h [] = tt
ticks_given moment h (id ∷ me) = (h, ticks_given moment h me)

planned_given : (plan : NodePlan) (me : List ℕ) (t : ℕ) → AllByRecursion (λ turn. IsGivenEvent turn.1) plan.turns →
    AllByRecursion Given (map fed (planned_events plan me t))
planned_given plan me t h =
    each_map IsGivenEvent Given fed (λ event given. given) (planned_events plan me t)
    (each_map (λ turn. IsGivenEvent turn.1) IsGivenEvent (λ turn. turn.1) (λ turn given. given) _
    (each_filter (λ turn. IsGivenEvent turn.1) _ plan.turns h))

patient_given : (patience : Option ℕ) (next : ℕ → List Note) → ((left : ℕ) → AllByRecursion Given (next left)) →
    AllByRecursion Given (while_patient patience next)
patient_given None next h = tt
patient_given (Some left) next h = h left

notes_given : (plan : NodePlan) (me : List ℕ) (t turns patience : ℕ) (clock : List ℕ) (heard : List Heard) →
    AllByRecursion (λ turn. IsGivenEvent turn.1) plan.turns → AllByRecursion IsNumber clock →
    AllByRecursion IsHeard heard →
    AllByRecursion Given (notes_from plan me t turns patience clock heard)
notes_given plan me t zero patience clock heard planned told answers = tt
notes_given plan me t (suc turns) patience [] heard planned told answers = tt
notes_given plan me t (suc turns) patience (moment ∷ clock) heard planned told answers =
    let pairs = zip me (take (length me) heard) in
    each_append Given (map (λ id. fed (Tick id moment)) me ++ (hearing patience pairs).notes) _
    (each_append Given (map (λ id. fed (Tick id moment)) me) (hearing patience pairs).notes
    (ticks_given moment told.0 me)
    (heard_given patience pairs
    (pairs_given me (take (length me) heard) (each_take IsHeard (length me) heard answers))))
    (patient_given (hearing patience pairs).patience
    (λ left. map fed (planned_events plan me t) ++ notes_from plan me (t + 1) turns left clock (drop (length me) heard))
    (λ left. each_append Given (map fed (planned_events plan me t)) _ (planned_given plan me t planned)
    (notes_given plan me (t + 1) turns left clock (drop (length me) heard) planned told.1
    (each_drop IsHeard (length me) heard answers))))

pub nodes_are_chained : NodesAreChained
nodes_are_chained stack plan me turns patience clock heard typed given =
    let notes = notes_of plan me turns patience clock heard in
    worlds_are_chained stack (first_world stack plan.group plan.stamp (length plan.peers)) (journal notes) typed
    (journal_given notes (notes_given plan me 0 turns patience clock heard given.turns given.moments given.answers))
    (first_world_is_chained stack plan.group plan.stamp (length plan.peers) typed given.group given.stamp given.members)
