-- What a node is told, by its words and by what surrounds it, and what comes of that.
use Rattle.std.specs.Prelude.{ℕ, zero, suc, ◌+◌, ◌==◌, Bool, true, false, List, [], ◌∷◌, ◌++◌, map, length, take, drop}
use Rattle.std.specs.Prelude.{zip, count_by}
use Rattle.layer_mean.specs.Tree.{LayerTree}
use Rattle.script_mean.specs.declared.plan.NodePlan.{NodePlan}
use Rattle.stack_mean.specs.Plans.{plans_of}
use Rattle.run_mean.specs.Mode.{Mode}
use Rattle.run_mean.specs.Journal.{Heard, failure, Note, fed, hearing, while_patient, planned_events, node_run, Handed}
use Rattle.run_mean.specs.Journal.{handed_datagrams}
use Rattle.script_mean.specs.declared.event.ScriptEvent.TheVariants.{Tick}
use Rattle.run_mean.specs.Report.{Moment}

-- How often each own member receives in a turn.
abbrev pub receives_a_turn : ℕ
receives_a_turn = 16

-- Members so many times over, each time in their order.
abbrev pub rounds_of : ℕ → List ℕ → List ℕ
rounds_of zero me = []
rounds_of (suc rounds) me = me ++ rounds_of rounds me

-- Which member each receive of a turn is for: in each round each own member receives once.
unfoldable pub receiving : List ℕ → List ℕ
receiving me = rounds_of receives_a_turn me

-- The notes from a turn on: a tick of the turn's moment at each own member, what the members heard as each received so
-- often, and the plan's events. They end where no moment is left, or at a failure that isn't borne; what was heard
-- earlier in that turn stays among them.
abbrev pub notes_from : NodePlan → List ℕ → (t turns patience : ℕ) (moments : List ℕ) (heard : List Heard) → List Note
notes_from plan me t zero patience clock heard = []
notes_from plan me t (suc turns) patience [] heard = []
notes_from plan me t (suc turns) patience (moment ∷ clock) heard =
    let h = hearing patience (zip (receiving me) (take (length (receiving me)) heard)) in
    map (λ id. fed (Tick id moment)) me ++ h.notes
    ++ while_patient h.patience (λ left.
    map fed (planned_events plan me t)
    ++ notes_from plan me (t + 1) turns left clock (drop (length (receiving me)) heard))

-- The notes of a node, from its plan, its own members, the numbers of turns that it makes and of failures that it
-- bears, what its clock told in each turn, and what its members heard.
abbrev pub notes_of : NodePlan → List ℕ → (turns patience : ℕ) → List ℕ → List Heard → List Note
notes_of plan me turns patience clock heard = notes_from plan me 0 turns patience clock heard

-- What the clock and the network of a node told: the moment of each turn, what own members heard, receive by receive,
-- and the packet of each sending that failed, by its number.
pub record Surroundings : Type 0 where
  pub clock : List ℕ
  pub heard : List Heard
  pub lost : List ℕ

-- How often the sending of a packet failed.
abbrev pub failed_sends : Surroundings → ℕ → ℕ
failed_sends s k = count_by (λ lost. lost == k) s.lost

-- What the words of a node say: how many turns it makes, its own members, how many failed receives it bears, and its
-- mode.
pub record NodeWords : Type 0 where
  pub turns : ℕ
  pub me : List ℕ
  pub patience : ℕ
  pub mode : Mode

-- The words of a node that makes so many turns with these own members, bears so many failed receives, and runs in this
-- mode.
abbrev pub node_words : ℕ → List ℕ → ℕ → Mode → NodeWords
node_words turns me patience mode = record { turns = turns; me = me; patience = patience; mode = mode }

-- The notes of a node: what its members took and what they couldn't hear, whatever the surroundings told.
abbrev pub node_notes : NodePlan → NodeWords → Surroundings → List Note
node_notes plan words s = notes_of plan words.me words.turns words.patience s.clock s.heard

-- The moments of a node's journal, which is a list of script events.
abbrev pub node_moments : List LayerTree → NodePlan → NodeWords → Surroundings → List Moment
node_moments stack plan words s = node_run stack (plans_of stack) plan (node_notes plan words s)

-- What a node hands to the network.
abbrev pub handed_by : List LayerTree → NodePlan → NodeWords → Surroundings → List Handed
handed_by stack plan words s = handed_datagrams words.mode stack (plans_of stack) (node_moments stack plan words s)

-- Whether a receive failed.
abbrev pub is_failure : Heard → Bool
is_failure failure = true
is_failure _ = false

-- How many receives failed.
abbrev pub failures : List Heard → ℕ
failures heard = count_by is_failure heard
