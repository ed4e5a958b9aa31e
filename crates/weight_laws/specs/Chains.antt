-- That tasks with chained messages are known.
use Rattle.std.specs.Prelude.{ℕ, ◌+◌, ◌-◌, ◌≤◌, Bool, true, false, List, length, drop, Option, Some, None}
use Rattle.msg_core.specs.Chain.{Content}
use Rattle.layer_words.specs.declared.events.Dir.{Dir}
use Rattle.layer_words.specs.declared.events.Dir.TheVariants.{Up, Down}
use Rattle.layer_mean.specs.declared.run.Event.{Event}
use Rattle.layer_mean.specs.Event.{carries}
use Rattle.layer_mean.specs.Tree.{LayerTree}
use Rattle.layer_mean.specs.Queue.{Task}
use Rattle.packet_mean.specs.Chained.{IsChain}
use Rattle.weight_laws.specs.Nodes.{IsKnown}

-- The place, counted from 0, of the first header of a message that arrives somewhere: going up the place's own, going
-- down that of the place above.
abbrev pub first_place : Dir → ℕ → ℕ
first_place Up at = at - 1
first_place Down at = at

-- There is a message where the kind carries one, and its headers are a chain from a place.
abbrev pub HasChain : List LayerTree → ℕ → Bool → Option Content → Type 0
HasChain stack place true (Some m) = IsChain (drop place stack) place m.headers
HasChain stack place false None = Unit {0}
HasChain stack place _ _ = ⊥

-- A task somewhere in a stack whose message is chained for its place is known.
abbrev pub ChainedTasksAreKnown : Type 0
ChainedTasksAreKnown = (stack : List LayerTree) (t : Task Event) → t.at ≤ length stack + 1 →
    HasChain stack (first_place t.dir t.at) (carries t.event.kind) t.event.message → IsKnown stack t
