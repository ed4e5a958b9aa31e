-- Events that leave a stack, one by one.
use Rattle.std.specs.Prelude.{◌≡◌, ◌+◌, ◌≤◌, List, ◌++◌, length, is_some}
use Rattle.std.specs.List.{AllByRecursion}
use Rattle.slot_pool.specs.Held.{Held, spare}
use Rattle.slot_pool.specs.References.{Moved, Covers}
use Rattle.layer_words.specs.declared.events.Dir.{Dir}
use Rattle.layer_mean.specs.Event.{carries}
use Rattle.pool_message.specs.Sent.{sent_refs, SentLie}
use Rattle.pool_message.specs.declared.event.PoolEvent.{PoolEvent}
use Rattle.step_outputs.specs.Gathered.{Gathered}
use Rattle.group_member.specs.Working.{outputs_in}

-- An event has a message exactly where its kind carries one.
abbrev pub BringsAsKind : Dir × PoolEvent → Type 0
BringsAsKind x = is_some x.1.message ≡ carries x.1.kind

-- Of all events that came out, as the first pool holds them, these are left, as the present pool holds them: the
-- outputs so far, with those of the events that are left, are all outputs.
pub record IsGathering (start : List Held) (all : List (Dir × PoolEvent)) (first : Gathered) (p : List Held)
    (left : List (Dir × PoolEvent))
    (now : Gathered) : Type 0 where
  pub lie : SentLie p left
  pub covers : Covers p (sent_refs left)
  pub bring : AllByRecursion BringsAsKind left
  pub room : length now.outputs + length left ≤ now.places
  pub moved : Moved start p (sent_refs all) (sent_refs left)
  pub slots : spare start ≤ spare p
  pub outputs : now.outputs ++ outputs_in now.here p left ≡ first.outputs ++ outputs_in first.here start all
  pub here : now.here ≡ first.here
  pub places : now.places ≡ first.places
