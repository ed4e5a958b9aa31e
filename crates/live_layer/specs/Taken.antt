-- A row's message, what stands in for one, and the numbers that a row fills.
use Rattle.std.specs.Prelude.{◌≡◌, ℕ, ◌+◌, ◌≤◌, Bool, true, false, List, [], Option, Some, None}
use Rattle.layer_mean.specs.Tree as tree
use Rattle.layer_mean.specs.Value.{missing}
use Rattle.layer_mean.specs.Effect.{with_slots}
use Rattle.layer_desk.specs.Need.{most_above, too_wide, taken_misfits}
use Rattle.layer_desk.specs.Spent.{Short}
use Rattle.typed_layer.specs.View.{blank_headers, carried_tree, taken_tree}
use Rattle.typed_layer.specs.declared.tree.Blank.{Blank}
use Rattle.typed_layer.specs.declared.tree.Carried.{Carried}
use Rattle.typed_layer.specs.declared.tree.Carried.TheVariants.{Part, Whole}
use Rattle.typed_layer.specs.declared.tree.Taken.{Taken}
use Rattle.typed_layer.specs.declared.tree.TakenMessage.{TakenMessage}
use Rattle.pool_message.specs.Seen.{bodiless}
use Rattle.pool_message.specs.declared.message.PoolMessage.{PoolMessage}
use Rattle.pool_message.specs.declared.row.PoolRow.{PoolRow}
use Rattle.live_layer.specs.Fits.{IsShort}

-- The message of a row, where there is a row and it has one.
abbrev pub message_of : Option PoolRow → Option PoolMessage
message_of None = None
message_of (Some row) = row.message

-- Headers that stand in for those of a missing message are of places, and of no more than there are above a layer.
abbrev pub CanStandIn : Carried → Type 0
CanStandIn Part = Unit {0}
CanStandIn (Whole blank) = (blank.count ≤ most_above) × (blank.first + blank.count ≤ 256)

abbrev pub CanTakeTo : Option TakenMessage → Type 0
CanTakeTo None = Unit {0}
CanTakeTo (Some slot) = CanStandIn slot.carried

abbrev pub CanTake : Taken → Type 0
CanTake taken = CanTakeTo taken.message

abbrev pub JudgesBlank : Blank → Bool → Type 0
JudgesBlank blank true = Short 0 (too_wide (tree.whole (blank_headers blank)))
JudgesBlank blank false = CanStandIn (Whole blank)

abbrev pub JudgesWidth : Carried → Bool → Type 0
JudgesWidth carried true = Short 0 (too_wide (carried_tree carried))
JudgesWidth carried false = CanStandIn carried

abbrev pub JudgesTaken : Taken → Bool → Type 0
JudgesTaken taken true = Short 0 (taken_misfits (taken_tree taken))
JudgesTaken taken false = CanTake taken

-- A message stands in for a missing one.
pub record StandsIn (carried : tree.Carried) (m : PoolMessage) : Type 0 where
  pub is : m ≡ bodiless (missing carried).headers
  pub short : IsShort m

-- The message that a row leaves: its own, or the one that stands in for it.
abbrev pub message_left : tree.Carried → Option PoolMessage → PoolMessage
message_left carried None = bodiless (missing carried).headers
message_left carried (Some m) = m

-- A row's message has no bytes, or there is none.
abbrev pub IsSpent : Option PoolMessage → Type 0
IsSpent None = Unit {0}
IsSpent (Some m) = m.body ≡ None

-- Numbers of a scope, with those of a row in these slots.
abbrev pub numbers_filled : List ℕ → List ℕ → List ℕ → List ℕ
numbers_filled slots values numbers = (with_slots slots values (record { numbers = numbers; messages = [] })).numbers
