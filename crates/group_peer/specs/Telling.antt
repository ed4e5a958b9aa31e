-- What the calls of a member leave.
use Rattle.std.specs.Prelude.{◌≡◌, ℕ, ◌+◌, List, slice_get, Option, None}
use Rattle.run_mean.specs.Member.{Input, Output}
use Rattle.view_core.specs.declared.step.Change.{Change}
use Rattle.view_core.specs.declared.step.Stepped.{Stepped}
use Rattle.view_core.specs.declared.step.Stepped.TheVariants.{Taken, Refused}
use Rattle.group_member.specs.Placed.{Placed, Steps, StandsAt}
use Rattle.group_peer.specs.declared.peer.Peer.{Peer}

-- Where a member is since a step, if that installed something.
abbrev pub change_in : Stepped → Option Change
change_in (Taken common change) = change
change_in (Refused reason) = None

-- A member made a step, or refused its input; the visits count from 0.
pub record MakesStep (old : Placed) (input : Input) (new : Placed) (outs : List (Output × Option ℕ))
    (answer : Stepped) : Type 0 where
  pub visits : ℕ
  pub steps : Steps old input new outs 0 visits answer

-- A member took an input: it made the definition's step, or refused the input for the definition's reason and didn't
-- change; its outputs are those of the step, in order, of which none was told yet; and where it is since is told after
-- them.
pub record Took (old : Peer) (input : Input) (new : Peer) (answer : Stepped) : Type 0 where
  pub step : MakesStep old.member input new.member new.outputs.outputs answer
  pub here : StandsAt old.member new.outputs.here answer
  pub first : new.next ≡ 0
  pub change : new.change ≡ change_in answer
  pub plans : new.plans ≡ old.plans
  pub id : new.id ≡ old.id

-- The next output of a member, with its plan.
abbrev pub next_output : Peer → Option (Output × Option ℕ)
next_output p = slice_get p.outputs.outputs p.next

-- The member, with its plans, and the outputs of its last step stay.
pub record SameStep (old new : Peer) : Type 0 where
  pub member : new.member ≡ old.member
  pub id : new.id ≡ old.id
  pub plans : new.plans ≡ old.plans
  pub outputs : new.outputs ≡ old.outputs

-- Nothing changes.
pub record Stays (old new : Peer) : Type 0 where
  pub same : SameStep old new
  pub next : new.next ≡ old.next
  pub change : new.change ≡ old.change

-- A member goes past its next output, and nothing else changes.
pub record Passed (old new : Peer) : Type 0 where
  pub same : SameStep old new
  pub next : new.next ≡ old.next + 1
  pub change : new.change ≡ old.change

-- Where it is since was told, and nothing else changes.
pub record ToldChange (old new : Peer) : Type 0 where
  pub same : SameStep old new
  pub next : new.next ≡ old.next
  pub change : new.change ≡ None
