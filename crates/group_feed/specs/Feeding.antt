-- What a world is after an event.
use Rattle.std.specs.Prelude.{ℕ, List, Option, Result, Ok, Err}
use Rattle.msg_core.specs.declared.message.Memory.{Memory}
use Rattle.run_mean.specs.Member.{Output}
use Rattle.run_mean.specs.World.{Happening}
use Rattle.view_core.specs.Happenings.{DidIs}
use Rattle.view_core.specs.declared.step.Did.{Did}
use Rattle.group_feed.specs.Standing.{Peopled, Stands, Stays}

-- The event was fed: the world after it, and what is told of it in the group's mode, are those of what happened.
pub record IsFed (c : Peopled) (h : Happening) (c' : Peopled) (outs : List (Output × Option ℕ)) (before after : ℕ)
    (did : Did) : Type 0 where
  pub world : Stands c' h.world
  pub told : DidIs c.mode c.stack c.plans h.did outs before after did

-- Where memory ran out, nothing is said of members and packets.
abbrev pub Fed : Peopled → Happening → Peopled → List (Output × Option ℕ) → (before after : ℕ) → Result Did Memory →
    Type 0
Fed c h c' outs before after (Ok did) = IsFed c h c' outs before after did
Fed c h c' outs before after (Err memory) = Stays c c'
