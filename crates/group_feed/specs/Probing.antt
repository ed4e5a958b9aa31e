-- What an event that is tried as a common step yields.
use Rattle.std.specs.Prelude.{◌≡◌, true, false, List, Option, Some, None, option_map, Result, Ok, Err}
use Rattle.layer_mean.specs.Tree.{LayerTree}
use Rattle.msg_core.specs.declared.message.Memory.{Memory}
use Rattle.stack_mean.specs.Plan.{Plan}
use Rattle.run_mean.specs.Common.{is_common}
use Rattle.run_mean.specs.Member.{Step}
use Rattle.run_mean.specs.World.{Did, taken, Happening}
use Rattle.lack_mean.specs.Lacks.{missed_in}
use Rattle.step_misses.specs.Misses.{miss_meant}
use Rattle.step_misses.specs.declared.miss.Miss.{Miss}
use Rattle.step_misses.specs.declared.miss.Probed.{Probed}
use Rattle.step_misses.specs.declared.miss.Probed.TheVariants.{Common, Other, Missed}
use Rattle.group_feed.specs.Standing.{Peopled, Stands, Stays}

-- What happened is a common step, and it was made: the world after it is that of what happened.
pub record IsCommonly (c : Peopled) (h : Happening) (c' : Peopled) : Type 0 where
  pub step : Step
  pub did : h.did ≡ taken step
  pub common : is_common c.stack c.plans step ≡ true
  pub world : Stands c' h.world

-- What happened isn't a common step, and nothing changed: it is a step that lacked this, or what it lacked isn't told.
abbrev pub IsUncommon : List LayerTree → List Plan → Did → Type 0
IsUncommon stack plans (taken s) = is_common stack plans s ≡ false
IsUncommon stack plans _ = Unit {0}

pub record IsLeft (c : Peopled) (h : Happening) (c' : Peopled) (miss : Option Miss) : Type 0 where
  pub same : c' ≡ c
  pub uncommon : IsUncommon c.stack c.plans h.did
  pub lacked : missed_in c.stack c.plans h.did ≡ option_map miss_meant miss

abbrev pub IsProbed : Peopled → Happening → Peopled → Probed → Type 0
IsProbed c h c' Common = IsCommonly c h c'
IsProbed c h c' Other = IsLeft c h c' None
IsProbed c h c' (Missed miss) = IsLeft c h c' (Some miss)

-- Where memory ran out, nothing is said of members and packets.
abbrev pub Probes : Peopled → Happening → Peopled → Result Probed Memory → Type 0
Probes c h c' (Ok probed) = IsProbed c h c' probed
Probes c h c' (Err memory) = Stays c c'
