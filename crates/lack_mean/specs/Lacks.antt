-- What a step that was taken and wasn't common lacked, in each case that is made of its entry.
use Rattle.std.specs.Prelude.{ℕ, nat_le, if◌then◌else◌, List, Option, Some, None, option_map, Result, Ok, Err}
use Rattle.std.specs.Option.{option_and_then, option_map_or}
use Rattle.layer_mean.specs.Tree.{LayerTree}
use Rattle.layer_mean.specs.declared.run.Case.{Case}
use Rattle.layer_mean.specs.declared.run.Case.TheVariants.{First, Second}
use Rattle.packet_mean.specs.Plan.{least_fit}
use Rattle.stack_mean.specs.NoShape as no_shape
use Rattle.stack_mean.specs.NoShape.{NoShape}
use Rattle.stack_mean.specs.Plan.{Plan}
use Rattle.stack_mean.specs.Shape.{Known, Shape, shape, has_second_case}
use Rattle.run_mean.specs.Common.{entry_of, longest_shape, is_common, first_missed}
use Rattle.run_mean.specs.Member.{Entered, app_cast, app_send, app_leave, clock_tick, from_peer, Step}
use Rattle.run_mean.specs.World.{Did, taken}

-- A case lacks a plan, where its packet fits none; or a shape within the limits, for a reason; or its run left the
-- prediction, first at the decision of this number, counted from 0 through all its visits.
pub data Lack : Type 0 where
  no_plan : Lack
  absent : NoShape → Lack
  missed : (decision : ℕ) → Lack

-- The entry of an application's cast or send, or of a packet by the number of the least plan that it fits.
pub data Entry : Type 0 where
  cast : Entry
  send : Entry
  plan : (number : ℕ) → Entry
  none : Entry

-- What a step lacked: in the first case of its entry, and in the second where that is made.
pub record Miss : Type 0 where
  pub entry : Entry
  pub first : Lack
  pub second : Option Lack

-- The entry of what entered. A leave and a tick have none, and are never told.
abbrev pub entry_named : List Plan → Entered → Option Entry
entry_named plans (app_cast body) = Some cast
entry_named plans (app_send to body) = Some send
entry_named plans (from_peer p) = Some (option_map_or plan (least_fit plans p) none)
entry_named plans app_leave = None
entry_named plans (clock_tick moment) = None

-- What a case lacks: a shape that isn't too long or, where it has one, a run that goes as predicted.
abbrev pub lack_of : Case → Step → Result Shape NoShape → Lack
lack_of case s (Err reason) = absent reason
lack_of case s (Ok x) =
    if nat_le x.length longest_shape then missed (option_map_or (λ k. k) (first_missed case s) 0) else absent
    no_shape.long

-- What the first case of an entry lacks; a plan, where the packet fits none.
abbrev pub first_lack : List LayerTree → Step → Option Known → Lack
first_lack stack s None = no_plan
first_lack stack s (Some known) = lack_of First s (shape stack known First)

-- What the second case of an entry lacks, if that case is made.
abbrev pub second_lack : List LayerTree → Step → Known → Option Lack
second_lack stack s known = if has_second_case stack known then Some (lack_of Second s (shape stack known Second)) else
    None

-- What a step with this entry lacked, by what is known of its event, which is nothing where its packet fits no plan.
abbrev pub miss_by : List LayerTree → Step → Option Known → Entry → Miss
miss_by stack s known entry =
    record { entry = entry; first = first_lack stack s known; second = option_and_then (second_lack stack s) known }

-- What a step lacked, unless it was common, a leave or a tick.
unfoldable pub miss_of : List LayerTree → List Plan → Step → Option Miss
miss_of stack plans s = if is_common stack plans s then None
    else option_map (miss_by stack s (entry_of plans s.entered)) (entry_named plans s.entered)

-- What the step of an event lacked, if one was taken.
abbrev pub missed_in : List LayerTree → List Plan → Did → Option Miss
missed_in stack plans (taken s) = miss_of stack plans s
missed_in stack plans _ = None
