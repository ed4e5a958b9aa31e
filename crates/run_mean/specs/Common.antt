-- Which steps are common, in which case, and which of their packets are sent short, under which plan. The layers' texts
-- and the layered run of the step decide all of this.
use Rattle.std.specs.Prelude.{ℕ, ◌+◌, Bool, true, false, ◌&&◌, nat_le, if◌then◌else◌, List, [], ◌∷◌, slice_get, Option}
use Rattle.std.specs.Prelude.{Some, None, option_map, is_some, Result, Ok, Err}
use Rattle.std.specs.Option.{option_and_then, option_map_or}
use Rattle.msg_core.specs.declared.packet.Packet.{Packet}
use Rattle.layer_mean.specs.Tree.{LayerTree}
use Rattle.layer_mean.specs.declared.run.Case.{Case}
use Rattle.layer_mean.specs.declared.run.Case.TheVariants.{First, Second}
use Rattle.layer_mean.specs.Effect as effect
use Rattle.layer_mean.specs.Queue.{is_predicted}
use Rattle.stack_mean.specs.NoShape.{NoShape}
use Rattle.stack_mean.specs.Shape.{Known, packet_entry, Shape, shape}
use Rattle.stack_mean.specs.Shape as entry
use Rattle.stack_mean.specs.Plans.{plans_before}
use Rattle.packet_mean.specs.Plan.{least_fit}
use Rattle.stack_mean.specs.Plan.{Plan}
use Rattle.packet_mean.specs.Spelling.{full_bytes, short_bytes}
use Rattle.run_mean.specs.Mode.{Mode, layered, bypass}
use Rattle.run_mean.specs.Member.{Entered, app_cast, app_send, app_leave, clock_tick, from_peer, Output, packet}
use Rattle.run_mean.specs.Member.{nowhere, Step}

-- The entry of a plan: its packet's cast or send.
abbrev pub plan_entry : Plan → Known
plan_entry plan = packet_entry plan.kind plan.tags

-- The entry of a step: an application's cast or send, or for a packet the least plan that it fits. Others have none.
abbrev pub entry_of : List Plan → Entered → Option Known
entry_of plans (app_cast body) = Some entry.app_cast
entry_of plans (app_send to body) = Some entry.app_send
entry_of plans (from_peer p) = option_and_then (λ k. option_map plan_entry (slice_get plans k)) (least_fit plans p)
entry_of plans app_leave = None
entry_of plans (clock_tick moment) = None

-- The longest shape that is common.
abbrev pub longest_shape : ℕ
longest_shape = 4096

-- Whether there is a shape, and its length is at most that of the longest common one.
abbrev pub is_short : Result Shape NoShape → Bool
is_short (Ok s) = nat_le s.length longest_shape
is_short (Err reason) = false

-- A step is common in a case if its entry has a shape in that case that isn't too long, and every visit of its run went
-- as predicted in that case. It makes no difference in which form a packet came.
abbrev pub is_common_in : List LayerTree → List Plan → Step → Case → Bool
is_common_in stack plans s case =
    option_map_or (λ known. is_short (shape stack known case)) (entry_of plans s.entered) false &&
    is_predicted case s.work

-- The case of a step is the first in which it is common.
abbrev pub case_of : List LayerTree → List Plan → Step → Option Case
case_of stack plans s =
    if is_common_in stack plans s First then Some First
    else if is_common_in stack plans s Second then Some Second
    else None

-- A step is common if it has a case.
abbrev pub is_common : List LayerTree → List Plan → Step → Bool
is_common stack plans s = is_some (case_of stack plans s)

-- The number of the first decision of a step, if any, that didn't go as predicted in a case, counted from 0 through all
-- visits of the step.
abbrev pub first_missed : Case → Step → Option ℕ
first_missed case s = effect.first_missed case s.work.decided

-- Whether an output is one of those to which plans belong: a packet, or a send that has nowhere to go.
abbrev pub is_planned : Output → Bool
is_planned (packet p) = true
is_planned nowhere = true
is_planned _ = false

-- How many groups of plans come before the group of an application's cast or send in a case.
abbrev pub groups_before : Entered → Case → Option ℕ
groups_before (app_cast body) First = Some 0
groups_before (app_send to body) First = Some 1
groups_before (app_cast body) Second = Some 2
groups_before (app_send to body) Second = Some 3
groups_before _ case = None

-- The number of the first plan of an application's cast or send in a case.
abbrev pub first_plan : List LayerTree → Entered → Case → Option ℕ
first_plan stack what case = option_map (plans_before stack) (groups_before what case)

-- The number of the first plan under which packets of a step are sent short, if they are: in bypass mode, for an
-- application's common step, the first plan of its case.
abbrev pub short_from : Mode → List LayerTree → List Plan → Step → Option ℕ
short_from layered stack plans s = None
short_from bypass stack plans s = option_and_then (first_plan stack s.entered) (case_of stack plans s)

-- The number of an output's plan, if plans belong to such outputs and there is a plan of this number.
abbrev pub plan_for : List Plan → Option ℕ → Output → Option ℕ
plan_for plans next o = if is_planned o then option_and_then (λ k. option_map (λ plan. k) (slice_get plans k)) next else
    None

-- The number that the next output's plan may have: each output to which plans belong takes one number.
abbrev pub plan_after : Option ℕ → Output → Option ℕ
plan_after next o = if is_planned o then option_map (λ k. k + 1) next else next

-- Outputs, each with the plan under which it is sent short, if it is.
abbrev pub with_plans : List Plan → Option ℕ → List Output → List (Output × Option ℕ)
with_plans plans next [] = []
with_plans plans next (o ∷ outputs) = (o, plan_for plans next o) ∷ with_plans plans (plan_after next o) outputs

-- The outputs of a step as they are sent in a mode.
abbrev pub as_sent : Mode → List LayerTree → List Plan → Step → List (Output × Option ℕ)
as_sent mode stack plans s = with_plans plans (short_from mode stack plans s) s.outputs

-- The bytes of a packet as it is sent: short under its plan, if it has one, and else in full.
abbrev pub wire : List Plan → Packet → Option ℕ → List ℕ
wire plans p None = full_bytes p
wire plans p (Some k) = option_map_or (λ plan. short_bytes k plan p) (slice_get plans k) (full_bytes p)
