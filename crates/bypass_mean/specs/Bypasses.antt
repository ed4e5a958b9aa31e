-- The bypasses of a stack: what is made of each entry in each of its cases.
use Rattle.std.specs.Prelude.{ℕ, List, [], ◌∷◌, map, Option}
use Rattle.layer_mean.specs.Tree.{LayerTree}
use Rattle.stack_mean.specs.NoShape.{NoShape}
use Rattle.stack_mean.specs.Plan.{Plan}
use Rattle.stack_mean.specs.Plans.{plans_of}
use Rattle.stack_mean.specs.Shape.{Known, app_cast, app_send, packet_entry}
use Rattle.trace_mean.specs.Trace.{Operation, Guarded}

-- An entry: what is known of its event, and the fields of its packet, each a constant or variable.
pub record Entry : Type 0 where
  pub known : Known
  pub fields : List (Option ℕ)

-- The entry of the packets that fit a plan.
abbrev pub plan_entry : Plan → Entry
plan_entry plan = record { known = packet_entry plan.kind plan.tags; fields = plan.fields }

-- The entry of the application's own cast, which comes with no header.
abbrev pub cast_entry : Entry
cast_entry = record { known = app_cast; fields = [] }

-- The entry of the application's own send, which comes with no header.
abbrev pub send_entry : Entry
send_entry = record { known = app_send; fields = [] }

-- The entries of a stack that has these plans: the application's own cast and send, and the packet of each plan.
abbrev pub entries_for : List Plan → List Entry
entries_for plans = cast_entry ∷ send_entry ∷ map plan_entry plans

-- The entries of a stack, with the packets of its own plans.
abbrev pub entries_of : List LayerTree → List Entry
entries_of stack = entries_for (plans_of stack)

-- What is made of an entry in a case: a trace with its guarded handler, or nothing, for a reason.
pub data Made : Type 0 where
  fused : (trace : List Operation) (guarded : Guarded) → Made
  absent : NoShape → Made

-- In the order of the entries: what is made of each in its first case, and in its second where it has one.
pub record Bypasses : Type 0 where
  pub made : List Made
  pub second : List (Option Made)
