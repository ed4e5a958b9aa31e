-- How it is told why the steps of a script weren't common: a line for each.
use Rattle.std.specs.Prelude.{ℕ, List, [], ◌∷◌, ◌++◌, codes, length, slice_get, slice_index_or, Option, Some, None}
use Rattle.std.specs.Prelude.{option_map, option_to_list, Result, Ok, Err}
use Rattle.std.specs.Fmt.{decimal}
use Rattle.std.specs.List.{enumerate_from, flat_map}
use Rattle.std.specs.Option.{option_map_or}
use Rattle.layer_ast.specs.Tree.{FileTree}
use Rattle.layer_mean.specs.Tree.{LayerTree, no_layer}
use Rattle.layer_mean.specs.declared.run.Case.{Case}
use Rattle.layer_mean.specs.declared.run.Case.TheVariants.{First, Second}
use Rattle.script_mean.specs.Event.{member_of}
use Rattle.script_mean.specs.declared.script.Script.{Script}
use Rattle.stack_mean.specs.NoShape.{NoShape}
use Rattle.stack_mean.specs.Plan.{Plan}
use Rattle.stack_mean.specs.Shape as entry
use Rattle.stack_mean.specs.Shape.{Known, Shape, shape}
use Rattle.bypass_mean.specs.Lines.{reason_text}
use Rattle.run_mean.specs.Common.{plan_entry}
use Rattle.run_mean.specs.Lines.{line}
use Rattle.run_mean.specs.Report.{Moment, run_of, end_line}
use Rattle.lack_mean.specs.Lacks.{Lack, no_plan, absent, missed, Entry, cast, send, plan, none, Miss, missed_in}
use Rattle.miss_mean.specs.Spots.{Spot, shape_spots}

-- `cast`, `send`, `plan K`, or `none` for a packet that fits no plan.
abbrev pub entry_text : Entry → List ℕ
entry_text cast = codes "cast"
entry_text send = codes "send"
entry_text (plan k) = codes "plan " ++ decimal k
entry_text none = codes "none"

-- The event of an entry, as far as it is known.
abbrev pub known_at : List Plan → Entry → Option Known
known_at plans cast = Some entry.app_cast
known_at plans send = Some entry.app_send
known_at plans (plan k) = option_map plan_entry (slice_get plans k)
known_at plans none = None

-- The decisions of a shape in a case; none where there is no shape.
abbrev pub drawn_spots : Case → FileTree → List LayerTree → Result Shape NoShape → List Spot
drawn_spots case file stack (Ok s) = shape_spots case file stack s
drawn_spots case file stack (Err reason) = []

-- The decisions on the predicted way of an entry in a case; none where it isn't known or has no shape.
abbrev pub entry_spots : Case → FileTree → List LayerTree → Option Known → List Spot
entry_spots case file stack known = option_map_or (λ k. drawn_spots case file stack (shape stack k case)) known []

-- `visit V place P LAYER line L`: where a decision stands.
abbrev pub spot_text : List LayerTree → Spot → List ℕ
spot_text stack s = codes "visit " ++ decimal s.visit ++ codes " place " ++ decimal s.place ++ codes " "
    ++ (slice_index_or stack s.place no_layer).name ++ codes " line " ++ decimal s.line

-- What a case lacks: `noplan`, `absent` with the reason, or where the first decision that wasn't taken as predicted
-- stands.
abbrev pub lack_text : List LayerTree → List Spot → Lack → List ℕ
lack_text stack spots no_plan = codes "noplan"
lack_text stack spots (absent reason) = codes "absent " ++ reason_text reason
lack_text stack spots (missed k) = option_map_or (spot_text stack) (slice_get spots k) []

-- ` or` and what the second case lacks, where it is made.
abbrev pub second_text : List LayerTree → List Spot → Option Lack → List (List ℕ)
second_text stack spots None = []
second_text stack spots (Some lack) = codes "or" ∷ lack_text stack spots lack ∷ []

-- `miss I M E LACK`, and ` or LACK` where there is a second case: the step of member M at event I of a script wasn't
-- common.
unfoldable pub miss_line : FileTree → List LayerTree → List Plan → ℕ → ℕ → Miss → List ℕ
miss_line file stack plans event id miss = let known = known_at plans miss.entry in line
    (codes "miss" ∷ decimal event ∷ decimal id ∷ entry_text miss.entry
    ∷ lack_text stack (entry_spots First file stack known) miss.first
    ∷ second_text stack (entry_spots Second file stack known) miss.second)

-- The line of an event, which is given with its number, if its step was taken and lacked something.
abbrev pub event_misses : FileTree → List LayerTree → List Plan → ℕ × Moment → List (List ℕ)
event_misses file stack plans x = option_to_list (option_map (miss_line file stack plans x.0 (member_of x.1.event))
    (missed_in stack plans x.1.happening.did))

-- Why the steps of a script weren't common: a line for each that wasn't, its events counted from 1; last `end N`, of N
-- events.
unfoldable pub explained_lines : FileTree → List LayerTree → List Plan → Script → List (List ℕ)
explained_lines file stack plans s =
    flat_map (event_misses file stack plans) (enumerate_from 1 (run_of stack plans s)) ++ end_line (length s.events) ∷
    []
