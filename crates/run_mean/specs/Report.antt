-- The report of a run: the lines of each event, the same whether it is run by layers or by bypasses, with the packets'
-- bytes and the number of visits where these are wanted.
use Rattle.std.specs.Prelude.{ℕ, ◌+◌, Bool, true, false, if◌then◌else◌, List, [], ◌∷◌, ◌++◌, map, length}
use Rattle.std.specs.Prelude.{slice_index_or, codes, Option, Some, None, option_to_list}
use Rattle.std.specs.List.{enumerate_from, flat_map, sum_by}
use Rattle.std.specs.Fmt.{decimal}
use Rattle.layer_mean.specs.Tree.{LayerTree, CellTree}
use Rattle.layer_mean.specs.State.{State, cell_at}
use Rattle.layer_mean.specs.Visit.{no_state}
use Rattle.script_mean.specs.Event.{member_of}
use Rattle.script_mean.specs.declared.event.ScriptEvent.{ScriptEvent}
use Rattle.script_mean.specs.declared.event.ScriptEvent.TheVariants as script
use Rattle.script_mean.specs.declared.script.Script.{Script}
use Rattle.stack_mean.specs.Plan.{Plan}
use Rattle.run_mean.specs.Mode.{Mode, layered, bypass}
use Rattle.run_mean.specs.Member.{Member, inside, out, Output, deliver_cast, deliver_send, block, announce, packet}
use Rattle.run_mean.specs.Member.{nowhere, timer, quiet, Step}
use Rattle.run_mean.specs.World.{World, first_world, member_at, Did, taken, refused, absent, shown, Happening, happens}
use Rattle.run_mean.specs.Common.{is_common, with_plans, as_sent, wire}
use Rattle.run_mean.specs.Lines.{line, deliver_line, number_line, packet_line, wire_line, view_line, out_line}
use Rattle.run_mean.specs.Lines.{state_out_line, refused_line, absent_line, cell_line, cell_values}

-- The lines of an output, where a packet has the number k.
abbrev pub output_lines : List LayerTree → ℕ → ℕ → Output → List (List ℕ)
output_lines stack id k (deliver_cast peer body) = deliver_line id (codes "cast") peer body ∷ []
output_lines stack id k (deliver_send peer body) = deliver_line id (codes "send") peer body ∷ []
output_lines stack id k (block a) = number_line (codes "block") id a ∷ []
output_lines stack id k (announce a) = number_line (codes "announce") id a ∷ []
output_lines stack id k (packet p) = packet_line stack k id p ∷ []
output_lines stack id k nowhere = []
output_lines stack id k (timer a) = number_line (codes "timer") id a ∷ []
output_lines stack id k (quiet dir event) = []

-- The number of the next packet after an output.
abbrev pub number_following : ℕ → Output → ℕ
number_following k (packet p) = k + 1
number_following k _ = k

-- What follows the lines of an output, given the packet's number and the plan under which it is sent short.
abbrev pub Annex : Type 0
Annex = ℕ → Output × Option ℕ → List (List ℕ)

-- The lines of outputs, their packets numbered from k on, with what follows each.
abbrev pub lines_of_outputs : List LayerTree → Annex → ℕ → ℕ → List (Output × Option ℕ) → List (List ℕ)
lines_of_outputs stack annex id k [] = []
lines_of_outputs stack annex id k (o ∷ outputs) =
    output_lines stack id k o.0 ++ annex k o ++ lines_of_outputs stack annex id (number_following k o.0) outputs

-- Nothing follows the lines of an output.
abbrev pub no_annex : Annex
no_annex k o = []

-- After a packet's line, the line with its bytes as they are sent; after any other output nothing.
abbrev pub wire_annex : List Plan → Annex
wire_annex plans k (packet p, plan) = wire_line k (wire plans p plan) ∷ []
wire_annex plans k (_, plan) = []

-- The lines of a step's outputs, with the packets' bytes as they are sent in a mode, where these are wanted.
abbrev pub step_lines : List LayerTree → List Plan → Option Mode → ℕ → ℕ → Step → List (List ℕ)
step_lines stack plans None id k s = lines_of_outputs stack no_annex id k (with_plans plans None s.outputs)
step_lines stack plans (Some mode) id k s = lines_of_outputs stack (wire_annex plans) id k (as_sent mode stack plans s)

-- The line of a view that is installed, and of a member that leaves.
abbrev pub installed_line : ℕ → Member → List ℕ
installed_line id (inside view states) = view_line (codes "view") id view
installed_line id out = out_line id

-- The lines of a cell of a member: one for a cell of numbers or a queue, and one for each queue of an array.
abbrev pub cell_lines : List LayerTree → ℕ → ℕ → LayerTree → State → ℕ × CellTree → List (List ℕ)
cell_lines stack id place layer s c =
    map (λ x. cell_line id place layer x.0 x.1) (cell_values stack c.1.name c.1.form (cell_at s c.0))

-- The lines of the cells of the layer at a place of a member, in the order of their declarations.
abbrev pub layer_lines : List LayerTree → ℕ → List State → ℕ × LayerTree → List (List ℕ)
layer_lines stack id states l = flat_map
    (cell_lines stack id l.0 l.1 (slice_index_or states l.0 no_state))
    (enumerate_from 0 l.1.cells)

-- A member that is shown.
abbrev pub member_lines : List LayerTree → ℕ → Member → List (List ℕ)
member_lines stack id (inside view states) =
    view_line (codes "state") id view ∷ flat_map (layer_lines stack id states) (enumerate_from 0 stack)
member_lines stack id out = state_out_line id ∷ []

-- The packet that an event gives, 0 for none.
abbrev pub packet_given : ScriptEvent → ℕ
packet_given (script.Give k id) = k
packet_given _ = 0

-- One event of a run: the world before it, and what it gave.
pub record Moment : Type 0 where
  pub before : World
  pub event : ScriptEvent
  pub happening : Happening

-- The moments of a run of events from a world on.
abbrev pub moments : List LayerTree → List Plan → World → List ScriptEvent → List Moment
moments stack plans w [] = []
moments stack plans w (e ∷ events) =
    let h = happens stack plans w e in record { before = w; event = e; happening = h } ∷
    moments stack plans h.world events

-- The lines of what an event of a member gave, given those of a step's outputs.
abbrev pub lines_of : List LayerTree → (Step → List (List ℕ)) → Moment → Did → List (List ℕ)
lines_of stack of_step m (taken s) = of_step s ++ map (installed_line (member_of m.event)) (option_to_list s.installs)
lines_of stack of_step m (refused refusal) = refused_line (member_of m.event) refusal ∷ []
lines_of stack of_step m absent = absent_line (member_of m.event) (packet_given m.event) ∷ []
lines_of stack of_step m shown = member_lines stack (member_of m.event) (member_at m.before (member_of m.event))

-- The number of the first packet that a moment sends.
abbrev pub first_number : Moment → ℕ
first_number m = length m.before.packets + 1

-- The lines of a moment, with the packets' bytes as they are sent in a mode, where these are wanted.
abbrev pub moment_lines : List LayerTree → List Plan → Option Mode → Moment → List (List ℕ)
moment_lines stack plans wires m =
    lines_of stack (step_lines stack plans wires (member_of m.event) (first_number m)) m m.happening.did

-- How many visits a step counts for: none in bypass mode, if it is common.
abbrev pub visit_count : Mode → List LayerTree → List Plan → Step → ℕ
visit_count layered stack plans s = s.work.visits
visit_count bypass stack plans s = if is_common stack plans s then 0 else s.work.visits

-- How many visits what an event gave counts for in a mode: those of a step, and none for anything else.
abbrev pub visits_in : Mode → List LayerTree → List Plan → Did → ℕ
visits_in mode stack plans (taken s) = visit_count mode stack plans s
visits_in mode stack plans _ = 0

-- How many visits a moment counts for in a mode.
abbrev pub visits_of : Mode → List LayerTree → List Plan → Moment → ℕ
visits_of mode stack plans m = visits_in mode stack plans m.happening.did

-- The moments of a script.
abbrev pub run_of : List LayerTree → List Plan → Script → List Moment
run_of stack plans s = moments stack plans (first_world stack s.group s.stamp s.members) s.events

-- `end N`, the last line of a report: there were N events.
abbrev pub end_line : ℕ → List ℕ
end_line n = line (codes "end" ∷ decimal n ∷ [])

-- `visits V`: the layers were visited V times.
abbrev pub visits_line : ℕ → List ℕ
visits_line v = line (codes "visits" ∷ decimal v ∷ [])

-- What is wanted besides the report: the packets' bytes as they are sent in a mode, and the number of visits in a mode.
pub record Wanted : Type 0 where
  pub wires : Option Mode
  pub count : Option Mode

-- The lines of a run with what is wanted.
abbrev pub wanted_lines : List LayerTree → List Plan → Wanted → Script → List Moment → List (List ℕ)
wanted_lines stack plans wanted s run =
    flat_map (moment_lines stack plans wanted.wires) run
    ++ end_line (length s.events)
    ∷ map (λ mode. visits_line (sum_by (visits_of mode stack plans) run)) (option_to_list wanted.count)

-- The report of a script, which depends on no mode.
unfoldable pub report_lines : List LayerTree → List Plan → Script → List (List ℕ)
report_lines stack plans s = wanted_lines stack plans (record { wires = None; count = None }) s (run_of stack plans s)

-- A mode, if it matters.
abbrev pub mode_if : Bool → Mode → Option Mode
mode_if false mode = None
mode_if true mode = Some mode

-- What the program writes of a script in a mode: the report, with the packets' bytes and the number of visits where
-- these are wanted.
unfoldable pub output_in : List LayerTree → List Plan → Script → Mode → (wire count : Bool) → List (List ℕ)
output_in stack plans s mode wire count =
    wanted_lines stack plans (record { wires = mode_if wire mode; count = mode_if count mode }) s (run_of stack plans s)
