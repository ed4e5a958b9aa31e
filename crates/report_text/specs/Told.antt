-- The lines of what one event gave, from what the code has of it.
use Rattle.std.specs.Prelude.{ℕ, Bool, true, false, List, [], ◌∷◌, ◌++◌, map, codes, Option, option_to_list}
use Rattle.layer_mean.specs.Tree.{LayerTree}
use Rattle.run_mean.specs.Lines.{view_line, out_line, refused_line, absent_line}
use Rattle.run_mean.specs.Member.{Member, Output}
use Rattle.run_mean.specs.Report.{Annex, no_annex, wire_annex, lines_of_outputs, member_lines, packet_given}
use Rattle.script_mean.specs.Event.{member_of}
use Rattle.script_mean.specs.declared.event.ScriptEvent.{ScriptEvent}
use Rattle.stack_mean.specs.Plan.{Plan}
use Rattle.view_core.specs.Refusals.{refusal_meant}
use Rattle.view_core.specs.declared.step.Change.{Change}
use Rattle.view_core.specs.declared.step.Change.TheVariants as change
use Rattle.view_core.specs.declared.step.Did.{Did}
use Rattle.view_core.specs.declared.step.Did.TheVariants as did
use Rattle.view_core.specs.declared.step.Stepped.{Stepped}
use Rattle.view_core.specs.declared.step.Stepped.TheVariants.{Taken, Refused}

-- What stands after the line of an output: a packet's bytes as they are sent, where they are wanted.
abbrev pub annex_of : Bool → List Plan → Annex
annex_of false plans = no_annex
annex_of true plans = wire_annex plans

-- The line of where a member is after a step that installed something.
abbrev pub change_line : ℕ → Change → List ℕ
change_line id (change.Into view) = view_line (codes "view") id view
change_line id change.Out = out_line id

abbrev pub change_lines : ℕ → Option Change → List (List ℕ)
change_lines id change = map (change_line id) (option_to_list change)

-- The lines of a step that was taken.
abbrev pub taken_lines : List LayerTree → Annex → (id first : ℕ) → List (Output × Option ℕ) → Option Change →
    List (List ℕ)
taken_lines stack annex id first outs change = lines_of_outputs stack annex id first outs ++ change_lines id change

-- The lines of a step, taken or refused.
abbrev pub stepped_lines : List LayerTree → Annex → (id first : ℕ) → List (Output × Option ℕ) → Stepped → List (List ℕ)
stepped_lines stack annex id first outs (Taken common change) = taken_lines stack annex id first outs change
stepped_lines stack annex id first outs (Refused refusal) = refused_line id (refusal_meant refusal) ∷ []

-- The lines of an event of a member: what it gave, the outputs of its step with the plans under which packets are
-- sent short, the member that is shown, and the number of the first packet.
abbrev pub told_lines : List LayerTree → List Plan → (wire : Bool) → ScriptEvent → Did → List (Output × Option ℕ) →
    Member → (first : ℕ) →
    List (List ℕ)
told_lines stack plans wire event (did.Stepped stepped) outs shown first =
    stepped_lines stack (annex_of wire plans) (member_of event) first outs stepped
told_lines stack plans wire event did.Absent outs shown first = absent_line (member_of event) (packet_given event) ∷ []
told_lines stack plans wire event did.Shown outs shown first = member_lines stack (member_of event) shown
