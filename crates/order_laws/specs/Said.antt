-- What the lines of a report say, as far as the group's laws look at them: the lines of an output, a step, a moment and
-- a run, each beside the definition of the lines themselves.
use Rattle.std.specs.Prelude.{ℕ, List, [], ◌∷◌, ◌++◌, map, option_to_list}
use Rattle.std.specs.List.{flat_map}
use Rattle.script_mean.specs.EventText.{hex_text}
use Rattle.script_mean.specs.Event.{member_of}
use Rattle.audit_mean.specs.Line.{ReportLine, deliver, view, silent, end}
use Rattle.audit_mean.specs.Line as line
use Rattle.layer_mean.specs.Tree.{LayerTree}
use Rattle.run_mean.specs.Member.{Member, inside, out, Output, deliver_cast, deliver_send, block, announce, packet}
use Rattle.run_mean.specs.Member.{nowhere, timer, quiet, Step}
use Rattle.run_mean.specs.World.{Did, taken, refused, absent, shown, member_at}
use Rattle.run_mean.specs.Report.{Moment, member_lines}

-- What the lines of an output say: a delivery of a cast is looked at; a line of any other output is silent.
abbrev pub output_said : ℕ → Output → List ReportLine
output_said id (deliver_cast peer body) = deliver id peer (hex_text body) ∷ []
output_said id (deliver_send peer body) = silent ∷ []
output_said id (block a) = silent ∷ []
output_said id (announce a) = silent ∷ []
output_said id (packet p) = silent ∷ []
output_said id nowhere = []
output_said id (timer a) = silent ∷ []
output_said id (quiet dir event) = []

-- What the line of a view that is installed says, or of a member that leaves.
abbrev pub installed_said : ℕ → Member → ReportLine
installed_said id (inside v states) = view id v.ltime v.mask
installed_said id out = line.out id

-- What the lines of a step of a member say.
abbrev pub step_said : ℕ → Step → List ReportLine
step_said id s = flat_map (output_said id) s.outputs ++ map (installed_said id) (option_to_list s.installs)

-- What the lines of what an event gave say. A member that is shown has silent lines.
abbrev pub did_said : List LayerTree → Moment → Did → List ReportLine
did_said stack m (taken s) = step_said (member_of m.event) s
did_said stack m (refused refusal) = silent ∷ []
did_said stack m absent = silent ∷ []
did_said stack m shown =
    map (λ shown_line. silent) (member_lines stack (member_of m.event) (member_at m.before (member_of m.event)))

-- What the lines of a moment say, and those of a whole report.
abbrev pub moment_said : List LayerTree → Moment → List ReportLine
moment_said stack m = did_said stack m m.happening.did

abbrev pub report_said : List LayerTree → List Moment → List ReportLine
report_said stack run = flat_map (moment_said stack) run ++ end ∷ []
