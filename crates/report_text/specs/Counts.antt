-- How many lines of each kind a report has, counted without any text.
use Rattle.std.specs.Prelude.{ℕ, ◌+◌, if◌then◌else◌, List, [], ◌∷◌, ◌++◌, length, codes, Option, Some, None, is_some}
use Rattle.std.specs.List.{fold, flat_map, sum_by}
use Rattle.std.specs.Fmt.{decimal}
use Rattle.run_mean.specs.Mode.{Mode}
use Rattle.layer_mean.specs.Tree.{LayerTree}
use Rattle.run_mean.specs.Lines.{line}
use Rattle.run_mean.specs.Member.{Output, deliver_cast, deliver_send, block, announce, packet, nowhere, timer, quiet}
use Rattle.run_mean.specs.Report.{Moment, moment_lines}
use Rattle.run_mean.specs.Tally.{count_of, short_in}
use Rattle.stack_mean.specs.Plan.{Plan}
use Rattle.view_core.specs.declared.step.Change.{Change}
use Rattle.view_core.specs.declared.step.Change.TheVariants as change
use Rattle.view_core.specs.declared.step.Did.{Did}
use Rattle.view_core.specs.declared.step.Did.TheVariants as did
use Rattle.view_core.specs.declared.step.Stepped.{Stepped}
use Rattle.view_core.specs.declared.step.Stepped.TheVariants.{Taken, Refused}
use Rattle.report_text.specs.declared.counts.Counts.{Counts}

abbrev pub no_counts : Counts
no_counts = record {
  deliver = 0;
  packet = 0;
  timer = 0;
  block = 0;
  announce = 0;
  view = 0;
  out = 0;
  refused =
      0;
  absent = 0;
  short = 0;
  events = 0;
}

-- One more line of an output's kind, and one more short packet where a plan stands beside a packet.
abbrev pub output_counted : Counts → Output × Option ℕ → Counts
output_counted c (deliver_cast peer body, plan) = record c { deliver = c.deliver + 1 }
output_counted c (deliver_send peer body, plan) = record c { deliver = c.deliver + 1 }
output_counted c (block a, plan) = record c { block = c.block + 1 }
output_counted c (announce a, plan) = record c { announce = c.announce + 1 }
output_counted c (packet p, plan) =
    record c { packet = c.packet + 1; short = c.short + (if is_some plan then 1 else 0) }
output_counted c (nowhere, plan) = c
output_counted c (timer a, plan) = record c { timer = c.timer + 1 }
output_counted c (quiet dir event, plan) = c

-- One more line of where a member is after a step.
abbrev pub change_counted : Counts → Option Change → Counts
change_counted c None = c
change_counted c (Some (change.Into view)) = record c { view = c.view + 1 }
change_counted c (Some change.Out) = record c { out = c.out + 1 }

-- The lines of a step, taken or refused.
abbrev pub step_counted : Counts → Stepped → List (Output × Option ℕ) → Counts
step_counted c (Taken common change) outs = change_counted (fold output_counted c outs) change
step_counted c (Refused refusal) outs = record c { refused = c.refused + 1 }

-- The lines of what an event gave; those of a member that is shown aren't counted.
abbrev pub lines_counted : Counts → Did → List (Output × Option ℕ) → Counts
lines_counted c (did.Stepped stepped) outs = step_counted c stepped outs
lines_counted c did.Absent outs = record c { absent = c.absent + 1 }
lines_counted c did.Shown outs = c

-- An event with its lines.
abbrev pub with_event_counted : Counts → Did → List (Output × Option ℕ) → Counts
with_event_counted c did outs = lines_counted (record c { events = c.events + 1 }) did outs

-- All that is counted but the events.
abbrev pub total : Counts → ℕ
total c = c.deliver + c.packet + c.timer + c.block + c.announce + c.view + c.out + c.refused + c.absent + c.short

-- What the definitions count of a run in a mode.
abbrev pub counts_of : Mode → List LayerTree → List Plan → List Moment → Counts
counts_of mode stack plans run = let lines = flat_map (moment_lines stack plans None) run in record {
  deliver = count_of lines (codes "deliver");
  packet = count_of lines (codes "packet");
  timer = count_of lines (codes "timer");
  block = count_of lines (codes "block");
  announce = count_of lines (codes "announce");
  view = count_of lines (codes "view");
  out = count_of lines (codes "out");
  refused = count_of lines (codes "refused");
  absent = count_of lines (codes "absent");
  short = sum_by (λ m. short_in mode stack plans m.happening.did) run;
  events = length run;
}

-- `WORD N ` with a space after it.
unfoldable pub count_text : List ℕ → ℕ → List ℕ
count_text word n = word ++ codes " " ++ decimal n ++ codes " "

-- The two lines that tell counts: the lines of each kind and the events, and the packets that are sent short.
abbrev pub kinds_line : Counts → List ℕ
kinds_line c = line (
    codes "deliver" ∷ decimal c.deliver ∷ codes "packet" ∷ decimal c.packet ∷ codes "timer" ∷ decimal c.timer ∷
    codes "block" ∷ decimal c.block
    ∷ codes "announce" ∷ decimal c.announce ∷ codes "view" ∷ decimal c.view ∷ codes "out" ∷ decimal c.out ∷
    codes "refused" ∷ decimal c.refused
    ∷ codes "absent" ∷ decimal c.absent ∷ codes "end" ∷ decimal c.events ∷ [])

abbrev pub short_line : Counts → List ℕ
short_line c = line (codes "short" ∷ decimal c.short ∷ [])

abbrev pub tally_lines : Counts → List (List ℕ)
tally_lines c = kinds_line c ∷ short_line c ∷ []
