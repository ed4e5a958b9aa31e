-- What a run over a generated script writes in place of its report.
use Rattle.std.specs.Prelude.{ℕ, nat_eq, Bool, false, Option, List, [], ◌∷◌, ◌++◌, length, count_by, codes, is_some}
use Rattle.std.specs.List.{flat_map, sum_by, starts_with}
use Rattle.std.specs.Fmt.{decimal}
use Rattle.layer_mean.specs.Tree.{LayerTree}
use Rattle.script_mean.specs.declared.script.Script.{Script}
use Rattle.stack_mean.specs.Plan.{Plan}
use Rattle.run_mean.specs.Mode.{Mode}
use Rattle.run_mean.specs.Common.{as_sent}
use Rattle.run_mean.specs.Lines.{line}
use Rattle.run_mean.specs.Member.{Output, packet}
use Rattle.run_mean.specs.Report.{run_of, moment_lines}
use Rattle.run_mean.specs.World.{Did, taken}
use Rattle.std.specs.Prelude.{None}

-- The kinds of lines that are counted, by their first words.
abbrev pub counted_words : List (List ℕ)
counted_words =
    codes "deliver" ∷ codes "packet" ∷ codes "timer" ∷ codes "block" ∷ codes "announce" ∷ codes "view" ∷ codes "out" ∷
    codes "refused"
    ∷ codes "absent" ∷ []

-- How many lines begin with a word.
abbrev pub count_of : List (List ℕ) → List ℕ → ℕ
count_of lines word = count_by (λ l. starts_with nat_eq l (word ++ codes " ")) lines

-- Whether an output is a packet that is sent short; a send that has nowhere to go isn't one.
abbrev pub is_short_packet : Output × Option ℕ → Bool
is_short_packet (packet p, plan) = is_some plan
is_short_packet (_, plan) = false

-- How many packets a step sends short in a mode.
abbrev pub short_in : Mode → List LayerTree → List Plan → Did → ℕ
short_in mode stack plans (taken s) = count_by is_short_packet (as_sent mode stack plans s)
short_in mode stack plans _ = 0

-- In one line, how many lines of each kind the report has, and how many events; in a second line, how many packets are
-- sent short.
abbrev pub tally : List LayerTree → List Plan → Mode → Script → List (List ℕ)
tally stack plans mode s =
    let run = run_of stack plans s in
    let lines = flat_map (moment_lines stack plans None) run in
    line (flat_map (λ word. word ∷ decimal (count_of lines word) ∷ []) counted_words ++ codes "end" ∷
    decimal (length s.events) ∷ [])
    ∷ line (codes "short" ∷ decimal (sum_by (λ m. short_in mode stack plans m.happening.did) run) ∷ []) ∷ []

-- What the judging of an accepted stack writes.
abbrev pub accepted_lines : List LayerTree → List (List ℕ)
accepted_lines stack = line (codes "accepted" ∷ decimal (length stack) ∷ []) ∷ []
