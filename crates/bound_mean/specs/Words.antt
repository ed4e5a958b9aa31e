-- The words of the program: which check they ask for.
use Rattle.std.specs.Prelude.{ℕ, List, [], ◌∷◌, Option, Some, codes}
use Rattle.clap.specs.Walk.{Rule, Row, Text, first_of}
use Rattle.clap.specs.Simple.{App}
use Rattle.command_line.specs.Rules.{command_of, option, read_in, required}
use Rattle.audit_mean.specs.declared.law.Law.{Law}
use Rattle.layer_mean.specs.Tree.{LayerTree}
use Rattle.script_mean.specs.Words.{◌>>=◌}
use Rattle.script_mean.specs.declared.script.Script.{Script}
use Rattle.job_mean.specs.Job.{a_number, a_number_or_zero, law_of}
use Rattle.family_mean.specs.Family.{Family}

-- `FILE ACTS --law L --events E`, may have `--repeats R` and `--seconds S`
abbrev pub rules : List Rule
rules =
    required (codes "file") ∷ required (codes "acts") ∷ option (codes "law") ∷ option (codes "events") ∷
    option (codes "repeats") ∷
    option (codes "seconds") ∷ []

-- the command line of `stackcheck`, by these rules
abbrev pub command : App
command = command_of (codes "stackcheck") rules

-- the names of a stack file and of a script of acts; the law that is asked about; how many events a script has at most,
-- and how often a packet may be given again to a member; and after how many seconds the check stops, which is 0 where
-- the time doesn't count
pub record Request : Type 0 where
  pub file : Text
  pub acts : Text
  pub law : Law
  pub events : ℕ
  pub repeats : ℕ
  pub seconds : ℕ

-- the most events of a script
abbrev pub most_events : ℕ
most_events = 1000

-- the most repeats of a packet
abbrev pub most_repeats : ℕ
most_repeats = 1000

-- the most seconds: eleven days
abbrev pub most_seconds : ℕ
most_seconds = 1000000

-- what `clap` found, by name
abbrev pub request_in : List Row → Option Request
request_in rows = do
  file ← first_of (codes "file") rows
  acts ← first_of (codes "acts") rows
  law ← law_of (first_of (codes "law") rows)
  events ← a_number 1 most_events (first_of (codes "events") rows)
  repeats ← a_number_or_zero most_repeats (first_of (codes "repeats") rows)
  seconds ← a_number_or_zero most_seconds (first_of (codes "seconds") rows)
  Some (record {
    file = file;
    acts = acts;
    law = law;
    events = events;
    repeats = repeats;
    seconds = seconds;
  })

-- what the words after the program's name ask for, if `clap` takes them
abbrev pub request_of : List Text → Option Request
request_of = read_in command request_in

-- the family that is asked about, over a stack and with the acts of a script
abbrev pub family_of : Request → List LayerTree → Script → Family
family_of r stack acts = record {
  stack = stack;
  law = r.law;
  acts = acts;
  events = r.events;
  repeats = r.repeats;
}
