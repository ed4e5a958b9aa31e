-- The words of the program: which hunt they ask for.
use Rattle.std.specs.Prelude.{ℕ, List, [], ◌∷◌, Option, Some, None, codes, if◌then◌else◌}
use Rattle.std.specs.Str.{bytes_eq}
use Rattle.clap.specs.Walk.{Rule, Row, Text, first_of}
use Rattle.clap.specs.Simple.{App}
use Rattle.command_line.specs.Rules.{command_of, option, read_in, required}
use Rattle.audit_mean.specs.declared.law.Law.{Law}
use Rattle.script_mean.specs.Words.{◌>>=◌}
use Rattle.msg_core.specs.View.{most_members}
use Rattle.job_mean.specs.Job.{a_number, a_number_or_zero, law_of, most_generated}
use Rattle.hunt_mean.specs.declared.style.Style.{Style}
use Rattle.hunt_mean.specs.declared.style.Style.TheVariants.{Mixed, Flood, Crash, Part}

-- `FILE --law L --members N --events E --runs R --seed S`, may have `--seconds T` and `--style STYLE`
abbrev pub rules : List Rule
rules =
    required (codes "file") ∷ option (codes "law") ∷ option (codes "members") ∷ option (codes "events") ∷
    option (codes "runs") ∷
    option (codes "seed") ∷ option (codes "seconds") ∷ option (codes "style") ∷ []

-- the command line of `stackhunt`, by these rules
abbrev pub command : App
command = command_of (codes "stackhunt") rules

-- the name of a stack file; a law that its stack is to break; how many members a group has, and events a run; how many
-- runs there are, and from which number on; after how many seconds no run begins, which is 0 where the time doesn't
-- count; and what happens in them above all
pub record Request : Type 0 where
  pub file : Text
  pub law : Law
  pub members : ℕ
  pub events : ℕ
  pub runs : ℕ
  pub seed : ℕ
  pub seconds : ℕ
  pub style : Style

-- the highest number of runs, and of a first run
abbrev pub highest : ℕ
highest = 4294967295

-- the most seconds: eleven days
abbrev pub most_seconds : ℕ
most_seconds = 1000000

-- the style of this name, if there is one
abbrev pub style_named : Text → Option Style
style_named name =
    if bytes_eq name (codes "mixed") then Some Mixed
    else if bytes_eq name (codes "flood") then Some Flood
    else if bytes_eq name (codes "crash") then Some Crash
    else if bytes_eq name (codes "part") then Some Part
    else None

-- the style of `--style`; without it, the mix
abbrev pub style_of : Option Text → Option Style
style_of None = Some Mixed
style_of (Some name) = style_named name

-- what `clap` found, by name
abbrev pub request_in : List Row → Option Request
request_in rows = do
  file ← first_of (codes "file") rows
  law ← law_of (first_of (codes "law") rows)
  members ← a_number 1 most_members (first_of (codes "members") rows)
  events ← a_number 1 most_generated (first_of (codes "events") rows)
  runs ← a_number 1 highest (first_of (codes "runs") rows)
  seed ← a_number 0 highest (first_of (codes "seed") rows)
  seconds ← a_number_or_zero most_seconds (first_of (codes "seconds") rows)
  style ← style_of (first_of (codes "style") rows)
  Some (record {
    file = file;
    law = law;
    members = members;
    events = events;
    runs = runs;
    seed = seed;
    seconds = seconds;
    style = style;
  })

-- what the words after the program's name ask for, if `clap` takes them
abbrev pub request_of : List Text → Option Request
request_of = read_in command request_in
