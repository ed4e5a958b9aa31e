-- The words of the program: which picture they ask for.
use Rattle.std.specs.Prelude.{ℕ, nat_le, List, [], ◌∷◌, Option, Some, None, codes, if◌then◌else◌}
use Rattle.clap.specs.Walk.{Rule, Row, Text, first_of}
use Rattle.clap.specs.Simple.{App}
use Rattle.command_line.specs.Rules.{command_of, option, positional, read_in, required}
use Rattle.script_mean.specs.Words.{◌>>=◌, number_within}
use Rattle.chart_mean.specs.declared.types.Breach.{Breach}
use Rattle.chart_mean.specs.Excerpt.{Excerpt}

-- `REPORT`, and perhaps `--from A`, `--to B`, `--breach A B`, of which B is a word at its place, and `--hide LAYER`
abbrev pub rules : List Rule
rules =
    required (codes "report") ∷ option (codes "from") ∷ option (codes "to") ∷ option (codes "breach") ∷
    positional (codes "second") ∷ option (codes "hide") ∷ []

-- the command line of `runchart`, by these rules
abbrev pub command : App
command = command_of (codes "runchart") rules

-- the name of a report, and the lines of it that are asked for
pub record Request : Type 0 where
  pub file : Text
  pub excerpt : Excerpt

-- the highest number of a line
abbrev pub highest : ℕ
highest = 4294967295

-- the number of a line, if one is given
abbrev pub line_number : ℕ → Option Text → Option ℕ
line_number default None = Some default
line_number default (Some text) = number_within 1 highest text

-- a breach by the numbers of its lines, which are both given or neither
abbrev pub breach_of : (first second : Option Text) → Option (Option Breach)
breach_of None None = Some None
breach_of (Some first) (Some second) = do
  one ← number_within 1 highest first
  two ← number_within 1 highest second
  Some (Some (record { first = one; second = two }))
breach_of _ _ = None

-- the layer whose headers are left out, empty where none is named
abbrev pub hidden : Option Text → Text
hidden None = []
hidden (Some name) = name

-- the first line isn't after the last
abbrev pub excerpt_of : (first last : ℕ) → Option Breach → Text → Option Excerpt
excerpt_of first last breach hide =
    if nat_le first last then Some (record { first = first; last = last; breach = breach; hide = hide }) else None

-- what `clap` found, by name; all lines where none is given
abbrev pub request_in : List Row → Option Request
request_in rows = do
  file ← first_of (codes "report") rows
  first ← line_number 1 (first_of (codes "from") rows)
  last ← line_number highest (first_of (codes "to") rows)
  breach ← breach_of (first_of (codes "breach") rows) (first_of (codes "second") rows)
  excerpt ← excerpt_of first last breach (hidden (first_of (codes "hide") rows))
  Some (record { file = file; excerpt = excerpt })

-- what the words after the program's name ask for, if `clap` takes them
abbrev pub request_of : List Text → Option Request
request_of = read_in command request_in
