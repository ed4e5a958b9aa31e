-- The command line as `clap` is told of it.
use Rattle.std.specs.Prelude.{List, [], ◌∷◌, codes}
use Rattle.clap.specs.Walk.{Rule}
use Rattle.clap.specs.Simple.{App}
use Rattle.command_line.specs.Rules.{command_of, flag, option, positional, required}

-- all that the program's words may be, whatever the job, with this word for `--events`
abbrev pub rules : Rule → List Rule
rules events =
    required (codes "job") ∷ required (codes "file") ∷ positional (codes "second") ∷
    option (codes "run") ∷ option (codes "seed") ∷ events ∷ option (codes "members") ∷
    option (codes "turns") ∷ option (codes "me") ∷ option (codes "patience") ∷ option (codes "law") ∷
    option (codes "with") ∷
    flag (codes "wire") ∷ flag (codes "count") ∷ flag (codes "raw") ∷ []

-- a command of the program, without a help or a version flag
abbrev pub command_with : Rule → App
command_with events = command_of (codes "stackc") (rules events)

-- the one command of the program: `--events` has a value, as a load wants it
abbrev pub command : App
command = command_with (option (codes "events"))

-- `--events` without a value, as a replay wants it
abbrev pub telling : Rule
telling = record (flag (codes "events")) { id = codes "telling" }

-- the command of a replay that tells its events
abbrev pub telling_command : App
telling_command = command_with telling
