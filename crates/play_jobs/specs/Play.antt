-- What a run over a stack writes and answers.
use Rattle.std.specs.Prelude.{◌≡◌, ◌⊎◌, ℕ, ◌<◌, List, Result, Ok, Err}
use Rattle.std.specs.List.{concat}
use Rattle.layer_mean.specs.Tree.{LayerTree}
use Rattle.stack_mean.specs.Acceptance.{rows_of, most_rows}
use Rattle.group_mean.specs.Room.{HasRoom}
use Rattle.outside.specs.Tells.{Tells}
use Rattle.outside.specs.Lines.{Begins, Gains, Fails}
use Rattle.outside.specs.declared.sink.SinkError.{SinkError}
use Rattle.outside.specs.declared.sink.SinkError.TheVariants as sink
use Rattle.group_member.specs.declared.error.OpenError.{OpenError}
use Rattle.group_member.specs.declared.error.OpenError.TheVariants as opening
use Rattle.play_jobs.specs.declared.error.PlayError.{PlayError}
use Rattle.play_jobs.specs.declared.error.PlayError.TheVariants.{TooManyRows, Failed, Memory}

-- Where the members of a group have room, lines were written: all, or those before a put that failed, or a
-- prefix of their bytes before memory ran out; where they have none, and where memory ran out before, nothing was.
abbrev pub Plays : List LayerTree → (members : ℕ) → List (List ℕ) → Tells → Tells → Result (Unit {0}) PlayError → Type 0
Plays stack members lines old new (Ok run) = HasRoom stack members × Gains old new lines
Plays stack members lines old new (Err TooManyRows) = (most_rows < rows_of stack members) × (new ≡ old)
Plays stack members lines old new (Err Failed) = HasRoom stack members × Fails old new lines
Plays stack members lines old new (Err Memory) = (new ≡ old) ⊎ (HasRoom stack members × Begins old new (concat lines))

-- The error of a run whose group wasn't opened.
abbrev pub not_opened : OpenError → PlayError
not_opened opening.TooLarge = TooManyRows
not_opened opening.Memory = Memory

-- The error of a run that couldn't put all lines.
abbrev pub unwritten : SinkError → PlayError
unwritten sink.Failed = Failed
unwritten sink.Memory = Memory
