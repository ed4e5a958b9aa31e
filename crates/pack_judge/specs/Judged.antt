-- What a file of traces gives for a stack.
use Rattle.std.specs.Prelude.{◌≡◌, ℕ, List, Result, Ok, Err}
use Rattle.layer_mean.specs.Tree.{LayerTree}
use Rattle.bypass_mean.specs.Bypasses.{Bypasses}
use Rattle.pack_mean.specs.Accepted.{Accepts, IsFault, too_large, bad_line, differs}
use Rattle.pack_laws.specs.Accepted.{from_file}
use Rattle.trace_core.specs.declared.bypass.Bypasses as code
use Rattle.trace_core.specs.Bypasses.{bypasses_tree}
use Rattle.pack_judge.specs.declared.error.BypassError.{BypassError}
use Rattle.pack_judge.specs.declared.error.BypassError.TheVariants.{TooLarge, Line, Differs, Memory}

-- The file is accepted, and these are the bypasses that it gives.
pub record AreOfFile (stack : List LayerTree) (text : List ℕ) (b : Bypasses) : Type 0 where
  pub file : Accepts stack text
  pub are : b ≡ from_file stack file.traces

-- It gives bypasses, or is refused for its fault, or memory ran out.
abbrev pub Judges : List LayerTree → List ℕ → Result code.Bypasses BypassError → Type 0
Judges stack text (Ok b) = AreOfFile stack text (bypasses_tree b)
Judges stack text (Err TooLarge) = IsFault stack text too_large
Judges stack text (Err (Line n)) = IsFault stack text (bad_line n)
Judges stack text (Err (Differs entry case act)) = IsFault stack text (differs entry case act)
Judges stack text (Err Memory) = Unit {0}

-- A file was read into bypasses, which are those that it gives, or it is refused for its fault, or memory ran out; of
-- the bypasses where it is refused nothing is said.
abbrev pub JudgesInto : List LayerTree → List ℕ → code.Bypasses → Result (Unit {0}) BypassError → Type 0
JudgesInto stack text b (Ok read) = Judges stack text (Ok b)
JudgesInto stack text b (Err e) = Judges stack text (Err e)
