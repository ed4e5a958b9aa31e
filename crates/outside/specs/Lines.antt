-- What is written to a sink line by line, in one put a line.
use Rattle.std.specs.Prelude.{◌≡◌, ℕ, ◌+◌, List, ◌∷◌, ◌++◌, length, take, drop, Some, Result, Ok, Err, ⊤}
use Rattle.std.specs.List.{concat}
use Rattle.std.specs.Option.{option_map}
use Rattle.std.specs.Io.KnownBytes.{Appends}
use Rattle.outside.specs.Count.{Rose}
use Rattle.outside.specs.Sink.{Meets, AppendsPart}
use Rattle.outside.specs.declared.sink.SinkError.{SinkError}
use Rattle.outside.specs.declared.sink.SinkError.TheVariants.{Failed, Memory}
use Rattle.outside.specs.Tells.{Tells}

-- A sink that tells its contents gained a prefix of these bytes.
pub record Begins (old new : Tells) (bytes : List ℕ) : Type 0 where
  pub count : ℕ
  pub gained : Appends old.contents new.contents (take count bytes)

-- A sink gained these lines, in as many puts, and no put failed.
pub record Gains (old new : Tells) (lines : List (List ℕ)) : Type 0 where
  pub gained : Appends old.contents new.contents (concat lines)
  pub puts : new.failures ≡ option_map (drop (length lines)) old.failures
  pub sound : new.faults ≡ old.faults

-- The lines `front` were put, in as many puts, and then the put of `line` failed, after `part` of its bytes.
pub record Fails (old new : Tells) (lines : List (List ℕ)) : Type 0 where
  pub front : List (List ℕ)
  pub line : List ℕ
  pub following : List (List ℕ)
  pub are : lines ≡ front ++ line ∷ following
  pub part : ℕ
  pub gained : Appends old.contents new.contents (concat front ++ take part line)
  pub met : Meets (option_map (drop (length front)) old.failures) (Some part)
  pub puts : new.failures ≡ option_map (drop (length front + 1)) old.failures
  pub rose : Rose old.faults new.faults

-- Lines were written to a sink: all, or those before a put that failed, or a prefix of their bytes before memory
-- ran out.
abbrev pub Wrote : List (List ℕ) → Tells → Tells → Result (Unit {0}) SinkError → Type 0
Wrote lines old new (Ok done) = Gains old new lines
Wrote lines old new (Err Failed) = Fails old new lines
Wrote lines old new (Err Memory) = Begins old new (concat lines)

-- Where memory ran out in the put of a line, the line isn't whole.
abbrev pub BreaksOff : List ℕ → Tells → Tells → Result (Unit {0}) SinkError → Type 0
BreaksOff line old new (Ok done) = ⊤
BreaksOff line old new (Err Failed) = ⊤
BreaksOff line old new (Err Memory) = AppendsPart old.contents new.contents line
