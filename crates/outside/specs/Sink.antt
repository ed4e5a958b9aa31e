-- What a sink tells, and what a put does to it.
use Rattle.std.specs.Prelude.{◌≡◌, ◌<◌, ℕ, List, [], ◌∷◌, length, take, Option, None, Some, Result, Ok, Err, ⊤}
use Rattle.std.specs.Io.KnownBytes.{Appends}
use Rattle.outside.specs.declared.sink.SinkError.{SinkError}
use Rattle.outside.specs.declared.sink.SinkError.TheVariants.{Failed, Memory}
use Rattle.outside.specs.Count.{next_count}

-- the failure that the next put meets: how many bytes it appends first; past the end of the list there is none
abbrev pub next_failure : List (Option ℕ) → Option ℕ
next_failure [] = None
next_failure (failure ∷ later) = failure

-- where the sink tells its failures, the next put meets this one or none
abbrev pub Meets : Option (List (Option ℕ)) → Option ℕ → Type 0
Meets None failure = ⊤
Meets (Some failures) failure = next_failure failures ≡ failure

-- the count of failed puts after a put with this answer
abbrev pub faults_after_put : {T : Type 0} → ℕ → Result T SinkError → ℕ
faults_after_put count (Ok done) = count
faults_after_put count (Err Failed) = next_count count
faults_after_put count (Err Memory) = count

-- where the contents are told, they grow by a prefix of these bytes
abbrev pub AppendsPrefix : Option (List ℕ) → Option (List ℕ) → List ℕ → Type 0
AppendsPrefix old new bytes = (n : ℕ) × Appends old new (take n bytes)

-- where the contents are told, they grow by a prefix of these bytes that isn't all of them
abbrev pub AppendsPart : Option (List ℕ) → Option (List ℕ) → List ℕ → Type 0
AppendsPart old new bytes = (n : ℕ) × Appends old new (take n bytes) × (n < length bytes)

-- what a put of these bytes does: all are appended; or as many as its failure says; or, where memory ran out, not all
abbrev pub Puts : {T : Type 0} → Option (List (Option ℕ)) → Option (List ℕ) → Option (List ℕ) → List ℕ →
    Result T SinkError → Type 0
Puts failures old new bytes (Ok done) = Appends old new bytes × Meets failures None
Puts failures old new bytes (Err Failed) = (n : ℕ) × Appends old new (take n bytes) × Meets failures (Some n)
Puts failures old new bytes (Err Memory) = AppendsPart old new bytes
