-- What surrounds a node: its output and its links, as they tell it.
use Rattle.std.specs.Prelude.{◌≡◌, ◌⊎◌, ℕ, zero, suc, ◌+◌, List, [], ◌∷◌, length, drop, Option, IfSome}
use Rattle.std.specs.Option.{option_map}
use Rattle.outside.specs.Clock.{next_moment}
use Rattle.outside.specs.Count.{last_count, next_count}
use Rattle.outside.specs.Links.{Network}
use Rattle.outside.specs.declared.links.Links as links
use Rattle.outside.specs.declared.sink.Sink as outputs
use Rattle.outside.specs.Tells as sink
use Rattle.outside.specs.Tells.{tells_of}

-- What the output tells; how many listens and receives failed, and how many sends; and what the network tells.
pub record Around : Type 0 where
  pub output : sink.Tells
  pub faults : ℕ
  pub sends : ℕ
  pub told : Option Network

abbrev pub surrounding : sink.Tells → ℕ → ℕ → Option Network → Around
surrounding output faults sends told = record { output = output; faults = faults; sends = sends; told = told }

-- What an output and links tell together.
abbrev pub around : {O N : Type 0} → outputs.Ghosts O → links.Ghosts N → O → N → Around
around o n out links = surrounding (tells_of o out) (n.faults links) (n.send_faults links) (n.told links)

-- A count after `more` failed calls.
abbrev pub count_on : ℕ → ℕ → ℕ
count_on count zero = count
count_on count (suc more) = count_on (next_count count) more

-- A count rose by `more`, unless it stands at its last value.
abbrev pub RoseBy : (before after more : ℕ) → Type 0
RoseBy before after more = (after ≡ before + more) ⊎ (after ≡ last_count)

-- The next moments of a clock that tells them.
abbrev pub moments_given : ℕ → List ℕ → List ℕ
moments_given zero moments = []
moments_given (suc count) moments = next_moment moments ∷ moments_given count (drop 1 moments)

-- A clock told these moments.
pub record Told (before after : Option (List ℕ)) (clock : List ℕ) : Type 0 where
  pub moments : IfSome before (λ moments. clock ≡ moments_given (length clock) moments)
  pub kept : after ≡ option_map (drop (length clock)) before
