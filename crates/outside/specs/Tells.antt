-- What a sink tells.
use Rattle.std.specs.Prelude.{ℕ, List, Option}
use Rattle.outside.specs.declared.sink.Sink as outputs

-- Its contents, which of the puts to come are to fail and after how many bytes, and its count of faults.
pub record Tells : Type 0 where
  pub contents : Option (List ℕ)
  pub failures : Option (List (Option ℕ))
  pub faults : ℕ

-- What a sink tells that has these contents, failures to come and count of faults.
abbrev pub tells : Option (List ℕ) → Option (List (Option ℕ)) → ℕ → Tells
tells contents failures faults = record { contents = contents; failures = failures; faults = faults }

-- What a sink of this kind tells.
abbrev pub tells_of : {O : Type 0} → outputs.Ghosts O → O → Tells
tells_of o out = tells (o.contents out) (o.failures out) (o.faults out)
