-- What a node does between what was heard in a turn and what is planned: where nothing was heard, it hands on what was
-- put, and waits.
use Rattle.std.specs.Prelude.{◌≡◌, ℕ, List, [], ◌∷◌, Result, Ok, Err}
use Rattle.outside.specs.Lines.{Fails, Gains}
use Rattle.outside.specs.declared.sink.SinkError.{SinkError}
use Rattle.outside.specs.declared.sink.SinkError.TheVariants.{Failed, Memory}
use Rattle.node_loop.specs.Around.{Around}

-- Of the links nothing was asked that they tell.
pub record IsUnasked (a b : Around) : Type 0 where
  pub faults : b.faults ≡ a.faults
  pub sends : b.sends ≡ a.sends
  pub told : b.told ≡ a.told

-- Nothing was put.
pub record Quietly (a b : Around) : Type 0 where
  pub unwritten : Gains a.output b.output []
  pub unasked : IsUnasked a b

-- What was put couldn't be handed on: as where the put of the next line, whichever that is, failed before its first
-- byte.
pub record Stopped (a b : Around) : Type 0 where
  pub fails : (line : List ℕ) → Fails a.output b.output (line ∷ [])
  pub unasked : IsUnasked a b

abbrev pub Rested : Around → Around → Result (Unit {0}) SinkError → Type 0
Rested a b (Ok done) = Quietly a b
Rested a b (Err Failed) = Stopped a b
Rested a b (Err Memory) = ⊥
