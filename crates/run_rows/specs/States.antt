-- States that a layer can have.
use Rattle.std.specs.Prelude.{[], ◌∷◌}
use Rattle.layer_mean.specs.Visit.{fresh}
use Rattle.packet_mean.specs.ChainedState.{IsChainedState}
use Rattle.layer_rows.specs.Counter.{counter, due}
use Rattle.layer_rows.specs.Keeper.{keeper, holding}

-- The counter's first state and a later one, and that of a layer whose queue is full.
abbrev pub AreChained : Type 0
AreChained =
    IsChainedState (counter ∷ []) 0 (fresh counter 1 3 0)
    × IsChainedState (counter ∷ []) 0 (due (1 ∷ 0 ∷ 0 ∷ []))
    × IsChainedState (keeper ∷ []) 0 (holding 0)
