-- A sound stack can be run in both modes.
use Rattle.std.specs.Prelude.{List}
use Rattle.bypass_laws.specs.Making.{IsSound}
use Rattle.run_mean.specs.Mode.{Mode, layered, bypass}
use Rattle.layer_mean.specs.Tree.{LayerTree}
use Rattle.group_open.specs.Opening.{CanRun}

pub can_run : (mode : Mode) (stack : List LayerTree) → IsSound stack → CanRun mode stack
can_run layered stack sound = sound.typed
can_run bypass stack sound = sound
