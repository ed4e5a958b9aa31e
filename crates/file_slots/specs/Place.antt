-- The layer at a place that a value of the program shows.
use Rattle.file_mean.specs.Names.{Placed}
use Rattle.file_scope.specs.Scope.{scope_of}
use Rattle.file_slots.specs.Placed.{placement}
use Rattle.file_slots.specs.declared.placed_layer.PlacedLayer.{PlacedLayer}

abbrev pub placed_of : PlacedLayer → Placed
placed_of p = placement (scope_of p.scope).layer p.given.now p.blank
