use Rattle.file_slots.specs.Place.{placed_of}
use Rattle.file_slots.proofs.Places.{holds_found}
use Rattle.file_slots.proofs.placed_layer.PlacedLayer.declaration.Goals as goal

pub returns-clause-holds : goal.returns-clause-holds
returns-clause-holds c = holds_found (placed_of c.args.self.now) c.args.word.now _ c.args.self.now.held
    c.declaration.ensures
