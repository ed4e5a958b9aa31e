use Rattle.std.proofs.Common.{rules}
use Rattle.file_slots.specs.Place.{placed_of}
use Rattle.file_slots.proofs.Places.{cell_at, cell_nowhere, cell_small}
use Rattle.file_slots.proofs.placed_layer.PlacedLayer.cell.Goals as goal

pub overflow_cast-result : goal.overflow_cast-result
overflow_cast-result c =
    let small = cell_small (placed_of c.args.self.now) c.args.name.now c.args.self.now.cells c.in-Some.k
    c.args.self.now.cells_are
    c.args.self.now.few_cells (search rules) in
    search (rules, small)

pub returns-in-None : goal.returns-in-None
returns-in-None c =
    cell_nowhere (placed_of c.args.self.now) c.args.name.now c.args.self.now.cells c.args.self.now.cells_are
    (search rules)

pub returns-in-Some : goal.returns-in-Some
returns-in-Some c =
    cell_at (placed_of c.args.self.now) c.args.name.now c.args.self.now.cells c.in-Some.k c.args.self.now.cells_are
    (search rules)
