use Rattle.std.proofs.Common.{rules, arith}
use Rattle.file_slots.specs.Place.{placed_of}
use Rattle.file_slots.proofs.Places.{tag_at, tag_nowhere, tag_small}
use Rattle.file_slots.proofs.placed_layer.PlacedLayer.tag.Goals as goal

pub overflow_cast-result : goal.overflow_cast-result
overflow_cast-result c =
    let small = tag_small (placed_of c.args.self.now) c.args.name.now c.args.self.now.headers c.in-Some.k
    c.args.self.now.headers_are
    c.args.self.now.few_headers (search rules) in
    search (rules, small)

pub overflow_add-result : goal.overflow_add-result
overflow_add-result c =
    let small = tag_small (placed_of c.args.self.now) c.args.name.now c.args.self.now.headers c.in-Some.k
    c.args.self.now.headers_are
    c.args.self.now.few_headers (search rules) in
    search (rules, small)

pub returns-in-None-clause-is : goal.returns-in-None-clause-is
returns-in-None-clause-is c =
    tag_nowhere (placed_of c.args.self.now) c.args.name.now c.args.self.now.headers c.args.self.now.headers_are
    (search rules)

pub returns-in-Some-clause-is : goal.returns-in-Some-clause-is
returns-in-Some-clause-is c =
    tag_at (placed_of c.args.self.now) c.args.name.now c.args.self.now.headers c.in-Some.k c.args.self.now.headers_are
    (search rules)

pub returns-in-Some-clause-few : goal.returns-in-Some-clause-few
returns-in-Some-clause-few c =
    let small = tag_small (placed_of c.args.self.now) c.args.name.now c.args.self.now.headers c.in-Some.k
    c.args.self.now.headers_are
    c.args.self.now.few_headers (search rules) in
    omega (arith, small)
