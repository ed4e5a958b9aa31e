use Rattle.std.proofs.Common.{rules}
use Rattle.layer_ast.specs.View.{declaration_tree, layer_tree}
use Rattle.file_slots.proofs.Finds.{param_is}
use Rattle.file_slots.proofs.placed_layer.PlacedLayer.param.Goals as goal

pub returns-in-Some-declared_value : goal.returns-in-Some-declared_value
returns-in-Some-declared_value c =
    let is = param_is (layer_tree c.args.self.now.scope.layer.now) c.args.self.now.given.now c.args.word.now
    (declaration_tree c.in-Some.d.now) c.in-Some-declared_value.value c.given_among.result
    (search rules) (search rules) c.given_among.ensures in
    search (rules, is)
