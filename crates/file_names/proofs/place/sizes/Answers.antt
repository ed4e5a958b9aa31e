use Rattle.layer_ast.specs.View.{layer_tree, place_tree}
use Rattle.fault_mean.specs.Faults.{too_many}
use Rattle.fault_mean.specs.Limits.{LimitedSize, is_within_at, sizes_in}
use Rattle.file_scope.proofs.Again.{nothing_new, one_for_all}
use Rattle.file_names.specs.Found.{name_shown}
use Rattle.file_names.proofs.place.sizes.Goals as goal

pub returns-in_ok-holds : goal.returns-in_ok-holds
returns-in_ok-holds c =
    let layer = layer_tree c.args.scope.now.layer.now in
    one_for_all name_shown c.args.found.now c.note_unless.new.found (too_many c.args.place.now.name.at)
    (λ (l : LimitedSize). is_within_at layer (place_tree c.args.place.now) l.size l.most) (sizes_in layer)
    c.in_ok-holds.holds
    c.in_ok-holds.ensures c.note_unless.ensures

pub returns-else-not-is_past : goal.returns-else-not-is_past
returns-else-not-is_past c =
    let layer = layer_tree c.args.scope.now.layer.now in
    nothing_new name_shown c.args.found.now (too_many c.args.place.now.name.at)
    (λ (l : LimitedSize). is_within_at layer (place_tree c.args.place.now) l.size l.most) (sizes_in layer)
    (c.is_past.ensures c.if-not-is_past.false)
