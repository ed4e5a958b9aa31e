use Rattle.std.proofs.Common.{◌++◌, [], flat_map}
use Rattle.layer_ast.specs.View.{declaration_tree}
use Rattle.fault_mean.specs.Forms.{items_of, labels_of}
use Rattle.fault_mean.specs.Limits.{capacity_in}
use Rattle.fault_mean.specs.NameFaults.{declaration_uses, row_faults, size_faults, too_many_of, twice_among}
use Rattle.fault_mean.specs.NameFaults.{uses_faults}
use Rattle.file_scope.specs.Scope.{scope_of}
use Rattle.file_names.specs.Found.{name_shown}
use Rattle.file_scope.proofs.Finds.{finds_both, finds_join}
use Rattle.file_names.proofs.declaration.declaration.Goals as goal

pub returns : goal.returns
returns c =
    let d = declaration_tree c.args.d.now in
    let u = uses_faults (scope_of c.args.scope.now) (declaration_uses d) in
    let k = flat_map size_faults (capacity_in d) in
    finds_join name_shown c.args.found.now c.rows.new.found c.few_fields.new.found (u ++ k ++ row_faults (items_of d))
    (twice_among [] (labels_of d)) (too_many_of 4 (labels_of d))
    (finds_both name_shown c.args.found.now c.capacity.new.found c.rows.new.found (u ++ k) (row_faults (items_of d))
    (finds_both name_shown c.args.found.now c.used.new.found c.capacity.new.found u k c.used.ensures c.capacity.ensures)
    c.in_ok-rows.ensures)
    c.in_ok-few_fields.ensures
