use Rattle.std.proofs.Common.{◌≡◌, true, map, take}
use Rattle.std.specs.List.{list_all}
use Rattle.std.specs.Option.{option_map_or}
use Rattle.layer_ast.specs.View.{given_tree}
use Rattle.fault_mean.specs.Limits.{is_within}
use Rattle.fault_mean.specs.Places.{param_value}
use Rattle.file_scope.specs.Scope.{scope_of}
use Rattle.file_names.proofs.value.all_within.Given as goal

abbrev pub invariant-loop-word : goal.invariant-loop-word
invariant-loop-word l =
    list_all (λ w. option_map_or (is_within l.most) (param_value (scope_of l.scope).layer (map given_tree l.given) w)
    true)
    (take l.word-index l.words) ≡ true
