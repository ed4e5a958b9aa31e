use Rattle.std.proofs.Common.{◌≡◌, [], flat_map, fold, map, take}
use Rattle.layer_ast.specs.View.{declaration_tree}
use Rattle.file_names.specs.Gathered.{capacity_words, noted_words}
use Rattle.file_names.proofs.sizes.capacities.Given as goal

abbrev pub invariant-loop-declaration : goal.invariant-loop-declaration
invariant-loop-declaration l =
    l.words ≡ fold noted_words []
    (flat_map capacity_words (map declaration_tree (take l.declaration-index l.declarations)))
