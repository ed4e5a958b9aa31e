use Rattle.std.proofs.Common.{◌≡◌, map, take}
use Rattle.std.specs.List.{filter}
use Rattle.layer_ast.specs.View.{declaration_tree}
use Rattle.fault_mean.specs.Declared as declared
use Rattle.file_slots.specs.Placed.{words_of}
use Rattle.file_slots.proofs.declared.cell_words.Given as goal

abbrev pub invariant-loop-declaration : goal.invariant-loop-declaration
invariant-loop-declaration l =
    l.words ≡ words_of (filter declared.is_cell (map declaration_tree (take l.declaration-index l.declarations)))
