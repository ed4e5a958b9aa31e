use Rattle.std.proofs.Common.{◌≡◌, map, take}
use Rattle.layer_ast.specs.View as written
use Rattle.file_slots.specs.Placed.{words_of}
use Rattle.file_lower.proofs.layer.own_words.Given as goal

abbrev pub invariant-loop-declaration : goal.invariant-loop-declaration
invariant-loop-declaration l = l.words ≡
    words_of (map written.declaration_tree (take l.declaration-index l.declarations))
