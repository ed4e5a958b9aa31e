use Rattle.std.proofs.Common.{◌<◌, [], ◌∷◌, length, map}
use Rattle.layer_ast.specs.Print as print
use Rattle.layer_ast.specs.View.{place_tree}
use Rattle.grammar_laws.specs.Machine.{a_place, places}
use Rattle.file_parse.specs.Reading.{GathersAfter}
use Rattle.file_parse.proofs.files.places.Given as goal

abbrev pub invariant-loop-alloc : goal.invariant-loop-alloc
invariant-loop-alloc l =
    GathersAfter print.places (a_place ∷ places ∷ []) places l.room l.fn.tokens (map place_tree l.all.items) l.rest
    × (0 < length l.all.items)

abbrev pub decreases-loop-alloc : goal.decreases-loop-alloc
decreases-loop-alloc l = length l.rest
