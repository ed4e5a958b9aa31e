use Rattle.std.proofs.Common.{refl}
use Rattle.layer_ast.specs.Cut.{piece}
use Rattle.layer_words.specs.Spelling.{symbols}
use Rattle.layer_ast.specs.Cut.{symbol_at}
use Rattle.grammar_laws.proofs.Beginnings.{nothing_begins}
use Rattle.grammar_laws.proofs.bad_byte_stops.Goals as goal

pub returns : goal.returns
unfolding piece symbols symbol_at
returns c = record { bad = refl; before = nothing_begins }
