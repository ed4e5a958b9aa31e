use Rattle.std.proofs.Common.{refl, arith, inr}
use Rattle.layer_ast.specs.Cut.{piece}
use Rattle.layer_words.specs.Spelling.{symbols}
use Rattle.layer_ast.specs.Cut.{symbol_at}
use Rattle.grammar_laws.proofs.Beginnings.{nothing_begins, nothing_spells}
use Rattle.program_rows.proofs.refuses_texts.Goals as goal

pub returns-clause-bad_byte : goal.returns-clause-bad_byte
unfolding piece symbols symbol_at
returns-clause-bad_byte c = (omega arith, record { bad = refl; before = nothing_begins })

pub returns-clause-empty : goal.returns-clause-empty
returns-clause-empty c =
    (omega arith, inr record { good = refl; before = nothing_begins; none = nothing_spells; place = refl })
