use Rattle.std.proofs.Common.{refl}
use Rattle.layer_ast.specs.Cut.{piece}
use Rattle.layer_words.specs.Spelling.{reserved, kinds, symbols}
use Rattle.layer_ast.specs.Cut.{word_token, symbol_at}
use Rattle.layer_ast.proofs.Laid.{fits_laid}
use Rattle.layer_ast.proofs.samples.spells_layer.Goals as goal

pub returns : goal.returns
unfolding piece reserved kinds word_token symbols symbol_at
returns c = record { good = refl; fits = fits_laid _ _ refl; within = tt; placed = λ none. cc }
