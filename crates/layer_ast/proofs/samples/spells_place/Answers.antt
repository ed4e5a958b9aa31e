use Rattle.std.proofs.Common.{refl}
use Rattle.layer_ast.specs.Cut.{piece}
use Rattle.layer_words.specs.Spelling.{reserved, kinds, symbols}
use Rattle.layer_ast.specs.Cut.{word_token, symbol_at}
use Rattle.layer_ast.specs.Spells.{Fits}
use Rattle.layer_ast.proofs.samples.spells_place.Goals as goal

pub returns : goal.returns
unfolding piece reserved kinds word_token symbols symbol_at Fits
returns c = record {
  good = refl;
  fits = (refl, tt, (refl, tt, (refl, refl, (refl, tt, (refl, tt, tt)))));
  within = tt;
  placed = λ none. cc;
}
