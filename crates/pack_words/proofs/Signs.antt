-- The words of operators are those of the language.
use Rattle.std.proofs.Common.{◌≡◌, ℕ, List, refl}
use Rattle.layer_words.specs.Spelling.{reserved, symbols}
use Rattle.pack_mean.specs.Named.{operator_named}
use Rattle.pack_words.specs.Words.{by_word, operator_words}

pub operators_are : (word : List ℕ) → by_word operator_words word ≡ operator_named word
unfolding reserved symbols
operators_are word = refl
