-- The words of a name.
use Rattle.std.specs.Prelude.{ℕ, List, [], ◌∷◌}
use Rattle.script_text.specs.Parts.{parts_after}
use Rattle.pack_words.specs.declared.name.Name.{Name}
use Rattle.pack_words.specs.declared.name.Name.TheVariants.{One, Two, Three, More}

abbrev pub words_in : Name → List (List ℕ)
words_in (One a) = a.now ∷ []
words_in (Two a b) = a.now ∷ b.now ∷ []
words_in (Three a b c) = a.now ∷ b.now ∷ c.now ∷ []
words_in (More a b c d rest) = a.now ∷ b.now ∷ c.now ∷ d.now ∷ parts_after 46 rest
