-- The lines of decisions that are passed: of none, and of some after others.
use Rattle.std.proofs.Common.{ℕ, List, [], ◌∷◌, ◌++◌, refl, sym, ap, ◌∙◌}
use Rattle.std.proofs.lemmas.List.Sums.{fold-append}
use Rattle.std.specs.List.{fold}
use Rattle.miss_explain.specs.Search.{Passes, search_after}
use Rattle.miss_explain.specs.declared.search.Search.{Search}

pub passes_none : (a : Search) → Passes a [] a
unfolding Passes
passes_none a = refl

pub passes_both : (a b c : Search) (xs ys : List ℕ) → Passes a xs b → Passes b ys c → Passes a (xs ++ ys) c
unfolding Passes
passes_both a b c xs ys one two = two ∙ (ap (λ s. fold search_after s ys) one ∙ sym (fold-append search_after a xs ys))

pub passes_more : (a b c : Search) (line : ℕ) (ys : List ℕ) → Passes a (line ∷ []) b → Passes b ys c →
    Passes a (line ∷ ys) c
passes_more a b c line ys one two = passes_both a b c (line ∷ []) ys one two
