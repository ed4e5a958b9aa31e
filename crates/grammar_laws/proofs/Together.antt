-- Two printed lists that can stand for the same tokens at the same places, so that a reader can't tell them apart.
use Rattle.std.proofs.Common.{◌≡◌, List, [], ◌∷◌, Option, Some, None, IfSome, refl, sym, ◌∙◌}
use Rattle.layer_words.specs.declared.places.At.{At}
use Rattle.layer_ast.specs.declared.names.Name.{Name}
use Rattle.layer_ast.specs.declared.tokens.Lexed.{Lexed}
use Rattle.layer_ast.specs.declared.tokens.Token.TheVariants as token
use Rattle.layer_ast.specs.Printed.{Printed}
use Rattle.layer_ast.specs.Spells.{Fits}

-- where both say a place, it is the same
abbrev pub BothAt : Option At → Option At → Type 0
BothAt (Some a) (Some b) = a ≡ b
BothAt _ _ = Unit {0}

-- the tokens are the same, and the places where both say one
abbrev pub Together : List Printed → List Printed → Type 0
Together [] [] = Unit {0}
Together (p ∷ s) (q ∷ t) = (p.token ≡ q.token) × BothAt p.at q.at × Together s t
Together _ _ = ⊥

both_at : (a b : Option At) (at : At) → IfSome a (λ x. at ≡ x) → IfSome b (λ x. at ≡ x) → BothAt a b
both_at (Some a) (Some b) at h i = sym h ∙ i
both_at None b at h i = tt
both_at (Some a) None at h i = tt

-- what fits the same tokens goes together
pub fits_together : (s t : List Printed) (lexed : List Lexed) → Fits s lexed → Fits t lexed → Together s t
unfolding Fits
fits_together [] [] lexed h i = tt
fits_together (p ∷ s) (q ∷ t) (l ∷ lexed) (e, w, h) (f, v, i) =
    (sym e ∙ f, both_at p.at q.at l.at w v, fits_together s t lexed h i)
fits_together [] (q ∷ t) [] h i = absurd i
fits_together [] (q ∷ t) (l ∷ lexed) h i = absurd h
fits_together (p ∷ s) [] [] h i = absurd h
fits_together (p ∷ s) [] (l ∷ lexed) h i = absurd i
fits_together (p ∷ s) (q ∷ t) [] h i = absurd h

same_at : (a : Option At) → BothAt a a
same_at None = tt
same_at (Some a) = refl

pub goes_with_itself : (s : List Printed) → Together s s
goes_with_itself [] = tt
goes_with_itself (p ∷ s) = (refl, same_at p.at, goes_with_itself s)

-- a name is its place and its word
pub name_once : (n m : Name) → token.Name n.word ≡ token.Name m.word → n.at ≡ m.at → n ≡ m
name_once n m e at =
    let word : n.word ≡ m.word = cc in
    λ i. record { at = at i; word = word i }
