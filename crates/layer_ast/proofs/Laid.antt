-- Printed tokens laid over the tokens of a text.
use Rattle.std.proofs.Common.{◌≡◌, List, [], ◌∷◌, Option, Some, None, IfSome, sym, ap}
use Rattle.layer_words.specs.declared.places.At.{At}
use Rattle.layer_ast.specs.declared.tokens.Lexed.{Lexed}
use Rattle.layer_ast.specs.Printed.{Printed}
use Rattle.layer_ast.specs.Spells.{Fits}

-- the place that a printed token says, or else the one at hand
abbrev place : Option At → At → At
place None at = at
place (Some at) _ = at

-- a token as printed, where it says or else where the text has it
abbrev over : Printed → Lexed → Lexed
over p l = record { token = p.token; at = place p.at l.at }

-- tokens as printed, each where it says or else where the text has it
abbrev laid : List Printed → List Lexed → List Lexed
laid (p ∷ printed) (l ∷ lexed) = over p l ∷ laid printed lexed
laid [] lexed = []
laid (p ∷ printed) [] = record { token = p.token; at = record { line = 0; col = 0 } } ∷ []

said : (p : Option At) (at : At) → place p at ≡ at → IfSome p (λ x. at ≡ x)
said None at e = tt
said (Some x) at e = sym e

-- what is laid over a text and leaves it as it is fits it
pub fits_laid : (printed : List Printed) (lexed : List Lexed) → laid printed lexed ≡ lexed → Fits printed lexed
unfolding Fits
fits_laid [] [] e = tt
fits_laid (p ∷ printed) (l ∷ lexed) e =
    let here : over p l ≡ l = cc in
    let rest : laid printed lexed ≡ lexed = cc in
    (ap (λ x. x.token) (sym here), said p.at l.at (ap (λ x. x.at) here), fits_laid printed lexed rest)
fits_laid [] (l ∷ lexed) e = absurd (cc)
fits_laid (p ∷ printed) [] e = absurd (cc)
