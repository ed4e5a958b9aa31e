-- How tokens fit what is printed, one token after another.
use Rattle.std.proofs.Common.{◌≡◌, List, ◌∷◌, IfSome}
use Rattle.layer_ast.specs.declared.tokens.Lexed.{Lexed}
use Rattle.layer_ast.specs.Printed.{Printed}
use Rattle.layer_ast.specs.Spells.{Fits}

-- a token fits what is printed first, and the others fit the rest
pub fits_first : (p : Printed) (printed : List Printed) (first : Lexed) (rest : List Lexed) → first.token ≡ p.token →
    IfSome p.at (λ at. first.at ≡ at) → Fits printed rest → Fits (p ∷ printed) (first ∷ rest)
unfolding Fits
fits_first p printed first rest token at h = (token, at, h)
