-- A given sign at the front of tokens is read as the machine reads it.
use Rattle.std.proofs.Common.{◌≡◌, ℕ, suc, true, if◌then◌else◌, List, [], ◌∷◌, length, Option, Some, refl, ap, ◌∙◌}
use Rattle.std.proofs.Common.{arith}
use denote.Enum.Bare.{same_true}
use Rattle.layer_words.specs.contracts.signs.Sign.{the_type}
use Rattle.layer_ast.specs.declared.tokens.Lexed.{Lexed}
use Rattle.layer_words.specs.declared.signs.Sign.{Sign}
use Rattle.layer_words.specs.declared.signs.Sign.TheVariants.{LeftBrace, RightBrace, LeftParen, RightParen, LeftBracket}
use Rattle.layer_words.specs.declared.signs.Sign.TheVariants.{RightBracket}
use Rattle.layer_ast.specs.declared.tokens.Token.{Token}
use Rattle.layer_ast.specs.declared.tokens.Token.TheVariants as token
use Rattle.layer_ast.specs.Depth.{room_inside, room_after}
use Rattle.layer_ast.specs.Printed.{plain}
use Rattle.file_parse.proofs.Fit.{fits_first}
use Rattle.grammar_laws.specs.Machine.{Symbol, one, is_sign, eats, refuses, stack_after, feed, step, run, Outcome}
use Rattle.file_parse.specs.Reading.{ReadsFlat, ReadsOpening, Passes, IsPlain, IsOpening, IsClosing}

sign_is : (want : Sign) (t : Token) → is_sign want t ≡ true → t ≡ token.Sign want
sign_is want (token.Sign s) is = ap token.Sign (same_true the_type tt s want is)
sign_is want (token.Name w) is = cc
sign_is want (token.Number n) is = cc
sign_is want (token.Kind k) is = cc

plain_room : (want : Sign) (room : ℕ) → IsPlain want → room_after (token.Sign want) room ≡ Some room
plain_room LeftBrace room p = absurd p
plain_room RightBrace room p = absurd p
plain_room LeftParen room p = absurd p
plain_room RightParen room p = absurd p
plain_room LeftBracket room p = absurd p
plain_room RightBracket room p = absurd p
plain_room _ room p = refl

closing_room : (want : Sign) (room : ℕ) → IsClosing want → room_after (token.Sign want) room ≡ Some (suc room)
closing_room RightBrace room p = refl
closing_room RightParen room p = refl
closing_room RightBracket room p = refl
closing_room _ room p = absurd p

opening_room : (want : Sign) (room : ℕ) → IsOpening want → room_after (token.Sign want) room ≡ room_inside room
opening_room LeftBrace room p = refl
opening_room LeftParen room p = refl
opening_room LeftBracket room p = refl
opening_room _ room p = absurd p

-- one step of the machine over the sign that it expects
taken : (want : Sign) (t : Token) (room : ℕ) (following : Option ℕ) (stack : List Symbol) (n : ℕ)
    (go : ℕ → List Symbol → Outcome) →
    is_sign want t ≡ true → room_after (token.Sign want) room ≡ following →
    step (room_after t room) (feed (one want ∷ stack) t) n go ≡ step following (Some stack) n go
taken want t room following stack n go is same =
    ap (λ b. step (room_after t room) (stack_after (if b then eats [] else refuses) stack (feed stack t)) n go) is
    ∙ ap (λ o. step o (Some stack) n go) (ap (λ u. room_after u room) (sign_is want t is) ∙ same)

module _ (want : Sign) (tokens rest : List Lexed) (first : Lexed) (split : tokens ≡ first ∷ rest)
    (is : is_sign want first.token ≡ true) where
  pub sign_reads : IsPlain want → ReadsFlat (λ p k. p ∷ k) (one want ∷ []) (λ room. room) tokens (plain want) rest
  sign_reads p = rw split record {
    spelled = λ k h. fits_first (plain want) k first rest (sign_is want first.token is) tt h;
    goes_on = λ room stack. taken want first.token room (Some room) stack _ _ is (plain_room want room p);
    no_longer = omega arith;
  }

  pub closing_reads : IsClosing want → ReadsFlat (λ p k. p ∷ k) (one want ∷ []) suc tokens (plain want) rest
  closing_reads p = rw split record {
    spelled = λ k h. fits_first (plain want) k first rest (sign_is want first.token is) tt h;
    goes_on = λ room stack. taken want first.token room (Some (suc room)) stack _ _ is (closing_room want room p);
    no_longer = omega arith;
  }

  pub opening_reads : (room inside : ℕ) → room ≡ suc inside → IsOpening want → ReadsOpening want room tokens inside rest
  opening_reads room inside some p = rw split record {
    spelled = λ k h. fits_first (plain want) k first rest (sign_is want first.token is) tt h;
    goes_on = λ stack.
        taken want first.token room (Some inside) stack _ _ is (opening_room want room p ∙ ap room_inside some);
    within = some;
    shorter = refl;
  }

  pub sign_passes : Passes want tokens rest
  sign_passes = rw split record {
    spelled = λ k h. fits_first (plain want) k first rest (sign_is want first.token is) tt h;
    steps = λ room expected stack.
        ap (λ t. step (room_after t room) (feed (expected ∷ stack) t) (suc (length rest))
        (λ left next. run left next rest))
        (sign_is want first.token is);
    shorter = refl;
  }
