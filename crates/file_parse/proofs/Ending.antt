-- The end of a file.
use Rattle.std.proofs.Common.{◌≡◌, ℕ, suc, nat_eq, true, false, List, [], ◌∷◌, length, Option, Some, None, refl}
use Rattle.std.proofs.Common.{true≢false, sym, ap, ◌∙◌, ◌<◌, arith, eqb-true}
use Rattle.layer_ast.specs.declared.tokens.Lexed.{Lexed}
use Rattle.layer_ast.specs.Depth.{room_after}
use Rattle.layer_words.specs.declared.signs.Sign.TheVariants as sign
use Rattle.layer_ast.specs.Print as print
use Rattle.layer_ast.specs.Printed.{plain}
use Rattle.layer_ast.specs.Spells.{Fits}
use Rattle.layer_ast.specs.Tree.{LayerTree, PlaceTree}
use Rattle.grammar_laws.specs.Machine.{Symbol, one, layers, a_place, places, accepted, refused, step, run, start}
use Rattle.grammar_laws.specs.Machine.{Outcome}
use Rattle.file_parse.specs.Reading.{last_part, Reads, ReadsFlat, ReadsOpening, ReadsStack, ReadsFile}

no_stack : (room : Option ℕ) (n : ℕ) (go : ℕ → List Symbol → Outcome) → step room None n go ≡ refused n
no_stack None n go = refl
no_stack (Some room) n go = refl

-- where nothing is left, nothing fits it and the machine accepts
pub nothing_fits : (rest : List Lexed) → nat_eq (length rest) 0 ≡ true → Fits [] rest
unfolding Fits
nothing_fits [] is = tt
nothing_fits (t ∷ rest) is = absurd (omega (arith, eqb-true (length (t ∷ rest)) 0 is))

pub ends_here : (rest : List Lexed) (room : ℕ) → nat_eq (length rest) 0 ≡ true → run room [] rest ≡ accepted
ends_here [] room is = refl
ends_here (t ∷ rest) room is = absurd (omega (arith, eqb-true (length (t ∷ rest)) 0 is))

-- where something is left, the machine refuses it
pub ends_later : (rest : List Lexed) (room : ℕ) → nat_eq (length rest) 0 ≡ false →
    run room [] rest ≡ refused (length rest)
ends_later [] room is = absurd (true≢false is)
ends_later (t ∷ rest) room is = no_stack (room_after t.token room) _ _

-- the parts of the stack at the end of a file, one after the other
module _ (tokens after_stack inside_stack after_places rest : List Lexed) (inside : ℕ) (ps : List PlaceTree)
    (b : ReadsFlat (λ p k. p ∷ k) (one sign.Stack ∷ []) (λ room. room) tokens (plain sign.Stack) after_stack)
    (c : ReadsOpening sign.LeftBrace 100 after_stack inside inside_stack)
    (d : Reads print.places (a_place ∷ places ∷ []) inside inside_stack ps after_places)
    (e : ReadsFlat (λ p k. p ∷ k) (one sign.RightBrace ∷ []) suc after_places (plain sign.RightBrace) rest) where
  stack_goes_on : run 100 last_part tokens ≡ run (suc inside) [] rest
  stack_goes_on =
      b.goes_on 100 (one sign.LeftBrace ∷ a_place ∷ places ∷ one sign.RightBrace ∷ [])
      ∙ (c.goes_on (a_place ∷ places ∷ one sign.RightBrace ∷ [])
      ∙ (d.goes_on (one sign.RightBrace ∷ []) ∙ e.goes_on inside []))

  pub stack_refused : false ≡ nat_eq (length rest) 0 → run 100 last_part tokens ≡ refused (length rest)
  stack_refused is = stack_goes_on ∙ ends_later rest (suc inside) (sym is)

  pub stack_read : true ≡ nat_eq (length rest) 0 → 0 < length ps → ReadsStack tokens ps
  stack_read is some = record {
    fits = b.spelled _ (c.spelled _ (d.spelled _ (e.spelled [] (nothing_fits rest (sym is)))));
    accepts = stack_goes_on ∙ ends_here rest (suc inside) (sym is);
    some = λ none. absurd (omega (arith, ap length none));
  }

-- the layers of a file and its stack
module _ (tokens rest : List Lexed) (ls : List LayerTree) (a : Reads print.layers (layers ∷ []) 100 tokens ls rest)
  where
    pub file_read : (ps : List PlaceTree) (brought : List LayerTree) → ReadsStack rest ps →
        ReadsFile tokens record { layers = ls; places = ps; library = brought }
    file_read ps brought s = record {
      fits = a.spelled _ s.fits;
      accepts = a.goes_on last_part ∙ s.accepts;
      placed = s.some;
    }

    pub file_refused : (n : ℕ) → run 100 last_part rest ≡ refused n → run 100 start tokens ≡ refused n
    file_refused n stops = a.goes_on last_part ∙ stops
