-- Lines that are ended.
use Rattle.std.proofs.Common.{◌≡◌, ℕ, zero, suc, ◌+◌, ◌<◌, nat_eq, true, false, List, [], ◌∷◌, ◌++◌, length, replicate}
use Rattle.std.proofs.Common.{refl, sym, ap, subst, ◌∙◌, arith, append_assoc, true≢false}
use Rattle.std.proofs.lemmas.Bool.{ne_eqb}
use Rattle.std.proofs.lemmas.List.{replicate_more}
use Rattle.std.proofs.Math.Seq.{take-length}
use Rattle.std.specs.List.{concat}
use Rattle.std.specs.Io.KnownBytes.{Appends}
use Rattle.outside.specs.Tells.{Tells}
use Rattle.outside.specs.Lines.{Begins, Gains, Wrote}
use Rattle.outside.specs.declared.sink.SinkError.{SinkError}
use Rattle.outside.proofs.Gaining.{gains_none}
use Rattle.std.specs.Prelude.{Result}
use Rattle.format_mean.specs.Layout.{Begun, is_bare, feeds_before, line_at_feeds, left_of, last_line, lines_at}
use Rattle.format_mean.specs.Layout.{at_least_one}
use Rattle.format_mean.specs.Pieces.{Piece, more_feeds}

-- lines that were put whole are a prefix of themselves
pub gains_begun : (a b : Tells) (lines : List (List ℕ)) → Gains a b lines → Begins a b (concat lines)
gains_begun a b lines g = record {
  count = length (concat lines);
  gained = subst (Appends a.contents b.contents) (sym (take-length (concat lines))) g.gained;
}

-- no line feed ends no line
pub no_lines : (a : Tells) (line : List ℕ) (n : ℕ) → n ≡ 0 → Gains a a (line_at_feeds line n)
no_lines a line n is = subst (λ n. Gains a a (line_at_feeds line n)) (sym is) (gains_none a)

pub all_left : (line : List ℕ) (n : ℕ) → n ≡ 0 → line ≡ left_of line n
all_left line n is = sym (ap (left_of line) is)

-- some end one
pub one_line : (a b : Tells) (line : List ℕ) (n : ℕ) (r : Result (Unit {0}) SinkError) → 0 < n →
    Wrote ((line ++ replicate n 10) ∷ []) a b r → Wrote (line_at_feeds line n) a b r
one_line a b line zero r some wrote = absurd (omega (arith, some))
one_line a b line (suc n) r some wrote = wrote

pub none_left : (line : List ℕ) (n : ℕ) → 0 < n → [] ≡ left_of line n
none_left line zero some = absurd (omega (arith, some))
none_left line (suc n) some = refl

-- the last line is ended by one, if it has begun
pub last_ended : (a b : Tells) (line : List ℕ) (r : Result (Unit {0}) SinkError) → is_bare line ≡ false →
    Wrote (line_at_feeds line 1) a b r → Wrote (last_line line) a b r
last_ended a b [] r has wrote = absurd (true≢false has)
last_ended a b (c ∷ cs) r has wrote = wrote

pub last_none : (a : Tells) (line : List ℕ) → is_bare line ≡ true → Gains a a (last_line line)
last_none a [] bare = gains_none a
last_none a (c ∷ cs) bare = absurd (true≢false (sym bare))

-- numbers that are zero or not
pub feeds_more : (n r : ℕ) → (n ≡ 0 → r ≡ 1) → (0 < n → r ≡ 2) → r ≡ more_feeds n
feeds_more zero r none some = none refl
feeds_more (suc n) r none some = some (omega arith)

pub one_at_least : (n r : ℕ) → (n ≡ 0 → r ≡ 1) → (0 < n → r ≡ n) → r ≡ at_least_one n
one_at_least zero r none some = none refl
one_at_least (suc n) r none some = some (omega arith)

-- one more byte of many
pub filled_more : (old now new : List ℕ) (n y : ℕ) → now ≡ old ++ replicate n y → new ≡ now ++ y ∷ [] →
    new ≡ old ++ replicate (n + 1) y
filled_more old now new n y is more =
    more ∙ (ap (λ xs. xs ++ y ∷ []) is ∙
    (append_assoc old (replicate n y) (y ∷ []) ∙ ap (λ xs. old ++ xs) (replicate_more n y)))

-- what is bare has no byte
pub bare_is : (xs : List ℕ) → nat_eq (length xs) 0 ≡ is_bare xs
bare_is [] = refl
bare_is (x ∷ xs) = ne_eqb (length (x ∷ xs)) 0 (λ is. omega (arith, is))

-- where memory runs out after the line that a piece ends
pub put_cut : (a b : Tells) (t : Begun) (p : Piece) (n : ℕ) → n ≡ feeds_before t p →
    Gains a b (line_at_feeds t.line n) →
    Begins a b (concat (lines_at t p))
put_cut a b t p n is gained = gains_begun a b (lines_at t p) (subst (λ n. Gains a b (line_at_feeds t.line n)) is gained)
