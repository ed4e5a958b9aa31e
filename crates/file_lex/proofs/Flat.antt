-- Bytes in one line move the place by as many columns.
use Rattle.std.proofs.Common.{◌≡◌, ℕ, suc, ◌+◌, nat_eq, Bool, true, false, cond, not, ◌&&◌, List, [], ◌∷◌, length, take}
use Rattle.std.proofs.Common.{refl, sym, ap, ◌∙◌, arith, eqb-true, true≢false}
use Rattle.std.specs.Char.{is_ascii_digit}
use Rattle.std.specs.List.{prefix_len}
use Rattle.layer_words.specs.declared.places.At.{At}
use Rattle.layer_ast.specs.Cut.{place_after}
use Rattle.layer_words.specs.Spelling.{is_word_byte}
use Rattle.file_lex.specs.Pieces.{past, is_flat}

module _ (p : ℕ → Bool) (none : p 10 ≡ false) where
  -- a byte that passes is no line feed
  no_feed : (b : ℕ) (t : Bool) → nat_eq b 10 ≡ t → p b ≡ true → not (nat_eq b 10) ≡ true
  no_feed b true is holds = absurd (true≢false (sym holds ∙ (ap p (eqb-true b 10 is) ∙ none)))
  no_feed b false is holds = ap not is

  front_flat : (bytes : List ℕ) → is_flat (take (prefix_len p bytes) bytes) ≡ true
  front_flat [] = refl
  front_flat (b ∷ bs) = passes (p b) refl (front_flat bs)
    where
      passes : (t : Bool) → p b ≡ t → is_flat (take (prefix_len p bs) bs) ≡ true →
          is_flat (take (cond t (1 + prefix_len p bs) 0) (b ∷ bs)) ≡ true
      passes true is rest =
          let e : 1 + prefix_len p bs ≡ suc (prefix_len p bs) = omega arith in
          ap (λ n. is_flat (take n (b ∷ bs))) e
          ∙ (ap (λ t. t && is_flat (take (prefix_len p bs) bs)) (no_feed b (nat_eq b 10) refl is) ∙ rest)
      passes false is rest = refl

  -- the first n bytes of a text pass, so they are in one line
  flat : (n : ℕ) (bytes : List ℕ) → n ≡ prefix_len p bytes → is_flat (take n bytes) ≡ true
  flat n bytes is = ap (λ m. is_flat (take m bytes)) is ∙ front_flat bytes

pub line_flat : (n : ℕ) (bytes : List ℕ) → n ≡ prefix_len (λ c. not (nat_eq c 10)) bytes → is_flat (take n bytes) ≡ true
line_flat n bytes is = flat (λ c. not (nat_eq c 10)) refl n bytes is

pub word_flat : (n : ℕ) (bytes : List ℕ) → n ≡ prefix_len is_word_byte bytes → is_flat (take n bytes) ≡ true
word_flat n bytes is = flat is_word_byte refl n bytes is

pub number_flat : (n : ℕ) (bytes : List ℕ) → n ≡ prefix_len is_ascii_digit bytes → is_flat (take n bytes) ≡ true
number_flat n bytes is = flat is_ascii_digit refl n bytes is

both_true : (s t : Bool) → (s && t) ≡ true → (s ≡ true) × (t ≡ true)
both_true true true is = (refl, refl)
both_true true false is = cc
both_true false t is = cc

not_true : (t : Bool) → not t ≡ true → t ≡ false
not_true true is = cc
not_true false is = refl

-- the place after such bytes
pub past_flat : (bytes : List ℕ) (at : At) → is_flat bytes ≡ true →
    past bytes at ≡ record at { col = at.col + length bytes }
past_flat [] at flat = ap (λ n. record at { col = n }) (omega arith)
past_flat (b ∷ bytes) at flat =
    let h = both_true (not (nat_eq b 10)) (is_flat bytes) flat in
    let next : place_after b at ≡ record at { col = at.col + 1 } =
    ap (λ t. cond t (record { line = at.line + 1; col = 1 }) (record at { col = at.col + 1 }))
    (not_true (nat_eq b 10) h.0) in
    ap (past bytes) next
    ∙ (past_flat bytes (record at { col = at.col + 1 }) h.1 ∙ ap (λ n. record at { col = n }) (omega arith))
