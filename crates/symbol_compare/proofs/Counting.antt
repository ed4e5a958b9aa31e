-- Counts of writes.
use Rattle.std.proofs.Common.{◌≡◌, ℕ, suc, ◌+◌, ◌==◌, Bool, true, false, ◌&&◌, Option, Some, refl, sym, ap, ◌∙◌, arith}
use Rattle.std.specs.Prelude.{if◌then◌else◌}
use Rattle.std.specs.Option.{unwrap_or}
use Rattle.std.specs.HashMap as hash
use Rattle.std.proofs.lemmas.Bool.{eqb-true, eq-eqb, and_parts}
use Rattle.guard_mean.specs.Hoist.{is_here}
use Rattle.symbol_compare.specs.declared.counts.Counts.{Counts}
use Rattle.symbol_compare.specs.Counts.{same_cell, count_in, Counted}

same_bools : (a b : Bool) → (a ≡ true → b ≡ true) → (b ≡ true → a ≡ true) → a ≡ b
same_bools true b f g = sym (f refl)
same_bools false true f g = g refl
same_bools false false f g = refl

turned : (a b : ℕ) → (a == b) ≡ (b == a)
turned a b = same_bools (a == b) (b == a)
    (λ e. ap (λ z. z == a) (sym (eqb-true a b e)) ∙ eq-eqb a a refl)
    (λ e. ap (λ z. z == b) (sym (eqb-true b a e)) ∙ eq-eqb b b refl)

here_turned : (p c q d : ℕ) → is_here p c q d ≡ same_cell (q, d) (p, c)
here_turned p c q d = λ t. turned p q t && turned c d t

read_here : (b : Bool) (n m : ℕ) (o : Option ℕ) → (b ≡ true → m ≡ unwrap_or o 0) → n ≡ m + 1 →
    unwrap_or (if b then Some n else o) 0 ≡ (if b then suc (unwrap_or o 0) else unwrap_or o 0)
read_here true n m o f e = let k = f refl in let one : n ≡ suc m = omega (arith, e) in one ∙ ap suc k
read_here false n m o f e = refl

pub counted : (old new : Counts) (place cell m n : ℕ) → m ≡ count_in old place cell → n ≡ m + 1 →
    ((q : ℕ × ℕ) → hash.get same_cell new.counts q ≡
    (if same_cell (place, cell) q then Some n else hash.get same_cell old.counts q)) →
    Counted old new place cell
counted old new place cell m n em en h = record {
  counts = λ p c.
      ap (λ o. unwrap_or o 0) (h (p, c))
      ∙ read_here (same_cell (place, cell) (p, c)) n m (hash.get same_cell old.counts (p, c))
      (λ is. let x = and_parts (place == p) (cell == c) is in
      em ∙ (λ t. count_in old (eqb-true place p x.0 t) (eqb-true cell c x.1 t))) en
      ∙ ap (λ b. if b then suc (count_in old p c) else count_in old p c) (sym (here_turned p c place cell));
}
