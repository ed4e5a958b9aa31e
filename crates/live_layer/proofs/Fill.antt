-- Numbers of a row in the slots of a scope.
use Rattle.std.proofs.Common.{◌≡◌, ℕ, zero, suc, ◌≤◌, List, [], ◌∷◌, length, drop, set, length-set, refl, sym, ap, ◌∙◌}
use Rattle.std.proofs.Common.{arith}
use Rattle.msg_core.specs.Chain.{Content}
use Rattle.layer_mean.specs.Effect.{with_slots}
use Rattle.live_layer.specs.Taken.{numbers_filled}

-- The messages of the scope stay as they are.
pub slots_beside : (slots values ns : List ℕ) (ms : List Content) →
    with_slots slots values (record { numbers = ns; messages = ms }) ≡
    record { numbers = numbers_filled slots values ns; messages = ms }
slots_beside [] values ns ms = refl
slots_beside (k ∷ slots) [] ns ms = refl
slots_beside (k ∷ slots) (v ∷ values) ns ms = slots_beside slots values (set ns k v) ms

pub filled_length : (slots values ns : List ℕ) → length (numbers_filled slots values ns) ≡ length ns
filled_length [] values ns = refl
filled_length (k ∷ slots) [] ns = refl
filled_length (k ∷ slots) (v ∷ values) ns = filled_length slots values (set ns k v) ∙ length-set ns k v

pub no_values : (slots ns : List ℕ) → numbers_filled slots [] ns ≡ ns
no_values [] ns = refl
no_values (k ∷ slots) ns = refl

drop_past : (k : ℕ) (xs : List ℕ) → length xs ≤ k → drop k xs ≡ []
drop_past zero [] past = refl
drop_past (suc k) [] past = refl
drop_past zero (x ∷ xs) past = absurd (omega arith)
drop_past (suc k) (x ∷ xs) past = drop_past k xs (omega arith)

module _ (slots values start : List ℕ) where
  -- Values 0 to k stand in their slots, and the others are left.
  abbrev pub Left : ℕ → List ℕ → Type 0
  Left k ns = numbers_filled (drop k slots) (drop k values) ns ≡ numbers_filled slots values start

  pub all_filled : (k : ℕ) (ns : List ℕ) → length values ≤ k → Left k ns → ns ≡ numbers_filled slots values start
  all_filled k ns past left = sym (no_values (drop k slots) ns) ∙
      ap (λ vs. numbers_filled (drop k slots) vs ns) (sym (drop_past k values past)) ∙ left
