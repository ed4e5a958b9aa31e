-- What a contract sees of a `Block`.
use Rattle.std.specs.Prelude.{ℕ, List, refl}
use Rattle.std.specs.Coded.{Coded, code_by, coded×, coded_list, coded_ℕ}

-- the values, and how many there may be
pub record Run (X : Type 0) : Type 0 where
  pub values : List X
  pub capacity : ℕ

module _ {X : Type 0} where
  abbrev pub run : List X → ℕ → Run X
  run xs n = record { values = xs; capacity = n }

  abbrev pub run_code : Coded X → Coded (Run X)
  run_code c = code_by (List X × ℕ) (coded× (coded_list c) coded_ℕ) (λ b. (b.values, b.capacity)) (λ p. run p.0 p.1)
      (λ _. refl)
