-- How often cells were written, as it is kept.
use Rattle.std.specs.Prelude.{◌≡◌, ℕ, suc, ◌&&◌, Bool, nat_eq, if◌then◌else◌}
use Rattle.std.specs.Option.{unwrap_or}
use Rattle.std.specs.HashMap as hash
use Rattle.guard_mean.specs.Hoist.{is_here}
use Rattle.symbol_compare.specs.declared.counts.Counts.{Counts}

abbrev pub same_cell : ℕ × ℕ → ℕ × ℕ → Bool
same_cell a b = nat_eq a.0 b.0 && nat_eq a.1 b.1

abbrev pub count_in : Counts → ℕ → ℕ → ℕ
count_in counts p c = unwrap_or (hash.get same_cell counts.counts (p, c)) 0

-- A cell was written once more, and no other.
pub record Counted (old new : Counts) (place cell : ℕ) : Type 0 where
  pub counts : (p c : ℕ) →
      count_in new p c ≡ (if is_here p c place cell then suc (count_in old p c) else count_in old p c)
