-- References to slots, as lists of slot numbers, and how the counts of a pool follow them.
use Rattle.std.specs.Prelude.{◌≡◌, ℕ, ◌+◌, ◌<◌, ◌≤◌, List, length}
use Rattle.slot_pool.specs.Held.{Held, count_at, bytes_at}
use Rattle.slot_pool.specs.Times.{times}

-- the references `from` became the references `to`: each count follows, and a slot with other references keeps its
-- bytes
pub record Moved (old new : List Held) (from to : List ℕ) : Type 0 where
  pub slots : length new ≡ length old
  pub counts : (i : ℕ) → count_at new i + times i from ≡ count_at old i + times i to
  pub kept : (i : ℕ) → times i from < count_at old i → bytes_at new i ≡ bytes_at old i

-- the references xs are all that there are
pub record Exact (p : List Held) (xs : List ℕ) : Type 0 where
  pub exact : (i : ℕ) → count_at p i ≡ times i xs

-- the references xs are among those that there are
pub record Covers (p : List Held) (xs : List ℕ) : Type 0 where
  pub covers : (i : ℕ) → times i xs ≤ count_at p i
