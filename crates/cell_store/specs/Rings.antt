-- The queues of one cell.
use Rattle.std.specs.Prelude.{◌≡◌, ℕ, ◌-◌, ◌≤◌, List, [], map, length, take, drop, replicate}
use Rattle.std.specs.declared.alloc.Global.{Global}
use Rattle.std.specs.declared.collections.VecDeque.{VecDeque}
use Rattle.std.specs.VecDeque.{deque_items, deque_capacity}

-- How many rows each of them keeps, how many queues there is room for, and the rows of those that there are.
pub record CellQueues (R : Type 0) : Type 0 where
  pub capacity : ℕ
  pub most : ℕ
  pub rows : List (List R)

module _ {R : Type 0} where
  -- The rows of the rings, of which the first n are shown.
  abbrev pub shown_rows : ℕ → List (VecDeque R Global) → List (List R)
  shown_rows shown rings = take shown (map deque_items rings)

  -- Rings of a capacity of which the first n are shown; the others are empty.
  pub record AreRings (capacity shown : ℕ) (rings : List (VecDeque R Global)) : Type 0 where
    pub few : capacity ≤ 255
    pub shown_there : shown ≤ length rings
    pub capacities : map deque_capacity rings ≡ replicate (length rings) capacity
    pub others_empty : drop shown (map deque_items rings) ≡ replicate (length rings - shown) []
