-- A desk in its pool since a visit began, and one step of it.
use Rattle.std.specs.Prelude.{◌≡◌, ℕ, ◌+◌, ◌≤◌, List}
use Rattle.slot_pool.specs.Held.{Held, count_at}
use Rattle.slot_pool.specs.References.{Moved, Covers}
use Rattle.slot_pool.specs.Times.{times}
use Rattle.layer_desk.specs.Spent.{Begun}
use Rattle.live_layer.specs.Stock.{Stock, stock_refs, StockLies}

-- Since the beginning its references, and no others, have moved, and its messages lie in the pool.
pub record InPool (b : Begun) (p : List Held) (s : Stock) : Type 0 where
  pub few : (i : ℕ) → count_at b.pool i ≤ 4278190080
  pub covered : Covers b.pool b.refs
  pub moved : Moved b.pool p b.refs (stock_refs s)
  pub lies : StockLies p s

-- A desk without some references, in any order.
pub record TakesOut (s rest : Stock) (xs : List ℕ) : Type 0 where
  pub times : (i : ℕ) → times i (stock_refs s) ≡ times i xs + times i (stock_refs rest)
