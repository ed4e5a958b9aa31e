-- What a block ends as, once a `&mut` to one of its values has ended.
use Rattle.std.specs.Prelude.{ℕ, slice_set}
use Rattle.std.specs.Borrow.{Fml, RattleType, MutBor, Lends}
use Rattle.std.specs.declared.alloc.Allocator.{Ghosts}
use Rattle.raw_block.specs.Run.{Run, run}
use Rattle.raw_block.specs.contracts.block.Block.{the_row}

-- the value at the index i is the last one written through r
abbrev pub lends_item : (R A : RattleType) → Ghosts A.Denot → MutBor (Run R.Denot) → ℕ → MutBor R.Denot → Fml
lends_item R A g b i r = Lends (the_row R A g) R b r (λ w. run (slice_set b.now.values i w) b.now.capacity)
