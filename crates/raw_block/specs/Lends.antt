-- What the memory ends as, once a `&mut` to one of its values has ended.
use Rattle.std.specs.Prelude.{ℕ, slice_set}
use Rattle.std.specs.Borrow.{Fml, RattleType, MutBor, Lends}
use Rattle.raw_block.specs.declared.memory.Filled.{Filled}
use Rattle.raw_block.specs.contracts.memory.Filled.{the_row}

abbrev pub with_value : {X : Type 0} → Filled X → ℕ → X → Filled X
with_value f i w = record { mark = f.mark; at = f.at; values = slice_set f.values i w; room = f.room }

-- the value at the index i is the last one written through r
abbrev pub lends_value : (R : RattleType) → MutBor (Filled R.Denot) → ℕ → MutBor R.Denot → Fml
lends_value R f i r = Lends (the_row R) R f r (with_value f.now i)
