-- What holds of the fields of a block.
use Rattle.std.specs.Prelude.{◌≡◌, ◌+◌, ◌^◌, ◌<◌, length}
use Rattle.raw_block.specs.declared.block.Block.TheInside.{Inside}

module _ {X A : Type 0} where
  -- the parts speak of one block: its place, its number of values, its capacity, its allocator
  pub record IsBlock (b : Inside X A) : Type 0 where
    pub memory : (b.filled.at ≡ b.start.first) × (length b.filled.values ≡ b.len) ×
        (b.len + b.filled.room ≡ b.capacity) × (b.capacity < 2 ^ 63)
    pub lease : (b.lease.at ≡ b.start.first) × (b.lease.places ≡ b.capacity) × (b.lease.alloc ≡ b.alloc)
