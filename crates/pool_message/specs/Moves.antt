-- What the calls on messages do to the references of a pool, and what they make.
use Rattle.std.specs.Prelude.{◌≡◌, ℕ, ◌+◌, ◌<◌, ◌≤◌, List, [], ◌++◌, length, nat_le, if◌then◌else◌, Option, Some, None}
use Rattle.slot_pool.specs.Held.{Held, count_at, range, spare}
use Rattle.slot_pool.specs.References.{Moved}
use Rattle.slot_pool.specs.Times.{times}
use Rattle.msg_core.specs.Chain.{Content}
use Rattle.msg_core.specs.Parts as parts
use Rattle.msg_core.specs.Parts.{longest_body}
use Rattle.pool_message.specs.Seen.{body_refs, body_seen, BodyLies, refs, content_seen, Lies}
use Rattle.pool_message.specs.declared.message.PoolMessage.{PoolMessage}
use Rattle.pool_message.specs.declared.part.Part.{Part}

-- Each slot of these references can have one more.
pub record CanKeep (p : List Held) (xs : List ℕ) : Type 0 where
  pub below : (i : ℕ) → 0 < times i xs → count_at p i < 4294967295

-- There is one more of each of these references, in as many slots as before.
pub record Kept (p q : List Held) (xs : List ℕ) : Type 0 where
  pub moved : Moved p q [] xs
  pub slots : spare q ≡ spare p

-- These references are given back.
pub record Returned (p q : List Held) (xs : List ℕ) : Type 0 where
  pub moved : Moved p q xs []
  pub slots : spare p ≤ spare q

-- A message has n bytes, in each pool in which it lies.
pub record Counts (m : PoolMessage) (n : ℕ) : Type 0 where
  pub bytes : (p : List Held) → Lies p m → length (content_seen p m).body ≡ n
  pub few : n ≤ longest_body

-- A part of a part: it refers to the same slot, lies wherever the other lies, and shows f of what the other shows.
pub record Shortened (f : List ℕ → List ℕ) (x y : Part) : Type 0 where
  pub slot : y.slot ≡ x.slot
  pub within : y.from + y.len ≤ x.from + x.len
  pub bytes : (bs : List ℕ) → range y.from y.len bs ≡ f (range x.from x.len bs)

-- A message that refers to the slot of another, lies wherever the other lies, and shows f of what the other shows.
pub record Derived (f : Content → Content) (x y : PoolMessage) : Type 0 where
  pub slots : refs y ≡ refs x
  pub lies : (p : List Held) → Lies p x → Lies p y
  pub shows : (p : List Held) → content_seen p y ≡ f (content_seen p x)

-- A message was made of these references, which are gone, and shows this. It took one slot at most.
pub record Made (p q : List Held) (from : List ℕ) (content : Content) (m : PoolMessage) : Type 0 where
  pub moved : Moved p q from (refs m)
  pub slots : spare p ≤ spare q + 1
  pub lies : Lies q m
  pub shows : content_seen q m ≡ content

-- Two bodies have bytes, together no more than one body has, and no slot is left for them. Their references are given
-- back.
pub record NoSlot (p q : List Held) (from : List ℕ) (x y : List ℕ) : Type 0 where
  pub returned : Returned p q from
  pub full : spare p ≡ 0
  pub front : 0 < length x
  pub back : 0 < length y
  pub few : length x + length y ≤ longest_body

-- The message that joins two, or none.
abbrev pub Joined : List Held → List Held → PoolMessage → PoolMessage → Option PoolMessage → Type 0
Joined p q x y (Some m) = Made p q (refs x ++ refs y) (parts.join (content_seen p x) (content_seen p y)) m
Joined p q x y None = NoSlot p q (refs x ++ refs y) (content_seen p x).body (content_seen p y).body

-- The bytes that two bodies make: the first before the second, or the second alone where both are longer than a body
-- may be.
abbrev pub joined_bytes : List ℕ → List ℕ → List ℕ
joined_bytes x y = if nat_le (length x + length y) longest_body then x ++ y else y

pub record BodyMade (p q : List Held) (from : List ℕ) (bytes : List ℕ) (b : Option Part) : Type 0 where
  pub moved : Moved p q from (body_refs b)
  pub slots : spare p ≤ spare q + 1
  pub lies : BodyLies q b
  pub shows : body_seen q b ≡ bytes

abbrev pub BodiesJoined : List Held → List Held → Option Part → Option Part → Option (Option Part) → Type 0
BodiesJoined p q x y (Some b) = BodyMade p q (body_refs x ++ body_refs y) (joined_bytes (body_seen p x) (body_seen p y))
    b
BodiesJoined p q x y None = NoSlot p q (body_refs x ++ body_refs y) (body_seen p x) (body_seen p y)

abbrev pub PartsJoined : List Held → List Held → Part → Part → Option Part → Type 0
PartsJoined p q x y (Some part) = BodiesJoined p q (Some x) (Some y) (Some (Some part))
PartsJoined p q x y None = BodiesJoined p q (Some x) (Some y) None
