-- Slots in which events stand, in an order that is kept beside them.
use Rattle.std.specs.Prelude.{◌≡◌, ℕ, ◌+◌, ◌<◌, ◌≤◌, List, [], ◌∷◌, map, length, get_or, None}
use Rattle.slot_pool.specs.Times.{times}
use Rattle.layer_words.specs.declared.events.Dir.{Dir}
use Rattle.pool_message.specs.Sent.{first_sent}
use Rattle.pool_message.specs.declared.event.PoolEvent.{PoolEvent}

-- What stands in a slot, and in slots in an order.
abbrev pub slot_at : List (Dir × PoolEvent) → ℕ → Dir × PoolEvent
slot_at slots k = get_or slots k (first_sent [])

abbrev pub standing : List (Dir × PoolEvent) → List ℕ → List (Dir × PoolEvent)
standing slots order = map (slot_at slots) order

-- The first of some numbers, 0 where there is none; and that a number is the first, where there is one.
abbrev pub first_number : List ℕ → ℕ
first_number [] = 0
first_number (k ∷ ks) = k

abbrev pub IsFirst : ℕ → List ℕ → Type 0
IsFirst first order = 0 < length order → first ≡ first_number order

-- Each slot's number stands once, in the order or among the free ones; a free slot has no message.
pub record AreParted (slots : List (Dir × PoolEvent)) (order free : List ℕ) : Type 0 where
  pub count : length slots ≡ length order + length free
  pub once : (i : ℕ) → times i order + times i free ≤ 1
  pub within : (i : ℕ) → 0 < times i order + times i free → i < length slots
  pub each : (i : ℕ) → i < length slots → 0 < times i order + times i free
  pub bare : (i : ℕ) → 0 < times i free → (slot_at slots i).1.message ≡ None
