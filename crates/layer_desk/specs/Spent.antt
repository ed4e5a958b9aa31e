-- How the room of a desk is spent, and what it means where there is none.
use Rattle.std.specs.Prelude.{◌≡◌, ℕ, ◌+◌, ◌<◌, ◌≤◌, List, Option, Result, Ok, Err}
use Rattle.slot_pool.specs.Held.{Held}
use Rattle.layer_words.specs.declared.sorts.Shape.{Shape}
use Rattle.layer_desk.specs.Need.{Layout, Room, Need, most_above}
use Rattle.layer_desk.specs.declared.no_room.NoRoom.{NoRoom}
use Rattle.layer_desk.specs.declared.no_room.NoRoom.TheVariants as lack

-- The pool as a visit found it, the references that the desk had then, what the desk is made for, the capacity of the
-- list to which it adds the events that it sends, and what its cells are.
pub record Begun : Type 0 where
  pub pool : List Held
  pub refs : List ℕ
  pub layout : Layout
  pub list : ℕ
  pub forms : List (Shape × Option ℕ)

-- At most this was spent of the room, and the hand has as many places as before.
pub record SpentAtMost (old new : Room) (n : Need) : Type 0 where
  pub slots : old.slots ≤ new.slots + n.slots
  pub places : old.places ≤ new.places + n.places
  pub hand : old.hand ≤ new.hand

-- At most this was spent of the room, places of the hand included.
pub record LiftedAtMost (old new : Room) (n : Need) : Type 0 where
  pub slots : old.slots ≤ new.slots + n.slots
  pub places : old.places ≤ new.places + n.places
  pub hand : old.hand ≤ new.hand + n.hand

-- There is less than is needed.
pub record Short (room need : ℕ) : Type 0 where
  pub short : room < need

abbrev pub Lacks : Room → Need → NoRoom → Type 0
Lacks old n lack.Slot = Short old.slots n.slots
Lacks old n lack.Place = Short old.places n.places
Lacks old n lack.Hand = Short old.hand n.hand
Lacks old n lack.Headers = Short most_above n.headers
Lacks old n lack.Misfit = Short 0 n.misfits

-- Where an operation is done, at most this was spent; else there was less than this.
abbrev pub Spent : {A : Type 0} → Room → Room → Need → Result A NoRoom → Type 0
Spent old new n (Ok a) = SpentAtMost old new n
Spent old new n (Err e) = Lacks old n e

-- Where an operation that leaves a message in hand is done, at most this was spent, places of the hand included; else
-- there was less than this.
abbrev pub Lifted : {A : Type 0} → Room → Room → Need → Result A NoRoom → Type 0
Lifted old new n (Ok a) = LiftedAtMost old new n
Lifted old new n (Err e) = Lacks old n e

-- There is as much room as is needed.
pub record Suffices (old : Room) (n : Need) : Type 0 where
  pub slots : n.slots ≤ old.slots
  pub places : n.places ≤ old.places
  pub hand : n.hand ≤ old.hand
  pub headers : n.headers ≤ most_above
  pub misfits : n.misfits ≡ 0
