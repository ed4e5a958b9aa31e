-- What is told of the outputs of a handle's member.
use Rattle.std.specs.Prelude.{◌≡◌, ℕ, List, Some, None}
use Rattle.view_core.specs.declared.step.Change.{Change}
use Rattle.view_core.specs.declared.step.Change.TheVariants.{Into, Out}
use Rattle.group_peer.specs.Next.{Tells}
use Rattle.group_peer.specs.declared.peer.Peer.{Peer}
use Rattle.group_peer.specs.declared.told.Head.{Head}
use Rattle.group_peer.specs.declared.told.Told.{Told}
use Rattle.group_peer.specs.declared.told.Told.TheVariants as told
use Rattle.peer_handle.specs.Calls.{closed}
use Rattle.peer_handle.specs.Ownership.{Kept}
use Rattle.peer_handle.specs.declared.event.ToldEvent.{ToldEvent}

-- An output of so many bytes, in numbers.
abbrev pub event_with : Head → ℕ → ToldEvent
event_with h n = record { kind = h.kind; peer = h.peer; to = h.to; number = h.number; plan = h.plan; length = n }

-- A kind without numbers.
abbrev pub no_head : ℕ → Head
no_head kind = record { kind = kind; peer = 0; to = 0; number = 0; plan = 0 }

-- Where a member is since a step: in a view, whose ids are bits and whose number is told, or in none.
abbrev pub change_head : Change → Head
change_head (Into view) = record { kind = 9; peer = 0; to = view.mask; number = view.ltime; plan = 0 }
change_head Out = no_head 10

-- What is told, in numbers; and the status.
abbrev pub told_event : Told → ToldEvent
told_event (told.Output h n) = event_with h n
told_event (told.NoRoom n) = event_with (no_head 0) n
told_event (told.Changed change) = event_with (change_head change) 0
told_event told.Nothing = event_with (no_head 0) 0

abbrev pub told_number : Told → ℕ
told_number (told.Output h n) = 1
told_number (told.NoRoom n) = 2
told_number (told.Changed change) = 1
told_number told.Nothing = 0

-- A member told its next output, and the call wrote it in numbers.
pub record CallTells (old new : Peer) (room after : List ℕ) (event : ToldEvent) (status : ℕ) : Type 0 where
  pub answer : Told
  pub tells : Tells old new room after answer
  pub event_is : event ≡ told_event answer
  pub status_is : status ≡ told_number answer

-- A handle without a member stays, and so do event and room; the status says so. The member of any other tells its next
-- output.
abbrev pub NextCalls : (old new : Kept) (before event : ToldEvent) (room after : List ℕ) (status : ℕ) → Type 0
NextCalls None None before event room after status = (status ≡ closed) × (event ≡ before) × (after ≡ room)
NextCalls (Some old) (Some new) before event room after status = CallTells old.peer new.peer room after event status
NextCalls _ _ before event room after status = ⊥
