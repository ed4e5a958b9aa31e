-- What the calls do that are steps, and the one that ends a member.
use Rattle.std.specs.Prelude.{◌≡◌, ℕ, true, false, Some, None}
use Rattle.msg_core.specs.declared.packet.Stray.{Stray}
use Rattle.msg_core.specs.declared.packet.Stray.TheVariants.{Short, Form, Group, Stamp, View, Sender, Dest, Plan, Chain}
use Rattle.msg_core.specs.declared.packet.Stray.TheVariants.{Body}
use Rattle.run_mean.specs.Member.{Input}
use Rattle.view_core.specs.declared.refusal.Refusal.{Refusal}
use Rattle.view_core.specs.declared.refusal.Refusal.TheVariants as refusal
use Rattle.view_core.specs.declared.step.Stepped.{Stepped}
use Rattle.view_core.specs.declared.step.Stepped.TheVariants.{Taken, Refused}
use Rattle.group_peer.specs.Telling.{Took}
use Rattle.group_peer.specs.declared.peer.Peer.{Peer}
use Rattle.peer_handle.specs.Ownership.{Kept}

-- The status where a handle has no member.
abbrev pub closed : ℕ
closed = 16

-- The number of a cause for which a datagram is refused, of a reason for which an input is, and of an answer to an
-- input.
abbrev pub stray_number : Stray → ℕ
stray_number Short = 32
stray_number Form = 33
stray_number Group = 34
stray_number Stamp = 35
stray_number View = 36
stray_number Sender = 37
stray_number Dest = 38
stray_number Plan = 39
stray_number Chain = 40
stray_number Body = 41

abbrev pub refusal_number : Refusal → ℕ
refusal_number refusal.Out = 17
refusal_number refusal.TooBig = 18
refusal_number (refusal.Stray cause) = stray_number cause

abbrev pub answer_number : Stepped → ℕ
answer_number (Taken true change) = 1
answer_number (Taken false change) = 0
answer_number (Refused reason) = refusal_number reason

-- A member took an input, and the status is the number of its answer.
pub record CallTook (input : Input) (old new : Peer) (status : ℕ) : Type 0 where
  pub answer : Stepped
  pub took : Took old input new answer
  pub status_is : status ≡ answer_number answer

-- A handle without a member stays, and the status says so; the member of any other takes the input.
abbrev pub Calls : Input → (old new : Kept) → (status : ℕ) → Type 0
Calls input None None status = status ≡ closed
Calls input (Some old) (Some new) status = CallTook input old.peer new.peer status
Calls input _ _ status = ⊥

-- A handle without a member stays, and the status says so; any other has none afterwards.
abbrev pub Closes : (old new : Kept) → (status : ℕ) → Type 0
Closes None None status = status ≡ closed
Closes (Some old) None status = status ≡ 0
Closes _ (Some new) status = ⊥
