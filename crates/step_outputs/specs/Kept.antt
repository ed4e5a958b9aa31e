-- What kept outputs are, given the bytes of all.
use Rattle.std.specs.Prelude.{◌≡◌, ℕ, ◌+◌, ◌*◌, ◌≤◌, Bool, true, false, ◌&&◌, nat_lt, if◌then◌else◌, List, [], ◌∷◌}
use Rattle.std.specs.Prelude.{length, Option, Some, None}
use Rattle.std.specs.List.{AllByRecursion}
use Rattle.slot_pool.specs.Held.{range}
use Rattle.msg_core.specs.Parts.{longest_body}
use Rattle.msg_core.specs.declared.message.Header.{Header}
use Rattle.layer_words.specs.declared.events.Dir.{Dir}
use Rattle.layer_mean.specs.declared.run.Event.{Event}
use Rattle.packet_full.specs.Sent.{sent_packet}
use Rattle.packet_mean.specs.declared.here.Here.{Here}
use Rattle.run_mean.specs.Member as member
use Rattle.step_outputs.specs.Views.{signal_meant}
use Rattle.step_outputs.specs.declared.kept.Kept.{Kept}
use Rattle.step_outputs.specs.declared.kept.Span.{Span}
use Rattle.step_outputs.specs.declared.kept.What.{What}
use Rattle.step_outputs.specs.declared.kept.What.TheVariants.{Cast, Send, Block, Announce, Timer, Packet, Nowhere}
use Rattle.step_outputs.specs.declared.kept.What.TheVariants.{Quiet}

-- The bytes of a range.
abbrev pub bytes_in : List ℕ → Span → List ℕ
bytes_in bytes span = range span.from span.len bytes

-- Where a body stands once it is put after bytes.
abbrev pub span_of : (bytes body : List ℕ) → Span
span_of bytes body = record { from = length bytes; len = length body }

-- A range lies within these bytes.
abbrev pub LiesWithin : List ℕ → Span → Type 0
LiesWithin bytes span = span.from + span.len ≤ length bytes

-- An output with these headers and this body, and its plan.
abbrev pub output_with : Here → What → List Header → List ℕ → member.Output × Option ℕ
output_with here (Cast peer) headers body = (member.deliver_cast peer body, None)
output_with here (Send peer) headers body = (member.deliver_send peer body, None)
output_with here (Block a) headers body = (member.block a, None)
output_with here (Announce ranks) headers body = (member.announce ranks, None)
output_with here (Timer moment) headers body = (member.timer moment, None)
output_with here (Packet dest plan) headers body = (member.packet (sent_packet here dest headers body), plan)
output_with here (Nowhere plan) headers body = (member.nowhere, plan)
output_with here (Quiet dir signal) headers body = (member.quiet dir (signal_meant signal), None)

-- The output that is kept.
abbrev pub output_in : Here → List ℕ → Kept → member.Output × Option ℕ
output_in here bytes k = output_with here k.what k.headers (bytes_in bytes k.body)

-- What an event is as it leaves at the upper edge, or at the lower one, whatever its message.
abbrev pub IsFor : Here → Dir → Event → What → Type 0
IsFor here dir e what = output_with here what (member.content e).headers (member.content e).body ≡
    (member.output_of here (dir, e), None)

-- The view that it announces.
abbrev pub announced_by : What → Option ℕ
announced_by (Announce ranks) = Some ranks
announced_by _ = None

-- Whether it takes one of the numbers of plans.
abbrev pub takes_number : What → Bool
takes_number (Packet dest plan) = true
takes_number (Nowhere plan) = true
takes_number _ = false

-- An output, sent short under this plan, if there is one, where it takes one of the numbers of plans.
abbrev pub under : Option ℕ → What → What
under plan (Packet dest _) = Packet dest plan
under plan (Nowhere _) = Nowhere plan
under plan what = what

-- A number, if there is a plan of this number among `count` plans.
abbrev pub number_below : ℕ → ℕ → Option ℕ
number_below count k = if nat_lt k count then Some k else None

-- The number after an output's; past the last plan it stays the same.
abbrev pub number_following : ℕ → ℕ → What → ℕ
number_following count k what = if takes_number what && nat_lt k count then k + 1 else k

-- Outputs that take their numbers in order, from this one on.
abbrev pub numbered_outputs : ℕ → ℕ → List Kept → List Kept
numbered_outputs count k [] = []
numbered_outputs count k (x ∷ list) = record x { what = under (number_below count k) x.what } ∷
    numbered_outputs count (number_following count k x.what) list

-- Outputs are kept in `places` places: there is room for the rest of them, and for the longest body of each.
pub record AreKept (places room room_of_bytes : ℕ) (bytes : List ℕ) (list : List Kept) : Type 0 where
  pub outputs : places ≤ room
  pub held : length list ≤ places
  pub bodies : places * longest_body ≤ room_of_bytes
  pub few : length bytes ≤ length list * longest_body
  pub lie : AllByRecursion (λ k. LiesWithin bytes k.body) list
