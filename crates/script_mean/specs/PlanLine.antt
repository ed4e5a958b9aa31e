-- The lines of a plan, word by word.
use Rattle.std.specs.Prelude.{ℕ, Bool, true, false, codes, if◌then◌else◌, None}
use Rattle.outside.specs.declared.links.Peer.{Peer}
use Rattle.script_mean.specs.Form.{Form, ◌>>=◌, one, the_word, a_number_within, ends}
use Rattle.script_mean.specs.Address.{peer_of}
use Rattle.script_mean.specs.Event.{event_line}
use Rattle.script_mean.specs.declared.event.ScriptEvent.{ScriptEvent}
use Rattle.script_mean.specs.declared.event.ScriptEvent.TheVariants.{Cast, Send, Leave}

-- `peer M A.B.C.D:PORT` of this very member
abbrev pub peer_line : ℕ → Form Peer
peer_line member = do
  _ ← the_word (codes "peer")
  _ ← a_number_within member member
  peer ← one peer_of
  ends peer

-- what a member's application asks for: a cast, a send, or to leave
abbrev pub is_request : ScriptEvent → Bool
is_request (Cast member body) = true
is_request (Send member rank body) = true
is_request (Leave member) = true
is_request _ = false

-- an event's line, if it is a request
abbrev pub request_line : Form ScriptEvent
request_line = do
  event ← event_line
  if is_request event then ends event else (λ words. None)

-- `turn T` and a request's line, T no earlier than the turn before
abbrev pub turn_line : ℕ → Form (ℕ × ScriptEvent)
turn_line earliest = do
  _ ← the_word (codes "turn")
  turn ← a_number_within earliest 4294967295
  event ← request_line
  ends (turn, event)
