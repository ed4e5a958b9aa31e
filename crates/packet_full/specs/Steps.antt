-- A datagram is read in three steps: the preamble, the headers, and the body.
use Rattle.std.specs.Prelude.{◌≡◌, ℕ, ◌-◌, ◌<◌, ◌≤◌, ◌==◌, ◌||◌, nat_le, List, length, Result, Ok, Err, ok_or}
use Rattle.msg_core.specs.Parts.{longest_body}
use Rattle.msg_core.specs.declared.message.Header.{Header}
use Rattle.msg_core.specs.declared.packet.Packet.{Packet}
use Rattle.msg_core.specs.declared.packet.Stray.{Stray}
use Rattle.msg_core.specs.declared.packet.Stray.TheVariants as cause
use Rattle.layer_mean.specs.Tree.{LayerTree}
use Rattle.stack_mean.specs.Plan.{Plan}
use Rattle.packet_mean.specs.Reading as reading
use Rattle.packet_mean.specs.Reading.{preamble, named_plan, headers}
use Rattle.packet_mean.specs.Received.{◌>>=◌, unless, meant_for, packet_of, received}
use Rattle.packet_mean.specs.Spelling.{full_form, short_form}
use Rattle.packet_mean.specs.declared.here.Here.{Here}
use Rattle.packet_full.specs.declared.front.Preamble.{Preamble}
use Rattle.packet_full.specs.declared.opened.Opened.{Opened}
use Rattle.packet_full.specs.declared.scan.Scan.{Scan}
use Rattle.packet_full.specs.Taking.{left, preamble_tree}

-- The preamble of a datagram that has one of the two forms and is meant for a member, and the bytes after it; or the
-- first cause for which the datagram isn't such a one.
unfoldable pub opened : Here → List ℕ → Result (reading.Preamble × List ℕ) Stray
opened here bytes = do
  (p, following) ← ok_or (preamble bytes) cause.Short
  _ ← unless ((p.form == full_form) || (p.form == short_form)) cause.Form
  _ ← meant_for here p
  Ok (p, following)

-- The headers after the preamble, and the body.
unfoldable pub contents : List LayerTree → List Plan → reading.Preamble → List ℕ → Result (List Header × List ℕ) Stray
contents stack plans p following = do
  (plan, following) ← ok_or (named_plan plans p following) cause.Plan
  ok_or (headers stack plan following) cause.Chain

-- The packet of these parts, unless its body is too long.
unfoldable pub closed : reading.Preamble → (List Header × List ℕ) → Result Packet Stray
closed p (headers, body) = do
  _ ← unless (nat_le (length body) longest_body) cause.Body
  Ok (packet_of p headers body)

-- What a member makes of a datagram is what these steps make of it.
abbrev pub ReadInSteps : Type 0
ReadInSteps = (stack : List LayerTree) (plans : List Plan) (here : Here) (bytes : List ℕ) →
    received stack plans here bytes ≡ (opened here bytes >>= λ q. contents stack plans q.0 q.1 >>= closed q.0)

-- The first step's answer, as the code gives it.
abbrev pub Opens : Result (reading.Preamble × List ℕ) Stray → Result Opened Stray → Type 0
Opens is_opened (Ok o) = is_opened ≡ Ok (preamble_tree o.front, left o.cursor)
Opens is_opened (Err cause) = is_opened ≡ Err cause

-- The scan of a datagram whose last bytes are the body.
abbrev pub datagram_scan : List ℕ → Preamble → List Header → (body : List ℕ) → Scan
datagram_scan bytes front headers body =
    record { sender = front.sender; dest = front.dest; headers = headers; body = length bytes - length body }

-- The last step's answer.
abbrev pub Closes : List ℕ → Preamble → List Header → (body : List ℕ) → Result (Unit {0}) Stray → Scan → Type 0
Closes bytes front headers body (Ok _) scan = (length body ≤ longest_body) ×
    (scan ≡ datagram_scan bytes front headers body)
Closes bytes front headers body (Err refusal) scan = (longest_body < length body) × (refusal ≡ cause.Body)
