-- What is told of outputs, in numbers and bytes.
use Rattle.std.specs.Prelude.{◌≡◌, ℕ, suc, ◌<◌, ◌^◌, List, [], ◌++◌, drop, length, Option, Some, None}
use Rattle.std.specs.List.{sum_by}
use Rattle.packet_short.specs.Shortened.{short_room}
use Rattle.run_mean.specs.Common.{wire}
use Rattle.run_mean.specs.Journal.{receivers}
use Rattle.run_mean.specs.Member.{Output, deliver_cast, deliver_send, block, announce, packet, nowhere, timer, quiet}
use Rattle.stack_mean.specs.Plan.{Plan}
use Rattle.group_peer.specs.declared.told.Head.{Head}
use Rattle.group_peer.specs.declared.told.Put.{Put}
use Rattle.group_peer.specs.declared.told.Put.TheVariants.{Fits, Short}

-- Ids, each as a bit of a number.
abbrev pub bits_of : List ℕ → ℕ
bits_of ids = sum_by (λ id. 2 ^ id) ids

-- The number of a plan, counted from 1; 0 where there is none.
abbrev pub plan_number : Option ℕ → ℕ
plan_number None = 0
plan_number (Some k) = suc k

-- An output of these numbers.
abbrev pub head : (kind peer to number plan : ℕ) → Head
head kind peer to number plan = record { kind = kind; peer = peer; to = to; number = number; plan = plan }

-- The numbers of an output, with its plan, of the member of this id: a packet goes to those to whom a node of the
-- definitions hands it.
abbrev pub head_of : (id : ℕ) → Output × Option ℕ → Head
head_of id (deliver_cast peer body, plan) = head 1 peer 0 0 0
head_of id (deliver_send peer body, plan) = head 2 peer 0 0 0
head_of id (block a, plan) = head 3 0 0 a 0
head_of id (announce ranks, plan) = head 4 0 ranks 0 0
head_of id (timer moment, plan) = head 5 0 0 moment 0
head_of id (packet p, plan) = head 6 0 (bits_of (receivers id p.view p.dest)) 0 (plan_number plan)
head_of id (nowhere, plan) = head 7 0 0 0 0
head_of id (quiet dir e, plan) = head 8 0 0 0 0

-- The bytes of an output: a body that is delivered, or a packet as a node sends it.
abbrev pub bytes_of : List Plan → Output × Option ℕ → List ℕ
bytes_of plans (deliver_cast peer body, plan) = body
bytes_of plans (deliver_send peer body, plan) = body
bytes_of plans (packet p, plan) = wire plans p plan
bytes_of plans _ = []

-- How much room an output is given where it is spelled: a packet that of its short form, and no other any.
abbrev pub room_of : Output × Option ℕ → ℕ
room_of (packet p, plan) = short_room p
room_of _ = 0

-- Bytes stand at the beginning of a room, and what was behind them stays; or the room is too small for them, and stays
-- as it was.
abbrev pub Puts : (bytes room after : List ℕ) → Put → Type 0
Puts bytes room after (Fits n) = (n ≡ length bytes) × (after ≡ bytes ++ drop n room)
Puts bytes room after (Short n) = (n ≡ length bytes) × (length room < n) × (after ≡ room)
