-- What holds of a member between two calls.
use Rattle.std.specs.Prelude.{◌≡◌, ℕ, ◌≤◌, All, List, [], ◌∷◌, length, Option}
use Rattle.std.specs.Coded.{Coded-set, coded_list, le_prop, ×_prop, Unit-prop}
use Rattle.std.specs.List.{AllByRecursion}
use Rattle.msg_core.specs.Headers.{most_fields}
use Rattle.layer_mean.specs.Tree.{LayerTree}
use Rattle.packet_laws.specs.Lengths.{IsWithinLimits}
use Rattle.packet_mean.specs.ChainedState.{IsNumber}
use Rattle.run_mean.specs.Member.{Output}
use Rattle.stack_mean.specs.Acceptance.{largest_weight}
use Rattle.stack_mean.specs.Plan.{Plan}
use Rattle.step_outputs.specs.Gathered.{Gathered}
use Rattle.group_member.specs.Placed.{Placed}
use Rattle.group_peer.specs.Codes.{plan_code}
use Rattle.group_peer.specs.Heads.{bytes_of, room_of}

-- The most bytes of a packet as it is sent, short or in full, over a stack within its limits: a preamble, 17 for each
-- of 24 headers, and a body.
abbrev pub longest_packet : ℕ
longest_packet = 8619

-- The room in which a packet is spelled.
abbrev pub most_room : ℕ
most_room = 8620

-- An output is short: there is room to spell it, and it has no more bytes than the longest packet.
abbrev pub IsShort : List Plan → Output × Option ℕ → Type 0
IsShort plans o = (room_of o ≤ most_room) × (length (bytes_of plans o) ≤ longest_packet)

-- All outputs are.
abbrev pub AreShort : List Plan → List (Output × Option ℕ) → Type 0
AreShort plans outs = AllByRecursion (IsShort plans) outs

-- Each header that the layers of a stack declare has few numbers.
abbrev pub HasFewFields : List LayerTree → Type 0
HasFewFields stack = All (λ layer. All (λ header. header.fields ≤ most_fields) layer.headers) stack

-- A member's stack is within its limits, and its numbers are in range; its outputs have places for a step, and those
-- that there are are short.
pub record IsFit (m : Placed) (outputs : Gathered) : Type 0 where
  pub limits : IsWithinLimits m.stack
  pub group : IsNumber m.group
  pub stamp : IsNumber m.stamp
  pub places : outputs.places ≡ largest_weight m.stack
  pub short : AreShort m.plans outputs.outputs

-- There is at most one proof of either.
pub short_prop : (plans : List Plan) (outs : List (Output × Option ℕ)) → IsProp (AreShort plans outs)
short_prop plans [] = Unit-prop
short_prop plans (o ∷ outs) = ×_prop (×_prop le_prop le_prop) (short_prop plans outs)

pub plans_prop : {own plans : List Plan} → IsProp (own ≡ plans)
plans_prop = Coded-set (coded_list plan_code) _ _
