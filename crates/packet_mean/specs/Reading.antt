-- How a packet is read: readers that take what they read off the front of the bytes.
use Rattle.std.specs.Prelude.{ℕ, zero, suc, ◌==◌, if◌then◌else◌, List, [], ◌∷◌, length, take, drop, nat_le, slice_get}
use Rattle.std.specs.Prelude.{Option, Some, None, option_and_then}
use Rattle.std.specs.Int.{w32, from_be_bytes}
use denote.Enum.Bare.{sameb}
use Rattle.msg_core.specs.declared.message.Header.{Header}
use Rattle.msg_core.specs.declared.packet.Dest.{Dest}
use Rattle.msg_core.specs.declared.packet.Dest.TheVariants.{All, Rank}
use Rattle.msg_core.specs.declared.packet.Packet.{Packet}
use Rattle.msg_core.specs.declared.packet.View.{View}
use Rattle.layer_words.specs.contracts.events.Kind as kind_row
use Rattle.layer_mean.specs.Tree.{LayerTree}
use Rattle.layer_mean.specs.Headers.{header_of_tag}
use Rattle.packet_mean.specs.Plan.{kind_of}
use Rattle.stack_mean.specs.Plan.{Plan}
use Rattle.packet_mean.specs.Spelling.{full_form, everyone}

-- A reader gives what it read and the bytes after, or nothing where the bytes don't begin with such a thing.
abbrev pub Reader : Type 0 → Type 0
Reader A = List ℕ → Option (A × List ℕ)

infixl 10 ◌>>=◌
-- One reader, and then the next on the bytes after.
abbrev pub ◌>>=◌ : {A B : Type 0} → Reader A → (A → Reader B) → Reader B
(reader >>= next) bytes = option_and_then (λ read. next read.0 read.1) (reader bytes)

-- Nothing is taken off, and this is what was read.
abbrev pub value_reader : {A : Type 0} → A → Reader A
value_reader x bytes = Some (x, bytes)

-- Nothing is taken off, and the value is what was read; where there is none, reading fails.
abbrev pub option_reader : {A : Type 0} → Option A → Reader A
option_reader None bytes = None
option_reader (Some x) bytes = Some (x, bytes)

-- One byte.
abbrev pub byte : Reader ℕ
byte [] = None
byte (b ∷ following) = Some (b, following)

-- A number: four bytes, the highest first.
abbrev pub number : Reader ℕ
number (a ∷ b ∷ c ∷ d ∷ following) = Some (from_be_bytes w32 (a ∷ b ∷ c ∷ d ∷ []), following)
number _ = None

-- n numbers.
abbrev pub numbers : ℕ → Reader (List ℕ)
numbers zero = value_reader []
numbers (suc k) = do
  n ← number
  more ← numbers k
  value_reader (n ∷ more)

-- The preamble of a datagram: what comes before its headers.
pub record Preamble : Type 0 where
  pub form : ℕ
  pub group : ℕ
  pub stamp : ℕ
  pub view : View
  pub sender : ℕ
  pub dest : Dest

-- The preamble of a packet's spelling of a form.
abbrev pub preamble_of : (form : ℕ) → Packet → Preamble
preamble_of form packet = record {
  form = form;
  group = packet.group;
  stamp = packet.stamp;
  view = packet.view;
  sender = packet.sender;
  dest = packet.dest;
}

-- The destination that a byte names.
abbrev pub dest_of : ℕ → Dest
dest_of b = if b == everyone then All else Rank b

-- The preamble, 19 bytes.
abbrev pub preamble : Reader Preamble
preamble = do
  form ← byte
  group ← number
  stamp ← number
  ltime ← number
  mask ← number
  sender ← byte
  dest ← byte
  value_reader record {
    form = form;
    group = group;
    stamp = stamp;
    view = record { ltime = ltime; mask = mask };
    sender = sender;
    dest = dest_of dest;
  }

-- The plan of this number, if it is one of the destination's kind.
abbrev pub plan_for : List Plan → Dest → ℕ → Option Plan
plan_for plans dest k =
    option_and_then (λ plan. if sameb kind_row.the_type plan.kind (kind_of dest) then Some plan else None)
    (slice_get plans k)

-- The plan that a short spelling names; a full one names none.
abbrev pub named_plan : List Plan → Preamble → Reader (Option Plan)
named_plan plans p = if p.form == full_form then value_reader None else do
  k ← byte
  plan ← option_reader (plan_for plans p.dest k)
  value_reader (Some plan)

-- The headers of the layers from a place on, each its tag and as many fields as it declares, through the first that
-- ends the chain.
abbrev pub chain : List LayerTree → (place : ℕ) → Reader (List Header)
chain [] place = value_reader []
chain (layer ∷ above) place = do
  tag ← byte
  d ← option_reader (header_of_tag layer tag)
  fields ← numbers d.fields
  others ← if d.ends then value_reader [] else chain above (suc place)
  value_reader (record { layer = place; tag = tag; fields = fields } ∷ others)

-- Planned fields: a constant is known, and a variable one is a number that is read.
abbrev pub planned_fields : List (Option ℕ) → Reader (List ℕ)
planned_fields [] = value_reader []
planned_fields (Some constant ∷ fields) = do
  more ← planned_fields fields
  value_reader (constant ∷ more)
planned_fields (None ∷ fields) = do
  n ← number
  more ← planned_fields fields
  value_reader (n ∷ more)

-- The first n of a list of numbers, as a reader of that list.
abbrev pub first : ℕ → Reader (List ℕ)
first k fields = if nat_le k (length fields) then Some (take k fields, drop k fields) else None

-- The headers of the layers from a place on that have these tags, as a reader of the list of their fields.
abbrev pub dealt : List LayerTree → (place : ℕ) → (tags : List ℕ) → Reader (List Header)
dealt [] place [] = value_reader []
dealt (layer ∷ above) place (tag ∷ tags) = do
  d ← option_reader (header_of_tag layer tag)
  fields ← first d.fields
  others ← if d.ends then dealt [] (suc place) tags else dealt above (suc place) tags
  value_reader (record { layer = place; tag = tag; fields = fields } ∷ others)
dealt _ place tags = option_reader None

-- What was read, if nothing is left.
abbrev pub whole : {A : Type 0} → Option (A × List ℕ) → Option A
whole (Some (x, [])) = Some x
whole _ = None

-- The headers of a datagram: all are read, or the plan's tags and constants are filled in.
abbrev pub headers : List LayerTree → Option Plan → Reader (List Header)
headers stack None = chain stack 0
headers stack (Some plan) = do
  fields ← planned_fields plan.fields
  option_reader (whole (dealt stack 0 plan.tags fields))
