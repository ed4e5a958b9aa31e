-- How packets are spelled as bytes: in full, or short under a plan. All numbers are big-endian.
use Rattle.std.specs.Prelude.{◌≡◌, ℕ, ◌<◌, ◌^◌, true, ◌⊎◌, List, [], ◌∷◌, ◌++◌, All, flat_map, slice_get, Some}
use Rattle.std.specs.Int.{w32, to_be_bytes}
use Rattle.msg_core.specs.declared.message.Header.{Header}
use Rattle.msg_core.specs.declared.packet.Dest.{Dest}
use Rattle.msg_core.specs.declared.packet.Dest.TheVariants.{All as to_all, Rank}
use Rattle.msg_core.specs.declared.packet.Packet.{Packet}
use Rattle.msg_core.specs.declared.packet.View.{View}
use Rattle.layer_mean.specs.Tree.{LayerTree}
use Rattle.packet_mean.specs.Chained.{IsChained}
use Rattle.packet_mean.specs.Plan.{fits, variable_fields}
use Rattle.stack_mean.specs.Plan.{Plan}

-- The first byte of a full spelling.
abbrev pub full_form : ℕ
full_form = 0xE5

-- The first byte of a short spelling.
abbrev pub short_form : ℕ
short_form = 0xE6

-- The byte that stands for all members in the place of the rank that a packet is for.
abbrev pub everyone : ℕ
everyone = 0xFF

-- A number is four bytes, the highest first.
abbrev pub number_bytes : ℕ → List ℕ
number_bytes n = to_be_bytes w32 n

-- A view is eight bytes: its ltime, and the mask of its members' ids.
abbrev pub view_bytes : View → List ℕ
view_bytes view = number_bytes view.ltime ++ number_bytes view.mask

-- A destination is one byte: that for all members, or a rank.
abbrev pub dest_byte : Dest → ℕ
dest_byte to_all = everyone
dest_byte (Rank rank) = rank

-- The 19 bytes in front: the form, the group, the stamp, the view, the sender's rank and the destination.
abbrev pub preamble_bytes : (form : ℕ) → Packet → List ℕ
preamble_bytes form packet = form ∷ number_bytes packet.group ++ number_bytes packet.stamp ++ view_bytes packet.view
    ++ packet.sender ∷ dest_byte packet.dest ∷ []

-- A header is its tag and its fields.
abbrev pub header_bytes : Header → List ℕ
header_bytes header = header.tag ∷ flat_map number_bytes header.fields

-- The full spelling: the headers from the lowest layer up, and the body.
abbrev pub full_bytes : Packet → List ℕ
full_bytes packet = preamble_bytes full_form packet ++ flat_map header_bytes packet.message.headers ++
    packet.message.body

-- The short spelling under plan number k: this number, the variable fields, and the body.
abbrev pub short_bytes : (k : ℕ) → Plan → Packet → List ℕ
short_bytes k plan packet = preamble_bytes short_form packet ++ k ∷ flat_map number_bytes (variable_fields plan packet)
    ++ packet.message.body

-- Each is below 2^32.
abbrev pub AreNumbers : List ℕ → Type 0
AreNumbers numbers = All (λ n. n < 2 ^ 32) numbers

-- Each is below 256.
abbrev pub AreBytes : List ℕ → Type 0
AreBytes bytes = All (λ b. b < 256) bytes

-- A destination that a byte can name: the byte for all is no rank.
abbrev pub IsDestination : Dest → Type 0
IsDestination to_all = Unit {0}
IsDestination (Rank rank) = rank < everyone

-- A packet that can be spelled: its message is chained from the lowest place of the stack, and its numbers and bytes
-- are in range.
pub record IsSpellable (stack : List LayerTree) (packet : Packet) : Type 0 where
  pub group : packet.group < 2 ^ 32
  pub stamp : packet.stamp < 2 ^ 32
  pub ltime : packet.view.ltime < 2 ^ 32
  pub mask : packet.view.mask < 2 ^ 32
  pub sender : packet.sender < 256
  pub destination : IsDestination packet.dest
  pub chained : IsChained stack 0 packet.message
  pub fields : All (λ h. AreNumbers h.fields) packet.message.headers
  pub body : AreBytes packet.message.body

-- Bytes are a packet's short spelling under a plan of the list that it fits and whose number is a byte.
pub record SpellsShort (plans : List Plan) (bytes : List ℕ) (packet : Packet) : Type 0 where
  pub number : ℕ
  pub plan : Plan
  pub is_byte : number < 256
  pub listed : slice_get plans number ≡ Some plan
  pub fitting : fits plan packet ≡ true
  pub spelled : bytes ≡ short_bytes number plan packet

-- Bytes spell a packet of a stack with these plans: in full, or short.
pub record SpellsPacket (stack : List LayerTree) (plans : List Plan) (bytes : List ℕ) (packet : Packet) : Type 0 where
  pub spellable : IsSpellable stack packet
  pub spelled : (bytes ≡ full_bytes packet) ⊎ SpellsShort plans bytes packet
