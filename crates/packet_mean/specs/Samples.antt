-- Two small stacks with packets and datagrams, from which the laws by evaluation are made.
use Rattle.std.specs.Prelude.{ℕ, suc, false, true, List, [], ◌∷◌, ◌++◌, codes, Option, Some, None}
use Rattle.msg_core.specs.declared.message.Header.{Header}
use Rattle.msg_core.specs.declared.packet.Dest.{Dest}
use Rattle.msg_core.specs.declared.packet.Dest.TheVariants.{All, Rank}
use Rattle.msg_core.specs.declared.packet.Packet.{Packet}
use Rattle.msg_core.specs.declared.packet.Stray.{Stray}
use Rattle.layer_words.specs.declared.events.Kind.TheVariants.{Cast, Send}
use Rattle.layer_mean.specs.Tree.{HeaderTree, LayerTree}
use Rattle.stack_mean.specs.Plan.{Plan}
use Rattle.packet_mean.specs.Received.{stray}
use Rattle.packet_mean.specs.declared.here.Here.{Here}

-- A header of this name, with so many fields, after which those of the layers above follow.
abbrev pub passing : List ℕ → ℕ → HeaderTree
passing name fields = record { name = name; fields = fields; ends = false }

-- A header of this name, with so many fields, that ends the chain.
abbrev pub ending : List ℕ → ℕ → HeaderTree
ending name fields = record { name = name; fields = fields; ends = true }

-- A layer that declares these headers alone.
abbrev pub layer : List ℕ → List HeaderTree → LayerTree
layer name headers = record { name = name; cells = []; headers = headers; handlers = [] }

-- The stack `bottom; mnak; local; total`.
abbrev pub ordering_stack : List LayerTree
ordering_stack =
    layer (codes "bottom") (passing (codes "net") 1 ∷ []) ∷
    layer (codes "mnak") (passing (codes "num") 1 ∷ ending (codes "nak") 2 ∷ ending (codes "again") 1 ∷
    ending (codes "last") 1 ∷ []) ∷
    layer (codes "local") [] ∷
    layer (codes "total") (passing (codes "num") 2 ∷ passing (codes "ask") 0 ∷ []) ∷ []

-- The counter layer alone.
abbrev pub counter : List LayerTree
counter = layer (codes "cnt") (passing (codes "num") 1 ∷ []) ∷ []

-- Headers of places 0, 1 and so on, by their tags and fields.
abbrev pub headers_from : ℕ → List (ℕ × List ℕ) → List Header
headers_from place [] = []
headers_from place (h ∷ hs) = record { layer = place; tag = h.0; fields = h.1 } ∷ headers_from (suc place) hs

-- A packet of rank 0 in the first view.
abbrev pub packet : (stamp mask : ℕ) → Dest → List (ℕ × List ℕ) → List ℕ → Packet
packet stamp mask dest headers body = record {
  group = 1;
  stamp = stamp;
  view = record { ltime = 0; mask = mask };
  sender = 0;
  dest = dest;
  message = record { headers = headers_from 0 headers; body = body };
}

-- A cast of `a` over the ordering stack, from rank 0 of two.
abbrev pub ordered_cast : Packet
ordered_cast = packet 1 3 All ((1, 1 ∷ []) ∷ (1, 0 ∷ []) ∷ (0, []) ∷ (1, 0 ∷ 0 ∷ []) ∷ []) (codes "a")

-- The plan of a cast over the ordering stack: the lowest layer's field is constant, the other three vary.
abbrev pub ordered_plan : Plan
ordered_plan = record { kind = Cast; tags = 1 ∷ 1 ∷ 0 ∷ 1 ∷ []; fields = Some 1 ∷ None ∷ None ∷ None ∷ [] }

-- A request of the second layer to rank 1; its header ends the chain, and it has no body.
abbrev pub ordered_request : Packet
ordered_request = packet 1 3 (Rank 1) ((1, 1 ∷ []) ∷ (2, 0 ∷ 7 ∷ []) ∷ []) []

-- A cast of `hi` over the counter layer, from rank 0 of three.
abbrev pub counter_cast : Packet
counter_cast = packet 7 7 All ((1, 0 ∷ []) ∷ []) (codes "hi")

-- The plans of the counter layer: a cast's, whose one field varies, and a send's.
abbrev pub counter_plans : List Plan
counter_plans =
    record { kind = Cast; tags = 1 ∷ []; fields = None ∷ [] } ∷
    record { kind = Send; tags = 0 ∷ []; fields = [] } ∷ []

-- The member of rank 1 in the view of its packets.
abbrev pub second : (stamp mask : ℕ) → Here
second stamp mask = record { group = 1; stamp = stamp; view = record { ltime = 0; mask = mask }; rank = 1 }

-- The bytes of a number below 256.
abbrev pub small : ℕ → List ℕ
small n = 0 ∷ 0 ∷ 0 ∷ n ∷ []

-- A preamble of small numbers.
abbrev pub front : (form group stamp ltime mask sender dest : ℕ) → List ℕ
front form group stamp ltime mask sender dest =
    form ∷ small group ++ small stamp ++ small ltime ++ small mask ++ sender ∷ dest ∷ []

-- Why the counter's member of rank 1 refuses bytes.
abbrev pub counter_stray : List ℕ → Option Stray
counter_stray bytes = stray counter counter_plans (second 7 7) bytes
