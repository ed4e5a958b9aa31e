-- How long a packet is as it is sent.
use Rattle.std.proofs.Common.{◌≡◌, ℕ, ◌+◌, ◌*◌, ◌≤◌, inl, List, [], ◌∷◌, length, Option, Some, None, refl, arith}
use Rattle.std.specs.Prelude.{flat_map, slice_get}
use Rattle.std.specs.Option.{option_map_or}
use Rattle.std.proofs.lemmas.List.{length-append}
use Rattle.msg_core.specs.declared.message.Header.{Header}
use Rattle.msg_core.specs.declared.packet.Packet.{Packet}
use Rattle.layer_mean.specs.Tree.{LayerTree}
use Rattle.packet_mean.specs.Plan.{fields_of, variable, variable_fields}
use Rattle.packet_mean.specs.Spelling.{full_bytes, header_bytes, number_bytes, short_bytes, IsSpellable}
use Rattle.packet_laws.specs.Lengths.{IsWithinLimits}
use Rattle.packet_laws.proofs.Lengths.{datagrams_fit}
use Rattle.stack_mean.specs.Plan.{Plan}
use Rattle.run_mean.specs.Common.{wire}
use Rattle.node_laws.specs.Groups.{longest_packet}

numbers_long : (ns : List ℕ) → length (flat_map number_bytes ns) ≡ 4 * length ns
numbers_long [] = refl
numbers_long (n ∷ ns) = let more = numbers_long ns in omega arith

-- Variable fields are some of all.
variable_few : (planned : List (Option ℕ)) (numbers : List ℕ) → length (variable planned numbers) ≤ length numbers
variable_few [] numbers = omega arith
variable_few (Some constant ∷ planned) [] = omega arith
variable_few (None ∷ planned) [] = omega arith
variable_few (Some constant ∷ planned) (n ∷ numbers) = let more = variable_few planned numbers in omega arith
variable_few (None ∷ planned) (n ∷ numbers) = let more = variable_few planned numbers in omega arith

-- Headers in full have their fields in them, each after its tag.
headers_long : (hs : List Header) →
    length hs + 4 * length (flat_map (λ h. h.fields) hs) ≤ length (flat_map header_bytes hs)
headers_long [] = omega arith
headers_long (h ∷ hs) =
    let more = headers_long hs in
    let bytes = length-append (flat_map number_bytes h.fields) (flat_map header_bytes hs) in
    let numbers = numbers_long h.fields in
    let count = length-append h.fields (flat_map (λ h. h.fields) hs) in
    omega (arith, more, bytes, numbers, count)

-- The number of a plan takes no more than the tag of a header.
fields_fit : (hs : List Header) (body : ℕ) → body ≤ 8192 →
    19 + (length (flat_map header_bytes hs) + body) ≤ longest_packet →
    20 + (4 * length (flat_map (λ h. h.fields) hs) + body) ≤ longest_packet
fields_fit [] body few fit = omega (arith, few)
fields_fit (h ∷ hs) body few fit = let more = headers_long (h ∷ hs) in omega (arith, fit, more)

short_fits : (plan : Plan) (k : ℕ) (p : Packet) → length p.message.body ≤ 8192 →
    length (full_bytes p) ≤ longest_packet →
    length (short_bytes k plan p) ≤ longest_packet
short_fits plan k p few fit =
    let full = length-append (flat_map header_bytes p.message.headers) p.message.body in
    let short = length-append (flat_map number_bytes (variable_fields plan p)) p.message.body in
    let numbers = numbers_long (variable_fields plan p) in
    let some = variable_few plan.fields (fields_of p.message) in
    let all = fields_fit p.message.headers (length p.message.body) few (omega (arith, fit, full)) in
    omega (arith, short, numbers, some, all)

-- A packet that can be spelled is short enough, under whatever plan it is sent.
pub wires_fit : (stack : List LayerTree) (plans : List Plan) (p : Packet) (plan : Option ℕ) → IsWithinLimits stack →
    IsSpellable stack p →
    length (wire plans p plan) ≤ longest_packet
wires_fit stack plans p plan limits is = go plan where
  full : length (full_bytes p) ≤ longest_packet
  full = datagrams_fit stack plans (full_bytes p) p limits (record { spellable = is; spelled = inl refl })

  planned : (k : ℕ) (found : Option Plan) →
      length (option_map_or (λ plan. short_bytes k plan p) found (full_bytes p)) ≤ longest_packet
  planned k None = full
  planned k (Some plan) = short_fits plan k p is.chained.body full

  go : (plan : Option ℕ) → length (wire plans p plan) ≤ longest_packet
  go None = full
  go (Some k) = planned k (slice_get plans k)
