-- How many bytes readers take, and how long spellings are.
use Rattle.std.proofs.Common.{◌≡◌, ℕ, suc, ◌+◌, ◌*◌, ◌<◌, ◌≤◌, Bool, true, false, ◌⊎◌, inl, inr, List, [], ◌∷◌, Option}
use Rattle.std.proofs.Common.{Some, None, refl, sym, ◌∙◌, arith}
use Rattle.std.specs.Prelude.{length, flat_map, nat_lt, MatchBool}
use Rattle.std.proofs.lemmas.Bool.{ltb-true, ltb-false}
use Rattle.std.proofs.lemmas.List.{length-append}
use Rattle.msg_core.specs.declared.message.Header.{Header}
use Rattle.msg_core.specs.declared.packet.Packet.{Packet}
use Rattle.layer_mean.specs.Tree.{HeaderTree, LayerTree}
use Rattle.layer_mean.specs.Headers.{header_none, header_of_tag}
use Rattle.packet_mean.specs.Chained.{IsChain}
use Rattle.packet_mean.specs.Plan.{variable, variable_fields}
use Rattle.stack_mean.specs.Plan.{Plan}
use Rattle.packet_mean.specs.Reading.{Reader, ◌>>=◌, value_reader, byte, number, preamble}
use Rattle.packet_mean.specs.Spelling.{number_bytes, full_bytes, short_bytes, SpellsShort}
use Rattle.packet_laws.specs.Lengths.{PreambleIs19, DatagramsFit}
use Rattle.packet_laws.proofs.Chains.{written, there}
use Rattle.packet_laws.proofs.Each.{Each, each_of_all, each_so}
use Rattle.packet_laws.proofs.Planned.{fields}
use Rattle.packet_laws.proofs.Whole.{each_at}

-- a reader takes exactly `k` bytes, whatever they are
record Takes {A : Type 0} (k : ℕ) (r : Reader A) : Type 0 where
  short : (bytes : List ℕ) → length bytes < k → r bytes ≡ None
  long : (bytes : List ℕ) → k ≤ length bytes → (x : A) × (rest : List ℕ) × (r bytes ≡ Some (x, rest)) ×
      (length rest + k ≡ length bytes)

takes_given : {A : Type 0} (x : A) → Takes 0 (value_reader x)
takes_given x = record {
  short = λ bytes few. absurd (omega arith);
  long = λ bytes enough.
      (x, bytes, refl, omega arith);
}

byte_short : (bytes : List ℕ) → length bytes < 1 → byte bytes ≡ None
byte_short [] few = refl
byte_short (b ∷ bs) few = absurd (omega arith)

byte_long : (bytes : List ℕ) → 1 ≤ length bytes → (x : ℕ) × (rest : List ℕ) × (byte bytes ≡ Some (x, rest)) ×
    (length rest + 1 ≡ length bytes)
byte_long [] enough = absurd (omega arith)
byte_long (b ∷ bs) enough = (b, bs, refl, omega arith)

number_short : (bytes : List ℕ) → length bytes < 4 → number bytes ≡ None
number_short [] few = refl
number_short (a ∷ []) few = refl
number_short (a ∷ b ∷ []) few = refl
number_short (a ∷ b ∷ c ∷ []) few = refl
number_short (a ∷ b ∷ c ∷ d ∷ bs) few = absurd (omega arith)

number_long : (bytes : List ℕ) → 4 ≤ length bytes → (x : ℕ) × (rest : List ℕ) × (number bytes ≡ Some (x, rest)) ×
    (length rest + 4 ≡ length bytes)
number_long (a ∷ b ∷ c ∷ d ∷ bs) enough = (_, bs, refl, omega arith)
number_long [] enough = absurd (omega arith)
number_long (a ∷ []) enough = absurd (omega arith)
number_long (a ∷ b ∷ []) enough = absurd (omega arith)
number_long (a ∷ b ∷ c ∷ []) enough = absurd (omega arith)

then_short : {A B : Type 0} (k m : ℕ) (r : Reader A) (f : A → Reader B) → Takes k r → ((x : A) → Takes m (f x)) →
    (bytes : List ℕ) (few : Bool) → nat_lt (length bytes) k ≡ few → length bytes < k + m → (r >>= f) bytes ≡ None
then_short k m r f h i bytes true test less = rw (h.short bytes (ltb-true (length bytes) k test)) refl
then_short k m r f h i bytes false test less =
    let read = h.long bytes (ltb-false (length bytes) k test) in
    rw (read.2) ((i read.0).short read.1 (omega (arith, read.3)))

takes_then : {A B : Type 0} (k m : ℕ) (r : Reader A) (f : A → Reader B) → Takes k r → ((x : A) → Takes m (f x)) →
    Takes (k + m) (r >>= f)
takes_then k m r f h i = record {
  short = λ bytes less. then_short k m r f h i bytes (nat_lt (length bytes) k) refl less;
  long = λ bytes enough.
      let first = h.long bytes (omega arith) in
      let second = (i first.0).long first.1 (omega (arith, first.3)) in
      (second.0, second.1, rw (first.2) second.2, omega (arith, first.3, second.3));
}

takes_byte : Takes 1 byte
takes_byte = record { short = byte_short; long = byte_long }

takes_number : Takes 4 number
takes_number = record { short = number_short; long = number_long }

takes_preamble : Takes 19 preamble
takes_preamble =
    takes_then 1 18 byte _ takes_byte (λ form. takes_then 4 14 number _ takes_number (λ group.
    takes_then 4 10 number _ takes_number (λ stamp. takes_then 4 6 number _ takes_number (λ ltime.
    takes_then 4 2 number _ takes_number (λ mask. takes_then 1 1 byte _ takes_byte (λ sender.
    takes_then 1 0 byte _ takes_byte (λ dest. takes_given _)))))))

too_few : (bytes : List ℕ) (few : Bool) → nat_lt (length bytes) 19 ≡ few → preamble bytes ≡ None → length bytes < 19
too_few bytes true test none = ltb-true (length bytes) 19 test
too_few bytes false test none =
    let read = takes_preamble.long bytes (ltb-false (length bytes) 19 test) in
    let clash = sym none ∙ read.2 in
    absurd (cc clash)

pub preamble_is_19 : PreambleIs19
preamble_is_19 bytes = (too_few bytes (nat_lt (length bytes) 19) refl, takes_preamble.short bytes)

-- the declared headers have few fields
abbrev Few : List LayerTree → Type 0
Few layers = Each (λ layer. Each (λ d. d.fields ≤ 4) layer.headers) layers

few_fields : (layer : LayerTree) (tag : ℕ) (d : HeaderTree) → Each (λ d. d.fields ≤ 4) layer.headers →
    header_of_tag layer tag ≡ Some d →
    d.fields ≤ 4
few_fields layer tag d few is = each_at (λ d. d.fields ≤ 4) (header_none ∷ layer.headers) tag d (omega arith, few) is

numbers_length : (ns : List ℕ) → length (flat_map number_bytes ns) ≡ 4 * length ns
numbers_length [] = refl
numbers_length (n ∷ ns) = let more = numbers_length ns in omega arith

-- no more bytes and fields than n layers can have
abbrev Fit : List Header → ℕ → Type 0
Fit hs n = (length (written hs) ≤ 17 * n) × (length (fields hs) ≤ 4 * n)

others_fit : (ends : Bool) (hs : List Header) (n : ℕ) (P : Type 0) → MatchBool ends (hs ≡ []) P → (P → Fit hs n) →
    Fit hs n
others_fit true hs n P none more = rw none (omega arith, omega arith)
others_fit false hs n P is more = more is

chain_length : (layers : List LayerTree) (place : ℕ) (hs : List Header) → Few layers → IsChain layers place hs →
    Fit hs (length layers)
chain_length [] place hs few is = rw is (omega arith, omega arith)
chain_length (layer ∷ above) place [] few is = absurd is
chain_length (layer ∷ above) place (h ∷ hs) few is =
    there (header_of_tag layer h.tag) _ is (λ d declares is_d.
    let own = few_fields layer h.tag d few.0 declares in
    let more = others_fit d.ends hs (length above) _ is_d.2 (chain_length above (suc place) hs few.1) in
    let bytes = length-append (flat_map number_bytes h.fields) (written hs) in
    let numbers = numbers_length h.fields in
    let count = length-append h.fields (fields hs) in
    let same : length h.fields ≡ d.fields = is_d.1 in
    (omega (arith, own, more.0, bytes, numbers, same), omega (arith, own, more.1, count, same)))

variable_length : (ps : List (Option ℕ)) (ns : List ℕ) → length (variable ps ns) ≤ length ns
variable_length [] ns = omega arith
variable_length (Some c ∷ ps) [] = omega arith
variable_length (None ∷ ps) [] = omega arith
variable_length (Some c ∷ ps) (n ∷ ns) = let more = variable_length ps ns in omega arith
variable_length (None ∷ ps) (n ∷ ns) = let more = variable_length ps ns in omega arith

full_length : (p : Packet) (n : ℕ) → Fit p.message.headers n → n ≤ 24 → length p.message.body ≤ 8192 →
    length (full_bytes p) ≤ 8619
full_length p n fit few body =
    let bytes = length-append (written p.message.headers) p.message.body in
    omega (arith, fit.0, bytes)

short_length : (plan : Plan) (k : ℕ) (p : Packet) (n : ℕ) → Fit p.message.headers n → n ≤ 24 →
    length p.message.body ≤ 8192 →
    length (short_bytes k plan p) ≤ 8619
short_length plan k p n fit few body =
    let bytes = length-append (flat_map number_bytes (variable_fields plan p)) p.message.body in
    let numbers = numbers_length (variable_fields plan p) in
    let some = variable_length plan.fields (fields p.message.headers) in
    omega (arith, fit.1, bytes, numbers, some)

either_length : (plans : List Plan) (bytes : List ℕ) (p : Packet) (n : ℕ) → Fit p.message.headers n → n ≤ 24 →
    length p.message.body ≤ 8192 → (bytes ≡ full_bytes p) ⊎ SpellsShort plans bytes p → length bytes ≤ 8619
either_length plans bytes p n fit few body (inl full) = rw full (full_length p n fit few body)
either_length plans bytes p n fit few body (inr short) =
    rw (short.spelled) (short_length short.plan short.number p n fit few body)

pub datagrams_fit : DatagramsFit
datagrams_fit stack plans bytes p within is =
    let few = each_so _ _ (λ layer h. each_of_all _ layer.headers h) stack (each_of_all _ stack within.fields) in
    either_length plans bytes p (length stack) (chain_length stack 0 p.message.headers few is.spellable.chained.chain)
    within.places
    is.spellable.chained.body is.spelled
