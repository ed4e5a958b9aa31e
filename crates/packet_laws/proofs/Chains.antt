-- Chains of headers are read as they were written, and what was read was so written.
use Rattle.std.proofs.Common.{◌≡◌, ℕ, suc, Bool, true, false, List, [], ◌∷◌, ◌++◌, Option, Some, None, refl, sym, ap}
use Rattle.std.proofs.Common.{◌∙◌, subst}
use Rattle.std.specs.Prelude.{flat_map, MatchBool, IsSomeAnd, if◌then◌else◌}
use Rattle.std.proofs.lemmas.List.{append_assoc}
use Rattle.msg_core.specs.declared.message.Header.{Header}
use Rattle.layer_mean.specs.Tree.{LayerTree}
use Rattle.layer_mean.specs.Headers.{header_of_tag}
use Rattle.packet_mean.specs.Chained.{IsChain}
use Rattle.packet_mean.specs.Spelling.{number_bytes, header_bytes}
use Rattle.packet_mean.specs.Reading.{value_reader, numbers, chain}
use Rattle.packet_laws.proofs.Each.{Each, Numbers, Bytes}
use Rattle.packet_laws.proofs.Numbers.{through, through_known, same_read, numbers_back, numbers_read}

-- the headers as bytes
abbrev pub written : List Header → List ℕ
written hs = flat_map header_bytes hs

-- the fields of headers are numbers
abbrev pub Fields : List Header → Type 0
Fields hs = Each (λ h. Numbers h.fields) hs

-- what holds of the value that is there
pub there : {A C : Type 0} (o : Option A) (P : A → Type 0) → IsSomeAnd o P → ((x : A) → o ≡ Some x → P x → C) → C
there None P h k = absurd h
there (Some x) P h k = k x refl h

-- after a header that ends nothing is read
others_back : (ends : Bool) (above : List LayerTree) (place : ℕ) (hs : List Header) (rest : List ℕ) →
    MatchBool ends (hs ≡ []) (IsChain above place hs) →
    (IsChain above place hs → chain above place (written hs ++ rest) ≡ Some (hs, rest)) →
    (if ends then value_reader [] else chain above place) (written hs ++ rest) ≡ Some (hs, rest)
others_back true above place hs rest none more = rw none refl
others_back false above place hs rest is more = more is

pub chain_back : (layers : List LayerTree) (place : ℕ) (hs : List Header) (rest : List ℕ) → IsChain layers place hs →
    Fields hs →
    chain layers place (written hs ++ rest) ≡ Some (hs, rest)
chain_back [] place hs rest is fields = rw is refl
chain_back (layer ∷ above) place [] rest is fields = absurd is
chain_back (layer ∷ above) place (h ∷ hs) rest is fields =
    there (header_of_tag layer h.tag) _ is (λ d declares is_d.
    rw (
      declares,
      append_assoc (flat_map number_bytes h.fields) (written hs) rest,
      ← is_d.1,
      numbers_back h.fields (written hs ++ rest) fields.0,
      others_back d.ends above (suc place) hs rest is_d.2
          (λ chained. chain_back above (suc place) hs rest chained fields.1),
    )
    (ap (λ at. Some (record { layer = at; tag = h.tag; fields = h.fields } ∷ hs, rest)) (sym is_d.0)))

-- what reading a chain says
pub record ChainRead (layers : List LayerTree) (place : ℕ) (bytes : List ℕ) (hs : List Header) (rest : List ℕ) : Type 0
  where
    pub chained : IsChain layers place hs
    pub fields : Fields hs
    pub spelled : bytes ≡ written hs ++ rest
    pub following : Bytes rest

-- what reading the headers after one says
record OthersRead (ends : Bool) (layers : List LayerTree) (place : ℕ) (bytes : List ℕ) (hs : List Header)
    (rest : List ℕ) : Type 0 where
  follow : MatchBool ends (hs ≡ []) (IsChain layers place hs)
  fields : Fields hs
  spelled : bytes ≡ written hs ++ rest
  following : Bytes rest

others_read : (ends : Bool) (above : List LayerTree) (place : ℕ) (bytes : List ℕ) (hs : List Header) (rest : List ℕ) →
    Bytes bytes →
    (if ends then value_reader [] else chain above place) bytes ≡ Some (hs, rest) →
    (chain above place bytes ≡ Some (hs, rest) → ChainRead above place bytes hs rest) →
    OthersRead ends above place bytes hs rest
others_read true above place bytes hs rest h is more =
    subst (λ q. OthersRead true above place bytes q.0 q.1) (same_read is)
    record { follow = refl; fields = tt; spelled = refl; following = h }
others_read false above place bytes hs rest h is more =
    let read = more is in
    record { follow = read.chained; fields = read.fields; spelled = read.spelled; following = read.following }

pub some_and : {A : Type 0} (o : Option A) (P : A → Type 0) (x : A) → o ≡ Some x → P x → IsSomeAnd o P
some_and o P x is holds = rw is holds

pub chain_read : (layers : List LayerTree) (place : ℕ) (bytes : List ℕ) (hs : List Header) (rest : List ℕ) →
    Bytes bytes →
    chain layers place bytes ≡ Some (hs, rest) → ChainRead layers place bytes hs rest
chain_read [] place bytes hs rest h is =
    subst (λ q. ChainRead [] place bytes q.0 q.1) (same_read is)
    record { chained = refl; fields = tt; spelled = refl; following = h }
chain_read (layer ∷ above) place [] hs rest h is = absurd (cc is)
chain_read (layer ∷ above) place (tag ∷ bytes) hs rest h is =
    through_known _ (header_of_tag layer tag) bytes _ is (λ d declares is_d.
    through _ (numbers d.fields bytes) _ is_d (λ (ns, r) reads is_ns.
    through _ ((if d.ends then value_reader [] else chain above (suc place)) r) _ is_ns (λ (others, s) follow is_s.
    let own = numbers_read d.fields bytes ns r h.1 reads in
    let more = others_read d.ends above (suc place) r others s own.following follow
    (chain_read above (suc place) r others s own.following) in
    subst (λ q. ChainRead (layer ∷ above) place (tag ∷ bytes) q.0 q.1) (same_read is_s)
    record {
      chained = some_and (header_of_tag layer tag) _ d declares (refl, own.count, more.follow);
      fields = (own.small, more.fields);
      spelled = ap (λ xs. tag ∷ xs) (own.written ∙ ap (λ xs. flat_map number_bytes ns ++ xs) more.spelled
          ∙ sym (append_assoc (flat_map number_bytes ns) (written others) s));
      following = more.following;
    })))
