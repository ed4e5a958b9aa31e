-- Planned fields are read as they were written, and what was read was so written; headers are dealt out as they were
-- collected.
use Rattle.std.proofs.Common.{◌≡◌, ℕ, suc, ◌<◌, Bool, true, false, List, [], ◌∷◌, ◌++◌, Option, Some, None, refl, sym}
use Rattle.std.proofs.Common.{ap, ◌∙◌, subst, arith}
use Rattle.std.specs.Prelude.{length, take, drop, map, flat_map, nat_le, ◌==◌, ◌&&◌, MatchBool, IfSome, if◌then◌else◌}
use Rattle.std.proofs.lemmas.Bool.{eqb-true, eq-eqb, le-leb, leb-true}
use Rattle.std.proofs.lemmas.List.{append_assoc, take-append-drop, length-append, length-take-le}
use Rattle.std.proofs.Math.Seq.{take-append_seam, drop-append_seam}
use Rattle.std.proofs.lemmas.Nat.{from_be_bytes-to_be_bytes_4}
use Rattle.msg_core.specs.declared.message.Header.{Header}
use Rattle.layer_mean.specs.Tree.{LayerTree}
use Rattle.layer_mean.specs.Headers.{header_of_tag}
use Rattle.packet_mean.specs.Chained.{IsChain}
use Rattle.packet_mean.specs.Plan.{agree, variable}
use Rattle.packet_mean.specs.Spelling.{number_bytes}
use Rattle.packet_mean.specs.Reading.{number, planned_fields, first, dealt}
use Rattle.packet_laws.proofs.Chains.{there, some_and}
use Rattle.packet_laws.proofs.Each.{Each, Numbers, Bytes}
use Rattle.packet_laws.proofs.Numbers.{through, through_known, same_read, number_read}

-- two tests that both pass
pub both : (a b : Bool) → (a && b) ≡ true → (a ≡ true) × (b ≡ true)
both true b h = (refl, h)
both false b h = absurd (cc h)

pub planned_back : (ps : List (Option ℕ)) (ns rest : List ℕ) → agree ps ns ≡ true → Numbers ns →
    planned_fields ps (flat_map number_bytes (variable ps ns) ++ rest) ≡ Some (ns, rest)
planned_back [] [] rest is h = refl
planned_back (Some c ∷ ps) (n ∷ ns) rest is h =
    let at = both (n == c) (agree ps ns) is in
    rw (planned_back ps ns rest at.1 h.1) (ap (λ m. Some (m ∷ ns, rest)) (sym (eqb-true n c at.0)))
planned_back (None ∷ ps) (n ∷ ns) rest is h = rw (from_be_bytes-to_be_bytes_4 n h.0, planned_back ps ns rest is h.1)
planned_back [] (n ∷ ns) rest is h = absurd (cc is)
planned_back (Some c ∷ ps) [] rest is h = absurd (cc is)
planned_back (None ∷ ps) [] rest is h = absurd (cc is)

-- the constants are numbers
abbrev pub Constants : List (Option ℕ) → Type 0
Constants ps = Each (λ p. IfSome p (λ c. c < 4294967296)) ps

-- what reading planned fields says
pub record PlannedRead (ps : List (Option ℕ)) (bytes ns rest : List ℕ) : Type 0 where
  pub agrees : agree ps ns ≡ true
  pub small : Numbers ns
  pub spelled : bytes ≡ flat_map number_bytes (variable ps ns) ++ rest
  pub following : Bytes rest

pub planned_read : (ps : List (Option ℕ)) (bytes ns rest : List ℕ) → Constants ps → Bytes bytes →
    planned_fields ps bytes ≡ Some (ns, rest) → PlannedRead ps bytes ns rest
planned_read [] bytes ns rest known h is =
    subst (λ q. PlannedRead [] bytes q.0 q.1) (same_read is) record
    { agrees = refl; small = tt; spelled = refl; following = h }
planned_read (Some c ∷ ps) bytes ns rest small h is =
    through _ (planned_fields ps bytes) _ is (λ (ms, s) more is_s.
    let others = planned_read ps bytes ms s small.1 h more in
    subst (λ q. PlannedRead (Some c ∷ ps) bytes q.0 q.1) (same_read is_s)
    record {
      agrees = rw (eq-eqb c c refl) others.agrees;
      small = (small.0, others.small);
      spelled = others.spelled;
      following = others.following;
    })
planned_read (None ∷ ps) bytes ns rest small h is =
    through _ (number bytes) _ is (λ (n, r) one is_n. through _ (planned_fields ps r) _ is_n (λ (ms, s) more is_s.
    let first = number_read bytes n r h one in
    let others = planned_read ps r ms s small.1 first.following more in
    subst (λ q. PlannedRead (None ∷ ps) bytes q.0 q.1) (same_read is_s)
    record {
      agrees = others.agrees;
      small = (first.small, others.small);
      spelled = first.written ∙ ap (λ xs. number_bytes n ++ xs) others.spelled;
      following = others.following;
    }))

-- the tags of headers, and their fields in a row
abbrev pub tags : List Header → List ℕ
tags hs = map (λ h. h.tag) hs

abbrev pub fields : List Header → List ℕ
fields hs = flat_map (λ h. h.fields) hs

first_back : (xs rest : List ℕ) → first (length xs) (xs ++ rest) ≡ Some (xs, rest)
first_back xs rest =
    rw (
      le-leb (length xs) (length (xs ++ rest)) (omega (arith, length-append xs rest)),
      take-append_seam xs rest,
      drop-append_seam xs rest,
    )

-- the value of a test that passed
pub passed : {A : Type 0} (b : Bool) (p q : A) → (if b then Some p else None) ≡ Some q → (b ≡ true) × (p ≡ q)
passed true p q h = (refl, same_read h)
passed false p q h = absurd (cc h)

first_read : (k : ℕ) (xs ys rest : List ℕ) → first k xs ≡ Some (ys, rest) → (length ys ≡ k) × (xs ≡ ys ++ rest)
first_read k xs ys rest is =
    let test = passed (nat_le k (length xs)) (take k xs, drop k xs) (ys, rest) is in
    subst (λ (q : List ℕ × List ℕ). (length q.0 ≡ k) × (xs ≡ q.0 ++ q.1)) test.1
    (length-take-le k xs (leb-true k (length xs) test.0), sym (take-append-drop k xs))

others_back : (ends : Bool) (above : List LayerTree) (place : ℕ) (hs : List Header) (rest : List ℕ) →
    MatchBool ends (hs ≡ []) (IsChain above place hs) →
    (IsChain above place hs → dealt above place (tags hs) (fields hs ++ rest) ≡ Some (hs, rest)) →
    (if ends then dealt [] place (tags hs) else dealt above place (tags hs)) (fields hs ++ rest) ≡ Some (hs, rest)
others_back true above place hs rest none more = rw none refl
others_back false above place hs rest is more = more is

pub dealt_back : (layers : List LayerTree) (place : ℕ) (hs : List Header) (rest : List ℕ) → IsChain layers place hs →
    dealt layers place (tags hs) (fields hs ++ rest) ≡ Some (hs, rest)
dealt_back [] place hs rest is = rw is refl
dealt_back (layer ∷ above) place [] rest is = absurd is
dealt_back (layer ∷ above) place (h ∷ hs) rest is =
    there (header_of_tag layer h.tag) _ is (λ d declares is_d.
    rw (
      declares,
      append_assoc h.fields (fields hs) rest,
      ← is_d.1,
      first_back h.fields (fields hs ++ rest),
      others_back d.ends above (suc place) hs rest is_d.2 (λ chained. dealt_back above (suc place) hs rest chained),
    )
    (ap (λ at. Some (record { layer = at; tag = h.tag; fields = h.fields } ∷ hs, rest)) (sym is_d.0)))

-- what dealing out says
pub record DealtRead (layers : List LayerTree) (place : ℕ) (ts xs : List ℕ) (hs : List Header) (rest : List ℕ) : Type 0
  where
    pub chained : IsChain layers place hs
    pub tagged : tags hs ≡ ts
    pub collected : xs ≡ fields hs ++ rest

-- what dealing out after a header says
record OthersRead (ends : Bool) (layers : List LayerTree) (place : ℕ) (ts xs : List ℕ) (hs : List Header)
    (rest : List ℕ) : Type 0 where
  follow : MatchBool ends (hs ≡ []) (IsChain layers place hs)
  tagged : tags hs ≡ ts
  collected : xs ≡ fields hs ++ rest

none_read : (place : ℕ) (ts xs : List ℕ) (hs : List Header) (rest : List ℕ) → dealt [] place ts xs ≡ Some (hs, rest) →
    DealtRead [] place ts xs hs rest
none_read place [] xs hs rest is =
    subst (λ q. DealtRead [] place [] xs q.0 q.1) (same_read is) record
    { chained = refl; tagged = refl; collected = refl }
none_read place (t ∷ ts) xs hs rest is = absurd (cc is)

others_read : (ends : Bool) (above : List LayerTree) (place : ℕ) (ts xs : List ℕ) (hs : List Header) (rest : List ℕ) →
    (if ends then dealt [] place ts else dealt above place ts) xs ≡ Some (hs, rest) →
    (dealt above place ts xs ≡ Some (hs, rest) → DealtRead above place ts xs hs rest) →
    OthersRead ends above place ts xs hs rest
others_read true above place ts xs hs rest is more =
    let read = none_read place ts xs hs rest is in
    record { follow = read.chained; tagged = read.tagged; collected = read.collected }
others_read false above place ts xs hs rest is more =
    let read = more is in
    record { follow = read.chained; tagged = read.tagged; collected = read.collected }

pub dealt_read : (layers : List LayerTree) (place : ℕ) (ts xs : List ℕ) (hs : List Header) (rest : List ℕ) →
    dealt layers place ts xs ≡ Some (hs, rest) → DealtRead layers place ts xs hs rest
dealt_read [] place ts xs hs rest is = none_read place ts xs hs rest is
dealt_read (layer ∷ above) place [] xs hs rest is = absurd (cc is)
dealt_read (layer ∷ above) place (t ∷ ts) xs hs rest is =
    through_known _ (header_of_tag layer t) xs _ is (λ d declares is_d.
    through _ (first d.fields xs) _ is_d (λ (ns, r) reads is_ns.
    through _ ((if d.ends then dealt [] (suc place) ts else dealt above (suc place) ts) r) _ is_ns
    (λ (others, s) follow is_s.
    let own = first_read d.fields xs ns r reads in
    let more = others_read d.ends above (suc place) ts r others s follow (dealt_read above (suc place) ts r others s) in
    subst (λ q. DealtRead (layer ∷ above) place (t ∷ ts) xs q.0 q.1) (same_read is_s)
    record {
      chained = some_and (header_of_tag layer t) _ d declares (refl, own.0, more.follow);
      tagged = ap (λ us. t ∷ us) more.tagged;
      collected = own.1 ∙ ap (λ ys. ns ++ ys) more.collected ∙ sym (append_assoc ns (fields others) s);
    })))
