-- The headers of a datagram are read one after the other.
use Rattle.std.proofs.Common.{◌≡◌, ℕ, suc, ◌+◌, ◌-◌, ◌<◌, ◌≤◌, Bool, true, false, List, [], ◌∷◌, ◌++◌, Option, Some}
use Rattle.std.proofs.Common.{None}
use Rattle.std.proofs.Common.{refl, sym, ap, ◌∙◌, subst, add-one, append_assoc, arith, length, drop, take}
use Rattle.std.specs.Prelude.{if◌then◌else◌, option_map, option_and_then, slice_index_or, slice_set}
use Rattle.std.proofs.lemmas.List.{take_more_set}
use Rattle.std.proofs.Math.Seq.{drop-cons}
use Rattle.msg_core.specs.declared.message.Header.{Header}
use Rattle.layer_mean.specs.Headers.{header_of_tag}
use Rattle.layer_mean.specs.Tree.{HeaderTree, LayerTree, no_layer}
use Rattle.packet_mean.specs.Reading.{Reader, ◌>>=◌, value_reader, option_reader, numbers, chain}
use Rattle.packet_laws.proofs.Numbers.{same_read}
use Rattle.packet_full.specs.Chain.{header_read, none_at}
use Rattle.packet_full.specs.Form.{form_of}
use Rattle.packet_full.specs.Taking.{with_front}

-- the headers after one
abbrev others : Bool → Header → Reader (List Header) → Reader (List Header)
others ends header above = do
  more ← if ends then value_reader [] else above
  value_reader (header ∷ more)

-- the headers after a tag, and the first of them alone
abbrev after_tag : Option HeaderTree → ℕ → ℕ → Reader (List Header) → Reader (List Header)
after_tag o place tag above = do
  d ← option_reader o
  fields ← numbers d.fields
  others ← if d.ends then value_reader [] else above
  value_reader (record { layer = place; tag = tag; fields = fields } ∷ others)

abbrev first_after : Option HeaderTree → ℕ → ℕ → Reader (Header × Bool)
first_after o place tag = do
  form ← option_reader (option_map form_of o)
  fields ← numbers form.fields
  value_reader (record { layer = place; tag = tag; fields = fields }, form.ends)

none_after : (o : Option HeaderTree) (place tag : ℕ) (above : Reader (List Header)) (bytes : List ℕ) →
    first_after o place tag bytes ≡ None → after_tag o place tag above bytes ≡ None
none_after None place tag above bytes none = refl
none_after (Some d) place tag above bytes none = go (numbers d.fields bytes) refl
  where
    go : (read : Option (List ℕ × List ℕ)) → numbers d.fields bytes ≡ read → after_tag (Some d) place tag above bytes ≡
        None
    go None is = rw is refl
    go (Some (fields, more)) is = let some = rw is at none in absurd (cc some)

some_after : (o : Option HeaderTree) (place tag : ℕ) (above : Reader (List Header)) (bytes : List ℕ) (h : Header)
    (ends : Bool) (rest : List ℕ) →
    first_after o place tag bytes ≡ Some ((h, ends), rest) → after_tag o place tag above bytes ≡
    others ends h above rest
some_after None place tag above bytes h ends rest some = absurd (cc some)
some_after (Some d) place tag above bytes h ends rest some = go (numbers d.fields bytes) refl
  where
    go : (read : Option (List ℕ × List ℕ)) → numbers d.fields bytes ≡ read → after_tag (Some d) place tag above bytes ≡
        others ends h above rest
    go None is = let none = rw is at some in absurd (cc none)
    go (Some (fields, more)) is =
        let same = same_read (rw is at some) in
        rw is (subst (λ (q : (Header × Bool) × List ℕ).
        others d.ends record { layer = place; tag = tag; fields = fields } above more ≡
        others q.0.1 q.0.0 above q.1) same refl)

no_first : (layer : LayerTree) (above : List LayerTree) (place : ℕ) (bytes : List ℕ) → header_read layer place bytes ≡
    None →
    chain (layer ∷ above) place bytes ≡ None
no_first layer above place [] none = refl
no_first layer above place (tag ∷ bytes) none =
    none_after (header_of_tag layer tag) place tag (chain above (suc place))
    bytes none

a_first : (layer : LayerTree) (above : List LayerTree) (place : ℕ) (bytes : List ℕ) (h : Header) (ends : Bool)
    (rest : List ℕ) →
    header_read layer place bytes ≡ Some ((h, ends), rest) → chain (layer ∷ above) place bytes ≡
    others ends h (chain above (suc place)) rest
a_first layer above place [] h ends rest some = absurd (cc some)
a_first layer above place (tag ∷ bytes) h ends rest some =
    some_after (header_of_tag layer tag) place tag (chain above (suc place)) bytes h ends rest some

-- no header of a place's layer
pub no_header : (stack : List LayerTree) (place : ℕ) (bytes : List ℕ) → place < length stack →
    header_read (slice_index_or stack place no_layer) place bytes ≡ None → chain (drop place stack) place bytes ≡ None
no_header stack place bytes below none =
    ap (λ layers. chain layers place bytes) (drop-cons stack place no_layer below)
    ∙ no_first (slice_index_or stack place no_layer) (drop (suc place) stack) place bytes none

-- a header of a place's layer, and what is after it
pub a_header : (stack : List LayerTree) (place : ℕ) (bytes : List ℕ) (h : Header) (ends : Bool) (rest : List ℕ) →
    place < length stack →
    header_read (slice_index_or stack place no_layer) place bytes ≡ Some ((h, ends), rest) →
    chain (drop place stack) place bytes ≡ others ends h (chain (drop (place + 1) stack) (place + 1)) rest
a_header stack place bytes h ends rest below some =
    ap (λ layers. chain layers place bytes) (drop-cons stack place no_layer below)
    ∙ a_first (slice_index_or stack place no_layer) (drop (suc place) stack) place bytes h ends rest some
    ∙ ap (λ at. others ends h (chain (drop at stack) at) rest) (sym (add-one place))

-- it closes the chain
pub last_header : (stack : List LayerTree) (place : ℕ) (bytes : List ℕ) (h : Header) (ends : Bool) (rest : List ℕ) →
    place < length stack →
    ends ≡ true → header_read (slice_index_or stack place no_layer) place bytes ≡ Some ((h, ends), rest) →
    chain (drop place stack) place bytes ≡ Some (h ∷ [], rest)
last_header stack place bytes h ends rest below closes some =
    rw (a_header stack place bytes h ends rest below some, closes) refl

-- The headers that are read are set one after the other.
one_front : (h : Header) (o : Option (List Header × List ℕ)) →
    option_and_then (λ (read : List Header × List ℕ). value_reader (h ∷ read.0) read.1) o ≡ with_front (h ∷ []) o
one_front h None = refl
one_front h (Some (more, following)) = refl

longer_front : (front : List Header) (h : Header) (o : Option (List Header × List ℕ)) →
    with_front (front ++ h ∷ []) o ≡ with_front front (with_front (h ∷ []) o)
longer_front front h None = refl
longer_front front h (Some (more, following)) =
    ap (λ headers. Some (headers, following)) (append_assoc front (h ∷ []) more)

module _ (stack : List LayerTree) (place at : ℕ) (headers : List Header) (whole : Option (List Header × List ℕ))
    (order : place ≤ at)
    (count : length headers ≡ length stack - place) where
  -- those before a place, and what is read from there on
  abbrev So : (bytes : List ℕ) → Type 0
  So bytes = with_front (take (at - place) headers) (chain (drop at stack) at bytes) ≡ whole

  -- bytes that are equal to such bytes are such bytes
  pub still : (bytes old : List ℕ) → bytes ≡ old → So old → So bytes
  still bytes old is so_far = subst So (sym is) so_far

  set_next : (h : Header) → at < length stack → take (at + 1 - place) (slice_set headers (at - place) h) ≡
      take (at - place) headers ++ h ∷ []
  set_next h below =
      ap (λ n. take n (slice_set headers (at - place) h)) (omega (arith, order))
      ∙ take_more_set headers (at - place) h (omega (arith, order, count, below))

  -- one more is set
  pub one_set : (bytes : List ℕ) (h : Header) (ends : Bool) (rest : List ℕ) → at < length stack → ends ≡ false →
      header_read (slice_index_or stack at no_layer) at bytes ≡ Some ((h, ends), rest) → So bytes →
      with_front (take (at + 1 - place) (slice_set headers (at - place) h)) (chain (drop (at + 1) stack) (at + 1) rest)
      ≡ whole
  one_set bytes h ends rest below goes read so_far =
      let next = chain (drop (at + 1) stack) (at + 1) rest in
      ap (λ front. with_front front next) (set_next h below)
      ∙ longer_front (take (at - place) headers) h next
      ∙ ap (λ o. with_front (take (at - place) headers) o)
      (sym (ap (λ b. others b h (chain (drop (at + 1) stack) (at + 1)) rest) goes ∙ one_front h next))
      ∙ ap (λ o. with_front (take (at - place) headers) o) (sym (a_header stack at bytes h ends rest below read))
      ∙ so_far

  -- the header `none` is set
  pub none_set : (bytes rest : List ℕ) (h : Header) → at < length stack → bytes ≡ 0 ∷ rest → h ≡ none_at at → So bytes →
      with_front (take (at + 1 - place) (slice_set headers (at - place) h)) (chain (drop (at + 1) stack) (at + 1) rest)
      ≡ whole
  none_set bytes rest h below are is so_far =
      one_set bytes h false rest below refl
      (ap (λ bs. header_read (slice_index_or stack at no_layer) at bs) are ∙
      ap (λ first. Some ((first, false), rest)) (sym is)) so_far

  -- the last is set
  pub last_set : (bytes : List ℕ) (h : Header) (ends : Bool) (rest : List ℕ) (all : List Header) → at < length stack →
      ends ≡ true →
      header_read (slice_index_or stack at no_layer) at bytes ≡ Some ((h, ends), rest) → So bytes →
      all ≡ take (at + 1 - place) (slice_set headers (at - place) h) → whole ≡ Some (all, rest)
  last_set bytes h ends rest all below closes read so_far are =
      sym so_far
      ∙ ap (λ o. with_front (take (at - place) headers) o) (last_header stack at bytes h ends rest below closes read)
      ∙ ap (λ hs. Some (hs, rest)) (sym (are ∙ set_next h below))

  -- where a layer's header can't be read, no headers are
  pub none_read : (bytes : List ℕ) → at < length stack → header_read (slice_index_or stack at no_layer) at bytes ≡
      None → So bytes → whole ≡ None
  none_read bytes below none so_far =
      sym so_far ∙ ap (λ o. with_front (take (at - place) headers) o) (no_header stack at bytes below none)
