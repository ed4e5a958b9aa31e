-- Planned fields and headers are read one after the other.
use Rattle.std.proofs.Common.{◌≡◌, ℕ, suc, ◌+◌, ◌<◌, ◌≤◌, Bool, true, false, List, [], ◌∷◌, ◌++◌, Option, Some, None}
use Rattle.std.proofs.Common.{refl, sym, ap, ◌∙◌, append_assoc, add-one, arith, length, drop}
use Rattle.std.specs.Prelude.{option_and_then, if◌then◌else◌, slice_index_or}
use Rattle.std.proofs.Math.Seq.{drop-cons}
use Rattle.msg_core.specs.declared.message.Header.{Header}
use Rattle.layer_mean.specs.Tree.{LayerTree, no_layer}
use Rattle.packet_mean.specs.Reading.{value_reader}
use Rattle.packet_short.specs.Dealing.{field, fields, with_front, header, done, dealing}
use Rattle.packet_short.proofs.Alike.{none_left}

abbrev Fields : Type 0
Fields = List ℕ × List (Option ℕ)

one_more : (front : List ℕ) (n : ℕ) (read : Option (Fields × List ℕ)) →
    with_front (front ++ n ∷ []) read ≡
    with_front front (option_and_then (λ r. value_reader (n ∷ r.0.0, r.0.1) r.1) read)
one_more front n None = refl
one_more front n (Some ((more, rest), following)) =
    ap (λ xs. Some ((xs, rest), following)) (append_assoc front (n ∷ []) more)

-- where a field was read, those after it are read
pub fields_go_on : (front : List ℕ) (n k j : ℕ) (planned : List (Option ℕ)) (p : Option ℕ) (ps : List (Option ℕ))
    (bytes rest : List ℕ) →
    k ≡ suc j → planned ≡ p ∷ ps → field p bytes ≡ Some (n, rest) →
    with_front (front ++ n ∷ []) (fields j ps rest) ≡ with_front front (fields k planned bytes)
fields_go_on front n k j planned p ps bytes rest count is read =
    rw (count, is, read) (one_more front n (fields j ps rest))

-- a header before those that are read after it
abbrev pub with_first : Header → Option (List Header × List ℕ) → Option (List Header × List ℕ)
with_first h read = option_and_then (λ r. value_reader (h ∷ r.0) r.1) read

-- no layers are left
pub none_dealt : (stack : List LayerTree) (place : ℕ) (tags : List ℕ) (planned : List (Option ℕ)) (bytes : List ℕ)
    (result : Bool) →
    length stack ≤ place → ((bytes : List ℕ) → done tags planned bytes ≡ (if result then Some ([], bytes) else None)) →
    dealing (drop place stack) place tags planned bytes ≡ (if result then Some ([], bytes) else None)
none_dealt stack place tags planned bytes result past is = rw (none_left stack place past) (is bytes)

no_first : (layer : LayerTree) (above : List LayerTree) (place : ℕ) (tags : List ℕ) (planned : List (Option ℕ))
    (bytes : List ℕ) →
    header layer place tags planned bytes ≡ None → dealing (layer ∷ above) place tags planned bytes ≡ None
no_first layer above place tags planned bytes none = rw none refl

-- no header of a place's layer
pub no_header : (stack : List LayerTree) (place : ℕ) (tags : List ℕ) (planned : List (Option ℕ)) (bytes : List ℕ) →
    place < length stack →
    header (slice_index_or stack place no_layer) place tags planned bytes ≡ None →
    dealing (drop place stack) place tags planned bytes ≡ None
no_header stack place tags planned bytes below none =
    ap (λ layers. dealing layers place tags planned bytes) (drop-cons stack place no_layer below)
    ∙ no_first (slice_index_or stack place no_layer) (drop (suc place) stack) place tags planned bytes none

a_first : (layer : LayerTree) (above : List LayerTree) (place : ℕ) (tags : List ℕ) (planned : List (Option ℕ))
    (bytes : List ℕ)
    (h : Header) (ends : Bool) (more : List ℕ) (rest : List (Option ℕ)) (following : List ℕ) →
    header layer place tags planned bytes ≡ Some (((h, ends), (more, rest)), following) →
    dealing (layer ∷ above) place tags planned bytes
    ≡ with_first h ((if ends then done more rest else dealing above (suc place) more rest) following)
a_first layer above place tags planned bytes h ends more rest following some = rw some refl

-- what is after a header that ends or goes on
onward : (stack : List LayerTree) (place next : ℕ) (ends : Bool) (more : List ℕ) (rest : List (Option ℕ))
    (following : List ℕ) →
    next ≡ (if ends then length stack else place + 1) →
    (if ends then done more rest else dealing (drop (suc place) stack) (suc place) more rest) following ≡
    dealing (drop next stack) next more rest following
onward stack place next true more rest following is = sym (rw (none_left stack next (omega (arith, is))) refl)
onward stack place next false more rest following is = ap (λ at. dealing (drop at stack) at more rest following)
    (sym (is ∙ add-one place))

-- a header of a place's layer, and those after it
pub a_header : (stack : List LayerTree) (place next : ℕ) (tags : List ℕ) (planned : List (Option ℕ)) (bytes : List ℕ)
    (h : Header) (ends : Bool) (more : List ℕ) (rest : List (Option ℕ)) (following : List ℕ) → place < length stack →
    header (slice_index_or stack place no_layer) place tags planned bytes ≡
    Some (((h, ends), (more, rest)), following) →
    next ≡ (if ends then length stack else place + 1) →
    dealing (drop place stack) place tags planned bytes ≡
    with_first h (dealing (drop next stack) next more rest following)
a_header stack place next tags planned bytes h ends more rest following below some is =
    ap (λ layers. dealing layers place tags planned bytes) (drop-cons stack place no_layer below)
    ∙ a_first (slice_index_or stack place no_layer) (drop (suc place) stack) place tags planned bytes h ends more rest
    following some
    ∙ ap (with_first h) (onward stack place next ends more rest following is)

pub no_others : (stack : List LayerTree) (place next : ℕ) (tags : List ℕ) (planned : List (Option ℕ)) (bytes : List ℕ)
    (h : Header) (ends : Bool) (more : List ℕ) (rest : List (Option ℕ)) (following : List ℕ) → place < length stack →
    header (slice_index_or stack place no_layer) place tags planned bytes ≡
    Some (((h, ends), (more, rest)), following) →
    next ≡ (if ends then length stack else place + 1) → dealing (drop next stack) next more rest following ≡ None →
    dealing (drop place stack) place tags planned bytes ≡ None
no_others stack place next tags planned bytes h ends more rest following below some is none =
    a_header stack place next tags planned bytes h ends more rest following below some is ∙ ap (with_first h) none

pub with_others : (stack : List LayerTree) (place next : ℕ) (tags : List ℕ) (planned : List (Option ℕ)) (bytes : List ℕ)
    (h : Header) (ends : Bool) (more : List ℕ) (rest : List (Option ℕ)) (following left : List ℕ) (hs : List Header) →
    place < length stack →
    header (slice_index_or stack place no_layer) place tags planned bytes ≡
    Some (((h, ends), (more, rest)), following) →
    next ≡ (if ends then length stack else place + 1) → dealing (drop next stack) next more rest following ≡
    Some (hs, left) →
    dealing (drop place stack) place tags planned bytes ≡ Some (h ∷ hs, left)
with_others stack place next tags planned bytes h ends more rest following left hs below some is others =
    a_header stack place next tags planned bytes h ends more rest following below some is ∙ ap (with_first h) others
