-- Headers that are laid out are filled in as a short datagram is read.
use Rattle.std.proofs.Common.{◌≡◌, ℕ, zero, suc, ◌+◌, ◌≤◌, Bool, true, false, List, [], ◌∷◌, ◌++◌, Option, Some, None}
use Rattle.std.proofs.Common.{refl, sym, ap, ◌∙◌, subst, arith, length, take, drop, append_assoc, append-nil}
use Rattle.std.proofs.Common.{length-append}
use Rattle.std.proofs.Common.{take-append-drop}
use Rattle.std.proofs.Math.Seq.{set-append_seam}
use Rattle.std.specs.Prelude.{◌&&◌}
use Rattle.std.proofs.lemmas.Bool.{eq-eqb}
use Rattle.std.specs.Prelude.{option_and_then, option_map, if◌then◌else◌, flat_map, slice_set, map}
use Rattle.msg_core.specs.declared.message.Header.{Header}
use Rattle.layer_mean.specs.Headers.{header_of_tag}
use Rattle.layer_mean.specs.Tree.{HeaderTree, LayerTree}
use Rattle.packet_full.specs.Form.{form_of}
use Rattle.packet_mean.specs.Plan.{variable, agree}
use Rattle.packet_mean.specs.Reading.{Reader, ◌>>=◌, value_reader, option_reader, number, planned_fields}
use Rattle.packet_laws.proofs.Numbers.{through, same_read}
use Rattle.packet_short.specs.Dealing.{field, fields, done, dealing}
use Rattle.packet_short.specs.Laid.{LooseTree, is_loose, loose_at, loose_from, filled, with_variable, all_own}

-- fields that were read, and those that are planned after them
abbrev Fields : Type 0
Fields = List ℕ × List (Option ℕ)

-- a header that was read, whether it closes the chain, and what is planned after it
abbrev After : Type 0
After = (Header × Bool) × (List ℕ × List (Option ℕ))

-- what is left of a plan's fields after the first n, and that these are read whatever the others are
record Parted (k : ℕ) (ps : List (Option ℕ)) (zs own : List ℕ) (rest : List (Option ℕ)) (r : List ℕ) : Type 0 where
  left : rest ≡ drop k ps
  count : length own ≡ k
  planned : planned_fields (take k ps) zs ≡ Some (own, r)
  again : (bytes : List ℕ) → fields k ps bytes ≡
      option_map (λ q. ((q.0, drop k ps), q.1)) (planned_fields (take k ps) bytes)

-- planned fields are read one by one
one_planned : (p : Option ℕ) (ps : List (Option ℕ)) (bytes : List ℕ) →
    planned_fields (p ∷ ps) bytes ≡ (field p >>= λ n. planned_fields ps >>= λ more. value_reader (n ∷ more)) bytes
one_planned (Some c) ps bytes = refl
one_planned None ps bytes = refl

more_again : (k : ℕ) (p : Option ℕ) (ps : List (Option ℕ)) →
    ((bytes : List ℕ) → fields k ps bytes ≡
    option_map (λ q. ((q.0, drop k ps), q.1)) (planned_fields (take k ps) bytes)) →
    (bytes : List ℕ) → fields (suc k) (p ∷ ps) bytes ≡
    option_map (λ q. ((q.0, drop k ps), q.1)) (planned_fields (p ∷ take k ps) bytes)
more_again k p ps more bytes =
    go (field p bytes)
    ∙ ap (option_map (λ (q : List ℕ × List ℕ). ((q.0, drop k ps), q.1))) (sym (one_planned p (take k ps) bytes))
  where
    inner : (n : ℕ) (o : Option (List ℕ × List ℕ)) →
        option_and_then (λ (read : Fields × List ℕ). value_reader {A = Fields} (n ∷ read.0.0, read.0.1) read.1)
        (option_map (λ q. ((q.0, drop k ps), q.1)) o)
        ≡ option_map (λ q. ((q.0, drop k ps), q.1)) (option_and_then (λ read. value_reader (n ∷ read.0) read.1) o)
    inner n None = refl
    inner n (Some (own, r)) = refl

    go : (o : Option (ℕ × List ℕ)) →
        option_and_then (λ one. option_and_then
        (λ (read : Fields × List ℕ). value_reader {A = Fields} (one.0 ∷ read.0.0, read.0.1) read.1)
        (fields k ps one.1)) o
        ≡ option_map (λ q. ((q.0, drop k ps), q.1))
        (option_and_then (λ one. option_and_then (λ read. value_reader (one.0 ∷ read.0) read.1)
        (planned_fields (take k ps) one.1)) o)
    go None = refl
    go (Some (n, r)) =
        ap (option_and_then (λ (read : Fields × List ℕ).
        value_reader {A = Fields} (n ∷ read.0.0, read.0.1) read.1)) (more r) ∙ inner n (planned_fields (take k ps) r)

parted : (k : ℕ) (ps : List (Option ℕ)) (zs own : List ℕ) (rest : List (Option ℕ)) (r : List ℕ) →
    fields k ps zs ≡ Some ((own, rest), r) → Parted k ps zs own rest r
parted zero ps zs own rest r is =
    subst (λ (q : (List ℕ × List (Option ℕ)) × List ℕ). Parted zero ps zs q.0.0 q.0.1 q.1) (same_read is)
    record { left = refl; count = refl; planned = refl; again = λ bytes. refl }
parted (suc k) [] zs own rest r is = absurd (cc is)
parted (suc k) (p ∷ ps) zs own rest r is =
    through _ (field p zs) _ is (λ (n, s) one is_n. through _ (fields k ps s) _ is_n (λ ((more, left), t) others is_s.
    let following = parted k ps s more left t others in
    subst (λ (q : (List ℕ × List (Option ℕ)) × List ℕ). Parted (suc k) (p ∷ ps) zs q.0.0 q.0.1 q.1) (same_read is_s)
    record {
      left = following.left;
      count = ap suc following.count;
      planned = one_planned p (take k ps) zs ∙ rw (one, following.planned) refl;
      again = more_again k p ps following.again;
    }))

-- fields are read for headers of which it is known how many each has
abbrev read_for : (place : ℕ) (planned : List (Option ℕ)) → List Header → Reader (List Header)
read_for place planned [] = value_reader []
read_for place planned (h ∷ hs) = do
  own ← planned_fields (take (length h.fields) planned)
  others ← read_for (suc place) (drop (length h.fields) planned) hs
  value_reader (record { layer = place; tag = h.tag; fields = own } ∷ others)

-- so are those that were once read, whatever the numbers are
abbrev Again : List Header → (place : ℕ) → List (Option ℕ) → Reader (List Header) → Type 0
Again hs place ps reader = (bytes : List ℕ) → reader bytes ≡ read_for place ps hs bytes

done_again : (place : ℕ) (ts : List ℕ) (ps : List (Option ℕ)) (zs : List ℕ) (hs : List Header) (r : List ℕ) →
    done ts ps zs ≡ Some (hs, r) → Again hs place ps (done ts ps)
done_again place [] [] zs hs r is =
    subst (λ (q : List Header × List ℕ). Again q.0 place [] (done [] [])) (same_read is) (λ bytes. refl)
done_again place [] (p ∷ ps) zs hs r is = absurd (cc is)
done_again place (t ∷ ts) ps zs hs r is = absurd (cc is)

others_again : (ends : Bool) (above : List LayerTree) (place : ℕ) (ts : List ℕ) (ps : List (Option ℕ)) (zs : List ℕ)
    (hs : List Header) (r : List ℕ) →
    (if ends then done ts ps else dealing above place ts ps) zs ≡ Some (hs, r) →
    (dealing above place ts ps zs ≡ Some (hs, r) → Again hs place ps (dealing above place ts ps)) →
    Again hs place ps (if ends then done ts ps else dealing above place ts ps)
others_again true above place ts ps zs hs r is more = done_again place ts ps zs hs r is
others_again false above place ts ps zs hs r is more = more is

abbrev header_after : Option HeaderTree → (place t : ℕ) → List ℕ → List (Option ℕ) →
    Reader ((Header × Bool) × (List ℕ × List (Option ℕ)))
header_after o place t ts ps = do
  form ← option_reader (option_map form_of o)
  (own, rest) ← fields form.fields ps
  value_reader ((record { layer = place; tag = t; fields = own }, form.ends), (ts, rest))

abbrev with_above : List LayerTree → ℕ → (Header × Bool) × (List ℕ × List (Option ℕ)) → Reader (List Header)
with_above above place q = do
  others ← if q.0.1 then done q.1.0 q.1.1 else dealing above place q.1.0 q.1.1
  value_reader (q.0.0 ∷ others)

header_again : (d : HeaderTree) (above : List LayerTree) (place t : ℕ) (ts : List ℕ) (ps : List (Option ℕ))
    (zs own : List ℕ) (rest : List (Option ℕ)) (r : List ℕ) (others : List Header) →
    Parted d.fields ps zs own rest r →
    Again others (suc place) rest (if d.ends then done ts rest else dealing above (suc place) ts rest) →
    Again (record { layer = place; tag = t; fields = own } ∷ others) place ps
    (header_after (Some d) place t ts ps >>= with_above above (suc place))
header_again d above place t ts ps zs own rest r others first more bytes =
    ap (λ (o : Option (Fields × List ℕ)). option_and_then
    (λ (read : After × List ℕ). with_above above (suc place) read.0 read.1)
    (option_and_then (λ (read : Fields × List ℕ).
    value_reader {A = After} ((record { layer = place; tag = t; fields = read.0.0 }, d.ends), (ts, read.0.1)) read.1)
    o))
    (first.again bytes)
    ∙ go (planned_fields (take d.fields ps) bytes)
    ∙ sym (rw (first.count) refl)
  where
    go : (o : Option (List ℕ × List ℕ)) →
        option_and_then (λ (read : After × List ℕ). with_above above (suc place) read.0 read.1)
        (option_and_then (λ (read : Fields × List ℕ).
        value_reader {A = After} ((record { layer = place; tag = t; fields = read.0.0 }, d.ends), (ts, read.0.1))
        read.1)
        (option_map (λ (q : List ℕ × List ℕ). ((q.0, drop d.fields ps), q.1)) o))
        ≡ option_and_then (λ one. option_and_then (λ read.
        value_reader (record { layer = place; tag = t; fields = one.0 } ∷ read.0) read.1)
        (read_for (suc place) (drop d.fields ps) others one.1)) o
    go None = refl
    go (Some (own', r')) =
        ap (option_and_then (λ (read : List Header × List ℕ).
        value_reader (record { layer = place; tag = t; fields = own' } ∷ read.0) read.1))
        (subst (λ left. (if d.ends then done ts left else dealing above (suc place) ts left) r' ≡
        read_for (suc place) left others r') first.left (more r'))

tag_again : (o : Option HeaderTree) (above : List LayerTree) (place t : ℕ) (ts : List ℕ) (ps : List (Option ℕ))
    (zs : List ℕ) (hs : List Header) (r : List ℕ) →
    ((rest : List (Option ℕ)) (u : List ℕ) (others : List Header) (v : List ℕ) →
    dealing above (suc place) ts rest u ≡ Some (others, v) →
    Again others (suc place) rest (dealing above (suc place) ts rest)) →
    (header_after o place t ts ps >>= with_above above (suc place)) zs ≡ Some (hs, r) →
    Again hs place ps (header_after o place t ts ps >>= with_above above (suc place))
tag_again None above place t ts ps zs hs r more is = absurd (cc is)
tag_again (Some d) above place t ts ps zs hs r more is =
    through _ (header_after (Some d) place t ts ps zs) _ is (λ (q, s) one is_s.
    through _ (fields d.fields ps zs) _ one (λ ((own, rest), u) reads is_u.
    through _ ((if d.ends then done ts rest else dealing above (suc place) ts rest) u) _
    (subst (λ (z : After × List ℕ). with_above above (suc place) z.0 z.1 ≡ Some (hs, r)) (sym (same_read is_u)) is_s)
    (λ (others, v) follow is_v.
    subst (λ (z : List Header × List ℕ).
    Again z.0 place ps (header_after (Some d) place t ts ps >>= with_above above (suc place))) (same_read is_v)
    (header_again d above place t ts ps zs own rest u others (parted d.fields ps zs own rest u reads)
    (others_again d.ends above (suc place) ts rest u others v follow (more rest u others v))))))

dealing_again : (layers : List LayerTree) (place : ℕ) (ts : List ℕ) (ps : List (Option ℕ)) (zs : List ℕ)
    (hs : List Header) (r : List ℕ) →
    dealing layers place ts ps zs ≡ Some (hs, r) → Again hs place ps (dealing layers place ts ps)
dealing_again [] place ts ps zs hs r is = done_again place ts ps zs hs r is
dealing_again (layer ∷ above) place [] ps zs hs r is = absurd (cc is)
dealing_again (layer ∷ above) place (t ∷ ts) ps zs hs r is =
    tag_again (header_of_tag layer t) above place t ts ps zs hs r
    (λ rest u others v. dealing_again above (suc place) ts rest u others v) is

-- numbers that were read are as many as planned
as_many : (ps : List (Option ℕ)) (zs ns r : List ℕ) → planned_fields ps zs ≡ Some (ns, r) → length ns ≡ length ps
as_many [] zs ns r is = ap (λ (q : List ℕ × List ℕ). length q.0) (sym (same_read is))
as_many (Some c ∷ ps) zs ns r is =
    through _ (planned_fields ps zs) _ is (λ (more, s) others is_s.
    ap (λ (q : List ℕ × List ℕ). length q.0) (sym (same_read is_s)) ∙ ap suc (as_many ps zs more s others))
as_many (None ∷ ps) zs ns r is =
    through _ (number zs) _ is (λ (n, u) one is_u. through _ (planned_fields ps u) _ is_u (λ (more, s) others is_s.
    ap (λ (q : List ℕ × List ℕ). length q.0) (sym (same_read is_s)) ∙ ap suc (as_many ps u more s others)))

none_variable : (ps : List (Option ℕ)) → variable ps [] ≡ []
none_variable [] = refl
none_variable (Some c ∷ ps) = refl
none_variable (None ∷ ps) = refl

-- the variable ones of the first numbers, and of the others
variable_parts : (k : ℕ) (ps : List (Option ℕ)) (ns more : List ℕ) → length ns ≡ length (take k ps) →
    variable ps (ns ++ more) ≡ variable (take k ps) ns ++ variable (drop k ps) more
variable_parts zero ps [] more count = refl
variable_parts zero ps (n ∷ ns) more count = absurd (omega arith)
variable_parts (suc k) [] [] more count = refl
variable_parts (suc k) [] (n ∷ ns) more count = absurd (omega arith)
variable_parts (suc k) (p ∷ ps) [] more count = absurd (omega arith)
variable_parts (suc k) (Some c ∷ ps) (n ∷ ns) more count = variable_parts k ps ns more (omega arith)
variable_parts (suc k) (None ∷ ps) (n ∷ ns) more count =
    ap (λ xs. n ∷ xs) (variable_parts k ps ns more (omega arith))

-- nothing is read where no field is variable
record Fixed (ps : List (Option ℕ)) (ns : List ℕ) : Type 0 where
  reads : (bytes : List ℕ) → planned_fields ps bytes ≡ Some (ns, bytes)
  none : variable ps ns ≡ []

fixed : (ps : List (Option ℕ)) (zs ns r : List ℕ) → is_loose ps ≡ false → planned_fields ps zs ≡ Some (ns, r) →
    Fixed ps ns × (r ≡ zs)
fixed [] zs ns r const is =
    subst (λ (q : List ℕ × List ℕ). Fixed [] q.0 × (q.1 ≡ zs)) (same_read is)
    (record { reads = λ bytes. refl; none = refl }, refl)
fixed (Some c ∷ ps) zs ns r const is =
    through _ (planned_fields ps zs) _ is (λ (more, s) others is_s.
    let rest = fixed ps zs more s const others in
    subst (λ (q : List ℕ × List ℕ). Fixed (Some c ∷ ps) q.0 × (q.1 ≡ zs)) (same_read is_s)
    (record { reads = λ bytes. rw (rest.0.reads bytes) refl; none = rest.0.none }, rest.1))
fixed (None ∷ ps) zs ns r const is = absurd (cc const)

abbrev all_fields : List Header → List ℕ
all_fields hs = flat_map (λ h. h.fields) hs

-- headers after others, and the variable fields of theirs after those that are kept
abbrev after_front : List Header → List ℕ → List (Option ℕ) → List Header × List ℕ →
    (List Header × List ℕ) × List ℕ
after_front front kept ps q = ((front ++ q.0, kept ++ variable ps (all_fields q.0)), q.1)

-- where reading gave these headers once, it fills them in
abbrev Fills : List Header → ℕ → List (Option ℕ) → Type 0
Fills hs place ps = (front : List Header) (kept : List ℕ) → length front ≡ place → (bytes : List ℕ) →
    filled (loose_from place ps hs) (front ++ hs) kept bytes
    ≡ option_map (after_front front kept ps) (read_for place ps hs bytes)

-- a header that was read, and those after it
header_filled : (h : Header) (hs : List Header) (k place : ℕ) (ps : List (Option ℕ)) (front : List Header)
    (kept own : List ℕ) → length own ≡ length (take k ps) → length front ≡ place → Fills hs (suc place) (drop k ps) →
    (bytes : List ℕ) →
    filled (loose_from (suc place) (drop k ps) hs) (front ++ record { layer = place; tag = h.tag; fields = own } ∷ hs)
    (kept ++ variable (take k ps) own) bytes
    ≡ option_map (after_front front kept ps) (option_and_then (λ (read : List Header × List ℕ).
    value_reader (record { layer = place; tag = h.tag; fields = own } ∷ read.0) read.1)
    (read_for (suc place) (drop k ps) hs bytes))
header_filled h hs k place ps front kept own count at more bytes =
    ap (λ xs. filled (loose_from (suc place) (drop k ps) hs) xs (kept ++ variable (take k ps) own) bytes)
    (sym (append_assoc front (now ∷ []) hs))
    ∙ more (front ++ now ∷ []) (kept ++ variable (take k ps) own)
    (let both = length-append front (now ∷ []) in omega (arith, at, both)) bytes
    ∙ go (read_for (suc place) (drop k ps) hs bytes)
  where
    now : Header
    now = record { layer = place; tag = h.tag; fields = own }

    go : (o : Option (List Header × List ℕ)) →
        option_map (after_front (front ++ now ∷ []) (kept ++ variable (take k ps) own) (drop k ps)) o
        ≡ option_map (after_front front kept ps)
        (option_and_then (λ (read : List Header × List ℕ). value_reader (now ∷ read.0) read.1) o)
    go None = refl
    go (Some (others, r)) =
        ap (λ hs. Some ((hs, (kept ++ variable (take k ps) own) ++ variable (drop k ps) (all_fields others)), r))
        (append_assoc front (now ∷ []) others)
        ∙ ap (λ ns. Some ((front ++ now ∷ others, ns), r))
        (append_assoc kept (variable (take k ps) own) (variable (drop k ps) (all_fields others))
        ∙ ap (λ xs. kept ++ xs) (sym (variable_parts k ps own (all_fields others) count)))

first_fills : (h : Header) (hs : List Header) (k place : ℕ) (ps : List (Option ℕ)) (zs own s : List ℕ) (loose : Bool) →
    is_loose (take k ps) ≡ loose → planned_fields (take k ps) zs ≡ Some (own, s) →
    h ≡ record { layer = place; tag = h.tag; fields = own } → Fills hs (suc place) (drop k ps) →
    (front : List Header) (kept : List ℕ) → length front ≡ place → (bytes : List ℕ) →
    filled ((if loose then record { place = place; tag = h.tag; own = take k ps } ∷ [] else []) ++
    loose_from (suc place) (drop k ps) hs) (front ++ h ∷ hs) kept bytes
    ≡ option_map (after_front front kept ps) (option_and_then (λ (one : List ℕ × List ℕ).
    option_and_then (λ (read : List Header × List ℕ).
    value_reader (record { layer = place; tag = h.tag; fields = one.0 } ∷ read.0) read.1)
    (read_for (suc place) (drop k ps) hs one.1)) (planned_fields (take k ps) bytes))
first_fills h hs k place ps zs own s true loose reads is more front kept at bytes =
    go (planned_fields (take k ps) bytes) refl
  where
    go : (o : Option (List ℕ × List ℕ)) → planned_fields (take k ps) bytes ≡ o →
        option_and_then (λ (one : List ℕ × List ℕ). filled (loose_from (suc place) (drop k ps) hs)
        (slice_set (front ++ h ∷ hs) place (record { layer = place; tag = h.tag; fields = one.0 }))
        (kept ++ variable (take k ps) one.0) one.1) o
        ≡ option_map (after_front front kept ps) (option_and_then (λ (one : List ℕ × List ℕ).
        option_and_then (λ (read : List Header × List ℕ).
        value_reader (record { layer = place; tag = h.tag; fields = one.0 } ∷ read.0) read.1)
        (read_for (suc place) (drop k ps) hs one.1)) o)
    go None none = refl
    go (Some (ns, r)) some =
        ap (λ xs. filled (loose_from (suc place) (drop k ps) hs) xs (kept ++ variable (take k ps) ns) r)
        (subst (λ n. slice_set (front ++ h ∷ hs) n (record { layer = place; tag = h.tag; fields = ns }) ≡
        front ++ record { layer = place; tag = h.tag; fields = ns } ∷ hs) at
        (set-append_seam front h hs (record { layer = place; tag = h.tag; fields = ns })))
        ∙ header_filled h hs k place ps front kept ns (as_many (take k ps) bytes ns r some) at more r
first_fills h hs k place ps zs own s false loose reads is more front kept at bytes =
    let known = fixed (take k ps) zs own s loose reads in
    ap (λ x. filled (loose_from (suc place) (drop k ps) hs) (front ++ x ∷ hs) kept bytes) is
    ∙ ap (λ ns. filled (loose_from (suc place) (drop k ps) hs)
    (front ++ record { layer = place; tag = h.tag; fields = own } ∷ hs) ns bytes)
    (sym (ap (λ ns. kept ++ ns) known.0.none ∙ append-nil kept))
    ∙ header_filled h hs k place ps front kept own (as_many (take k ps) zs own s reads) at more bytes
    ∙ ap (λ o. option_map (after_front front kept ps) (option_and_then (λ (one : List ℕ × List ℕ).
    option_and_then (λ (read : List Header × List ℕ).
    value_reader (record { layer = place; tag = h.tag; fields = one.0 } ∷ read.0) read.1)
    (read_for (suc place) (drop k ps) hs one.1)) o)) (sym (known.0.reads bytes))

same_first : (x y : Header) (xs ys : List Header) → x ∷ xs ≡ y ∷ ys → (x ≡ y) × (xs ≡ ys)
same_first x y xs ys is = (cc is, cc is)

fills : (hs : List Header) (place : ℕ) (ps : List (Option ℕ)) (zs r : List ℕ) →
    read_for place ps hs zs ≡ Some (hs, r) → Fills hs place ps
fills [] place ps zs r is = λ front kept at bytes.
    ap (λ ns. Some ((front ++ [], ns), bytes)) (sym (ap (λ ns. kept ++ ns) (none_variable ps) ∙ append-nil kept))
fills (h ∷ hs) place ps zs r is =
    through _ (planned_fields (take (length h.fields) ps) zs) _ is (λ (own, s) reads is_s.
    through _ (read_for (suc place) (drop (length h.fields) ps) hs s) _ is_s (λ (others, u) follow is_u.
    let same = same_first (record { layer = place; tag = h.tag; fields = own }) h others hs
    (ap (λ (q : List Header × List ℕ). q.0) (same_read is_u)) in
    first_fills h hs (length h.fields) place ps zs own s (is_loose (take (length h.fields) ps)) refl reads (sym same.0)
    (fills hs (suc place) (drop (length h.fields) ps) s u
    (subst (λ xs. read_for (suc place) (drop (length h.fields) ps) hs s ≡ Some (xs, u)) same.1 follow))))

-- headers that were read once are filled in with what is read
pub laid_out : (layers : List LayerTree) (ts : List ℕ) (ps : List (Option ℕ)) (zs : List ℕ) (hs : List Header)
    (r : List ℕ) → dealing layers 0 ts ps zs ≡ Some (hs, r) → (bytes : List ℕ) →
    filled (loose_from 0 ps hs) hs [] bytes ≡ with_variable ps (dealing layers 0 ts ps bytes)
laid_out layers ts ps zs hs r is bytes =
    fills hs 0 ps zs r (sym (dealing_again layers 0 ts ps zs hs r is zs) ∙ is) [] [] refl bytes
    ∙ ap (with_variable ps) (sym (dealing_again layers 0 ts ps zs hs r is bytes))

-- the loose headers have no more fields than are planned
all_own_append : (xs ys : List LooseTree) → all_own (xs ++ ys) ≡ all_own xs + all_own ys
all_own_append [] ys = omega arith
all_own_append (x ∷ xs) ys = let more = all_own_append xs ys in omega (arith, more)

one_own : (place tag k : ℕ) (ps : List (Option ℕ)) (loose : Bool) →
    all_own (if loose then record { place = place; tag = tag; own = take k ps } ∷ [] else []) + length (drop k ps) ≤
    length ps
one_own place tag k ps true = let both = length-append (take k ps) (drop k ps) in
    let whole = ap length (take-append-drop k ps) in omega (arith, both, whole)
one_own place tag k ps false = let both = length-append (take k ps) (drop k ps) in
    let whole = ap length (take-append-drop k ps) in omega (arith, both, whole)

pub few_own : (place : ℕ) (ps : List (Option ℕ)) (hs : List Header) → all_own (loose_from place ps hs) ≤ length ps
few_own place ps [] = omega arith
few_own place ps (h ∷ hs) =
    let first = one_own place h.tag (length h.fields) ps (is_loose (take (length h.fields) ps)) in
    let others = few_own (suc place) (drop (length h.fields) ps) hs in
    let both = all_own_append (loose_at place h.tag (take (length h.fields) ps))
    (loose_from (suc place) (drop (length h.fields) ps) hs) in
    omega (arith, first, others, both)

-- fields that were read agree with what is planned
fields_agree : (k : ℕ) (ps : List (Option ℕ)) (zs own : List ℕ) (rest : List (Option ℕ)) (r : List ℕ) →
    fields k ps zs ≡ Some ((own, rest), r) → (more : List ℕ) → agree ps (own ++ more) ≡ agree rest more
fields_agree zero ps zs own rest r is more =
    ap (λ (q : Fields × List ℕ). agree ps (q.0.0 ++ more)) (sym (same_read is))
    ∙ ap (λ (q : Fields × List ℕ). agree q.0.1 more) (same_read is)
fields_agree (suc k) [] zs own rest r is more = absurd (cc is)
fields_agree (suc k) (Some c ∷ ps) zs own rest r is more =
    through _ (fields k ps zs) _ is (λ ((ns, left), t) others is_s.
    ap (λ (q : Fields × List ℕ). agree (Some c ∷ ps) (q.0.0 ++ more)) (sym (same_read is_s))
    ∙ ap (λ b. b && agree ps (ns ++ more)) (eq-eqb c c refl)
    ∙ fields_agree k ps zs ns left t others more
    ∙ ap (λ (q : Fields × List ℕ). agree q.0.1 more) (same_read is_s))
fields_agree (suc k) (None ∷ ps) zs own rest r is more =
    through _ (number zs) _ is (λ (n, s) one is_n. through _ (fields k ps s) _ is_n (λ ((ns, left), t) others is_s.
    ap (λ (q : Fields × List ℕ). agree (None ∷ ps) (q.0.0 ++ more)) (sym (same_read is_s))
    ∙ fields_agree k ps s ns left t others more
    ∙ ap (λ (q : Fields × List ℕ). agree q.0.1 more) (same_read is_s)))

-- headers that were read have the plan's tags, and fields as planned
pub record Agrees (ts : List ℕ) (ps : List (Option ℕ)) (hs : List Header) : Type 0 where
  pub tagged : map (λ h. h.tag) hs ≡ ts
  pub fields : agree ps (all_fields hs) ≡ true

done_agrees : (ts : List ℕ) (ps : List (Option ℕ)) (zs : List ℕ) (hs : List Header) (r : List ℕ) →
    done ts ps zs ≡ Some (hs, r) → Agrees ts ps hs
done_agrees [] [] zs hs r is =
    subst (λ (q : List Header × List ℕ). Agrees [] [] q.0) (same_read is) record { tagged = refl; fields = refl }
done_agrees [] (p ∷ ps) zs hs r is = absurd (cc is)
done_agrees (t ∷ ts) ps zs hs r is = absurd (cc is)

others_agree : (ends : Bool) (above : List LayerTree) (place : ℕ) (ts : List ℕ) (ps : List (Option ℕ)) (zs : List ℕ)
    (hs : List Header) (r : List ℕ) →
    (if ends then done ts ps else dealing above place ts ps) zs ≡ Some (hs, r) →
    (dealing above place ts ps zs ≡ Some (hs, r) → Agrees ts ps hs) → Agrees ts ps hs
others_agree true above place ts ps zs hs r is more = done_agrees ts ps zs hs r is
others_agree false above place ts ps zs hs r is more = more is

tag_agrees : (o : Option HeaderTree) (above : List LayerTree) (place t : ℕ) (ts : List ℕ) (ps : List (Option ℕ))
    (zs : List ℕ) (hs : List Header) (r : List ℕ) →
    ((rest : List (Option ℕ)) (u : List ℕ) (others : List Header) (v : List ℕ) →
    dealing above (suc place) ts rest u ≡ Some (others, v) → Agrees ts rest others) →
    (header_after o place t ts ps >>= with_above above (suc place)) zs ≡ Some (hs, r) → Agrees (t ∷ ts) ps hs
tag_agrees None above place t ts ps zs hs r more is = absurd (cc is)
tag_agrees (Some d) above place t ts ps zs hs r more is =
    through _ (header_after (Some d) place t ts ps zs) _ is (λ (q, s) one is_s.
    through _ (fields d.fields ps zs) _ one (λ ((own, rest), u) reads is_u.
    through _ ((if d.ends then done ts rest else dealing above (suc place) ts rest) u) _
    (subst (λ (z : After × List ℕ). with_above above (suc place) z.0 z.1 ≡ Some (hs, r)) (sym (same_read is_u)) is_s)
    (λ (others, v) follow is_v.
    let following = others_agree d.ends above (suc place) ts rest u others v follow (more rest u others v) in
    subst (λ (z : List Header × List ℕ). Agrees (t ∷ ts) ps z.0) (same_read is_v)
    record {
      tagged = ap (λ us. t ∷ us) following.tagged;
      fields = fields_agree d.fields ps zs own rest u reads (all_fields others) ∙ following.fields;
    })))

pub dealing_agrees : (layers : List LayerTree) (place : ℕ) (ts : List ℕ) (ps : List (Option ℕ)) (zs : List ℕ)
    (hs : List Header) (r : List ℕ) → dealing layers place ts ps zs ≡ Some (hs, r) → Agrees ts ps hs
dealing_agrees [] place ts ps zs hs r is = done_agrees ts ps zs hs r is
dealing_agrees (layer ∷ above) place [] ps zs hs r is = absurd (cc is)
dealing_agrees (layer ∷ above) place (t ∷ ts) ps zs hs r is =
    tag_agrees (header_of_tag layer t) above place t ts ps zs hs r
    (λ rest u others v. dealing_agrees above (suc place) ts rest u others v) is
