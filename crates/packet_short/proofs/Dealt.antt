-- Headers that are read one after the other are those that are dealt out when all fields are read.
use Rattle.std.proofs.Common.{◌≡◌, ℕ, zero, suc, Bool, true, false, List, [], ◌∷◌, Option, Some, None, refl, sym, ap}
use Rattle.std.proofs.Common.{◌∙◌, arith, length, take, drop}
use Rattle.std.specs.Prelude.{nat_le, option_and_then, option_map, if◌then◌else◌}
use Rattle.std.proofs.lemmas.Bool.{leb-true, le-leb}
use Rattle.msg_core.specs.declared.message.Header.{Header}
use Rattle.layer_mean.specs.Headers.{header_of_tag}
use Rattle.layer_mean.specs.Tree.{HeaderTree, LayerTree}
use Rattle.stack_mean.specs.Plan.{Plan}
use Rattle.packet_full.specs.Form.{form_of}
use Rattle.packet_mean.specs.Reading.{Reader, ◌>>=◌, value_reader, option_reader, first, headers, planned_fields, dealt}
use Rattle.packet_mean.specs.Reading.{whole}
use Rattle.packet_short.specs.Dealing.{field, fields, done, dealing}

-- all planned fields, and what is made of them
abbrev made : {A : Type 0} → (List ℕ → Option A) → List (Option ℕ) → Reader A
made f ps = do
  ns ← planned_fields ps
  option_reader (f ns)

-- planned fields are read one by one
one_planned : (p : Option ℕ) (ps : List (Option ℕ)) (bytes : List ℕ) →
    planned_fields (p ∷ ps) bytes ≡ (field p >>= λ n. planned_fields ps >>= λ more. value_reader (n ∷ more)) bytes
one_planned (Some c) ps bytes = refl
one_planned None ps bytes = refl

-- the first fields, if there are enough
abbrev if_some : Bool → List ℕ → List ℕ → Option (List ℕ × List ℕ)
if_some le own following = if le then Some (own, following) else None

abbrev more_fields : ℕ → List ℕ × List ℕ → List ℕ × List ℕ
more_fields n q = (n ∷ q.0, q.1)

first_by : (le le' : Bool) (n : ℕ) (own following : List ℕ) → le ≡ le' →
    if_some le (n ∷ own) following ≡ option_map (more_fields n) (if_some le' own following)
first_by true le' n own following is = rw (← is) refl
first_by false le' n own following is = rw (← is) refl

same_le : (a b : ℕ) (le le' : Bool) → nat_le (suc a) (suc b) ≡ le → nat_le a b ≡ le' → le ≡ le'
same_le a b true true h i = refl
same_le a b false false h i = refl
same_le a b true false h i = let less = leb-true (suc a) (suc b) h in let clash = sym i ∙ le-leb a b (omega arith) in
    absurd (cc clash)
same_le a b false true h i = let less = leb-true a b i in let clash = sym h ∙ le-leb (suc a) (suc b) (omega arith) in
    absurd (cc clash)

first_more : (k n : ℕ) (ns : List ℕ) → first (suc k) (n ∷ ns) ≡ option_map (more_fields n) (first k ns)
first_more k n ns =
    first_by (nat_le (suc k) (suc (length ns))) (nat_le k (length ns)) n (take k ns) (drop k ns)
    (same_le k (length ns) _ _ refl refl)

first_none : (ns : List ℕ) → first 0 ns ≡ Some ([], ns)
first_none ns = rw (le-leb 0 (length ns) (omega arith)) refl

not_le : (k : ℕ) (le : Bool) → nat_le (suc k) 0 ≡ le → le ≡ false
not_le k true is = let less = leb-true (suc k) 0 is in absurd (omega arith)
not_le k false is = refl

none_first : (k : ℕ) → first (suc k) [] ≡ None
none_first k = ap (λ le. if_some le [] []) (not_le k (nat_le (suc k) 0) refl)

-- two readers that take the same
abbrev Same : {A : Type 0} → Reader A → Reader A → Type 0
Same r s = (bytes : List ℕ) → r bytes ≡ s bytes

after : {A B : Type 0} (r : Reader A) (f g : A → Reader B) → ((x : A) → Same (f x) (g x)) → Same (r >>= f) (r >>= g)
after {A = A} r f g same bytes = go (r bytes)
  where
    go : (o : Option (A × List ℕ)) → option_and_then (λ read. f read.0 read.1) o ≡
        option_and_then (λ read. g read.0 read.1) o
    go None = refl
    go (Some (x, rest)) = same x rest

in_turn : {A B C : Type 0} (r : Reader A) (f : A → Reader B) (g : B → Reader C) →
    Same (r >>= λ x. f x >>= g) ((r >>= f) >>= g)
in_turn {A = A} r f g bytes = go (r bytes)
  where
    go : (o : Option (A × List ℕ)) → option_and_then (λ read. (f read.0 >>= g) read.1) o
        ≡ option_and_then (λ read. g read.0 read.1) (option_and_then (λ read. f read.0 read.1) o)
    go None = refl
    go (Some (x, rest)) = refl

-- what is made of the first n and of the others
abbrev after_first : {A : Type 0} → ℕ → (List ℕ → List ℕ → Option A) → List ℕ → Option A
after_first k f ns = option_and_then (λ q. f q.0 q.1) (first k ns)

map_then : {A B C : Type 0} (g : B → Option C) (h : A → B) (o : Option A) → option_and_then g (option_map h o) ≡
    option_and_then (λ x. g (h x)) o
map_then g h None = refl
map_then g h (Some x) = refl

after_more : {A : Type 0} (k : ℕ) (f : List ℕ → List ℕ → Option A) (n : ℕ) (ns : List ℕ) →
    after_first (suc k) f (n ∷ ns) ≡ after_first k (λ own. f (n ∷ own)) ns
after_more k f n ns = ap (option_and_then (λ q. f q.0 q.1)) (first_more k n ns) ∙
    map_then (λ q. f q.0 q.1) (more_fields n) (first k ns)

-- the first n fields are read before the others
split : {A : Type 0} (k : ℕ) (ps : List (Option ℕ)) (f : List ℕ → List ℕ → Option A) →
    Same (made (λ ns. option_and_then (λ q. f q.0 q.1) (first k ns)) ps)
    (fields k ps >>= λ (own, rest). made (f own) rest)
split zero ps f bytes =
    after (planned_fields ps) _ _
    (λ ns rest. ap (λ o. option_reader (option_and_then (λ q. f q.0 q.1) o) rest) (first_none ns)) bytes
split (suc k) [] f bytes = ap (λ o. option_reader (option_and_then (λ q. f q.0 q.1) o) bytes) (none_first k)
split (suc k) (p ∷ ps) f bytes =
    ap (option_and_then (λ read. option_reader (after_first (suc k) f read.0) read.1)) (one_planned p ps bytes)
    ∙ sym (in_turn (field p) (λ n. planned_fields ps >>= λ more. value_reader (n ∷ more))
    (λ ns. option_reader (after_first (suc k) f ns))
    bytes)
    ∙ after (field p) _ _ (λ n rest.
    sym (in_turn (planned_fields ps) (λ more. value_reader (n ∷ more)) (λ ns. option_reader (after_first (suc k) f ns))
    rest)
    ∙ after (planned_fields ps) _ _ (λ more following. ap (λ o. option_reader o following) (after_more k f n more)) rest
    ∙ split k ps (λ own others. f (n ∷ own) others) rest
    ∙ in_turn (fields k ps) (λ q. value_reader (n ∷ q.0, q.1)) (λ q. made (f q.0) q.1) rest) bytes
    ∙ in_turn (field p) (λ n. fields k ps >>= λ q. value_reader (n ∷ q.0, q.1)) (λ q. made (f q.0) q.1) bytes

-- nothing is made of any fields
made_none : {A : Type 0} (ps : List (Option ℕ)) (bytes : List ℕ) → made {A = A} (λ ns. None) ps bytes ≡ None
made_none {A = A} ps bytes = go (planned_fields ps bytes)
  where
    go : (o : Option (List ℕ × List ℕ)) → option_and_then (λ read. option_reader {A = A} None read.1) o ≡ None
    go None = refl
    go (Some (ns, rest)) = refl

-- what is left of the fields is to be nothing
over : (ps : List (Option ℕ)) → Same (made (λ ns. whole (Some ([], ns))) ps) (done [] ps)
over [] bytes = refl
over (p ∷ ps) bytes = ap (option_and_then (λ read. option_reader (whole (Some ([], read.0))) read.1))
    (one_planned p ps bytes) ∙
    go (field p bytes)
  where
    inner : (n : ℕ) (o : Option (List ℕ × List ℕ)) →
        option_and_then (λ read. option_reader (whole {A = List Header} (Some ([], read.0))) read.1)
        (option_and_then (λ read. value_reader (n ∷ read.0) read.1) o) ≡ None
    inner n None = refl
    inner n (Some (ns, rest)) = refl

    go : (o : Option (ℕ × List ℕ)) →
        option_and_then (λ read. option_reader (whole {A = List Header} (Some ([], read.0))) read.1)
        (option_and_then (λ read. (planned_fields ps >>= λ more. value_reader (read.0 ∷ more)) read.1) o) ≡ None
    go None = refl
    go (Some (n, rest)) = inner n (planned_fields ps rest)

-- one thing is put before what is made
first_read : {A B : Type 0} (g : A → B) (f : List ℕ → Option A) (ps : List (Option ℕ)) →
    Same (made (λ ns. option_map g (f ns)) ps) (made f ps >>= λ x. value_reader (g x))
first_read {A = A} {B = B} g f ps bytes = go (planned_fields ps bytes)
  where
    inner : (o : Option A) (rest : List ℕ) → option_reader (option_map g o) rest ≡
        option_and_then (λ read. value_reader (g read.0) read.1) (option_reader o rest)
    inner None rest = refl
    inner (Some x) rest = refl

    go : (o : Option (List ℕ × List ℕ)) →
        option_and_then (λ read. option_reader (option_map g (f read.0)) read.1) o
        ≡ option_and_then (λ read. value_reader (g read.0) read.1)
        (option_and_then (λ read. option_reader (f read.0) read.1) o)
    go None = refl
    go (Some (ns, rest)) = inner (f ns) rest

whole_more : (h : Header) (o : Option (List Header × List ℕ)) →
    whole (option_and_then (λ read. value_reader (h ∷ read.0) read.1) o) ≡ option_map (λ hs. h ∷ hs) (whole o)
whole_more h None = refl
whole_more h (Some (hs, [])) = refl
whole_more h (Some (hs, n ∷ ns)) = refl

-- the fields of the first header, and the headers after it
whole_first : (h : List ℕ → Header) (others : Reader (List Header)) (o : Option (List ℕ × List ℕ)) →
    whole (option_and_then (λ read. (others >>= λ hs. value_reader (h read.0 ∷ hs)) read.1) o)
    ≡ option_and_then (λ q. option_map (λ hs. h q.0 ∷ hs) (whole (others q.1))) o
whole_first h others None = refl
whole_first h others (Some (own, rest)) = whole_more (h own) (others rest)

-- what is after the first header
abbrev above_dealt : Bool → List LayerTree → ℕ → List ℕ → Reader (List Header)
above_dealt ends above place ts = if ends then dealt [] place ts else dealt above place ts

abbrev Once : List LayerTree → ℕ → List ℕ → Type 0
Once layers place ts = (ps : List (Option ℕ)) →
    Same (made (λ ns. whole (dealt layers place ts ns)) ps) (dealing layers place ts ps)

none_once : (place : ℕ) (ts : List ℕ) → Once [] place ts
none_once place [] ps bytes = over ps bytes
none_once place (t ∷ ts) ps bytes = made_none ps bytes

others_once : (ends : Bool) (above : List LayerTree) (place : ℕ) (ts : List ℕ) → Once above place ts →
    (ps : List (Option ℕ)) →
    Same (made (λ ns. whole (above_dealt ends above place ts ns)) ps)
    (if ends then done ts ps else dealing above place ts ps)
others_once true above place ts more ps bytes = none_once place ts ps bytes
others_once false above place ts more ps bytes = more ps bytes

-- the headers after a tag
abbrev after_tag : Option HeaderTree → List LayerTree → (place t : ℕ) → List ℕ → Reader (List Header)
after_tag o above place t ts = do
  d ← option_reader o
  fields ← first d.fields
  others ← above_dealt d.ends above (suc place) ts
  value_reader (record { layer = place; tag = t; fields = fields } ∷ others)

abbrev header_after : Option HeaderTree → (place t : ℕ) → List ℕ → List (Option ℕ) →
    Reader ((Header × Bool) × (List ℕ × List (Option ℕ)))
header_after o place t ts ps = do
  form ← option_reader (option_map form_of o)
  (own, rest) ← fields form.fields ps
  value_reader ((record { layer = place; tag = t; fields = own }, form.ends), (ts, rest))

abbrev with_above : List LayerTree → ℕ → (Header × Bool) × (List ℕ × List (Option ℕ)) → Reader (List Header)
with_above above place q = do
  others ← if q.0.1 then done q.1.0 q.1.1 else dealing above place q.1.0 q.1.1
  value_reader (q.0.0 ∷ others)

tag_once : (o : Option HeaderTree) (above : List LayerTree) (place t : ℕ) (ts : List ℕ) → Once above (suc place) ts →
    (ps : List (Option ℕ)) →
    Same (made (λ ns. whole (after_tag o above place t ts ns)) ps)
    (header_after o place t ts ps >>= with_above above (suc place))
tag_once None above place t ts more ps bytes = made_none ps bytes
tag_once (Some d) above place t ts more ps bytes =
    after (planned_fields ps) _ _
    (λ ns rest. ap (λ o. option_reader o rest)
    (whole_first own_header (above_dealt d.ends above (suc place) ts) (first d.fields ns))) bytes
    ∙ split d.fields ps (λ own following.
    option_map (λ hs. own_header own ∷ hs) (whole (above_dealt d.ends above (suc place) ts following))) bytes
    ∙ after (fields d.fields ps) _ _ (λ q rest.
    first_read (λ hs. own_header q.0 ∷ hs) (λ ns. whole (above_dealt d.ends above (suc place) ts ns)) q.1 rest
    ∙ ap (option_and_then (λ read. value_reader (own_header q.0 ∷ read.0) read.1))
    (others_once d.ends above (suc place) ts more q.1 rest)) bytes
    ∙ in_turn (fields d.fields ps) (λ q. value_reader ((own_header q.0, d.ends), (ts, q.1)))
    (with_above above (suc place))
    bytes
  where
    own_header : List ℕ → Header
    own_header own = record { layer = place; tag = t; fields = own }

-- all headers
dealt_once : (layers : List LayerTree) (place : ℕ) (ts : List ℕ) → Once layers place ts
dealt_once [] place ts ps bytes = none_once place ts ps bytes
dealt_once (layer ∷ above) place [] ps bytes = made_none ps bytes
dealt_once (layer ∷ above) place (t ∷ ts) ps bytes =
    tag_once (header_of_tag layer t) above place t ts (dealt_once above (suc place) ts) ps bytes

-- the headers of a short datagram, read one after the other
pub dealt_at_once : (stack : List LayerTree) (plan : Plan) (bytes : List ℕ) →
    headers stack (Some plan) bytes ≡ dealing stack 0 plan.tags plan.fields bytes
dealt_at_once stack plan bytes = dealt_once stack 0 plan.tags plan.fields bytes
