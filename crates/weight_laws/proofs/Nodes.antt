-- The nodes of an orderly stack are closed under its arrows.
use Rattle.std.proofs.Common.{◌≡◌, ℕ, zero, suc, ◌+◌, ◌-◌, ◌*◌, ◌≤◌, ◌<◌, Bool, true, false, ◌&&◌, ◌==◌, nat_le, List}
use Rattle.std.proofs.Common.{[], ◌∷◌, ◌++◌, length, flat_map, Option, Some, None, is_some, refl, sym, ap, ◌∙◌, subst}
use Rattle.std.proofs.Common.{◌⊎◌, inl, inr, ⊎_elim, arith, rules, slice_index_or, eqb-true, leb-true}
use Rattle.std.specs.Prelude.{if◌then◌else◌, slice_get}
use Rattle.std.specs.List.{find, range_with_len, AllByRecursion}
use Rattle.std.proofs.lemmas.Bool.{and_parts}
use denote.Enum.Bare.{sameb, same_true}
use Rattle.layer_words.specs.declared.events.Dir.{Dir}
use Rattle.layer_words.specs.declared.events.Dir.TheVariants.{Up, Down}
use Rattle.layer_words.specs.contracts.events.Dir as dir_row
use Rattle.layer_words.specs.declared.events.Kind.{Kind}
use Rattle.layer_words.specs.declared.events.Kind.TheVariants as kinds_of
use Rattle.layer_words.specs.contracts.events.Kind as kind_row
use Rattle.layer_words.specs.Spelling.{kinds}
use Rattle.layer_mean.specs.Event.{carries}
use Rattle.layer_mean.specs.Headers.{header_none, header_of_tag}
use Rattle.layer_mean.specs.Tree.{ContentTree, EmissionTree, StatementTree, bind, assign, assign_square, push, take}
use Rattle.layer_mean.specs.Tree.{branch, each, emit, StatementTrees, none, more, HandlerTree, LayerTree, no_layer}
use Rattle.layer_mean.specs.Visit.{is_for}
use Rattle.layer_mean.specs.Queue.{beyond, is_place, layer_at}
use Rattle.stack_mean.specs.Emissions.{Repeated, emissions, emissions_in}
use Rattle.stack_mean.specs.Graph.{Node, nodes, nodes_of, tags_of, tags_for, header_layer, keeps_headers, goes_down}
use Rattle.stack_mean.specs.Graph.{emission_tags, Arrow, arrow_to, emission_arrow, passing, entered_handler}
use Rattle.stack_mean.specs.Graph.{handler_arrows, arrows, following}
use Rattle.weight_laws.specs.Nodes.{can_have, IsNode}
use Rattle.weight_laws.specs.Orderly.{IsOrderlyContent, IsOrderlyStatement, IsOrderlyBlock, IsOrderlyHandler}
use Rattle.weight_laws.specs.Orderly.{IsOrderlyLayer, IsOrderly}
use Rattle.weight_laws.proofs.Members.{In, in_either, in_left, in_right, in_map, in_flat_map, from_flat_map, from_map}

-- ranges
here_or_more : (a x : ℕ) → a ≤ x → (x ≡ a) ⊎ (a + 1 ≤ x)
here_or_more a x h = grind arith

in_range : (a n x : ℕ) → a ≤ x → x < a + n → In x (range_with_len a n)
in_range a zero x low high = absurd (omega arith)
in_range a (suc n) x low high = ⊎_elim (λ e. inl e) (λ more. inr (in_range (a + 1) n x more (omega arith)))
    (here_or_more a x low)

pub range_in : (a n x : ℕ) → In x (range_with_len a n) → x < a + n
range_in a zero x h = absurd h
range_in a (suc n) x (inl e) = omega arith
range_in a (suc n) x (inr h) = omega (arith, range_in (a + 1) n x h)

-- a tag is declared where it is one of the layer's
pub there_below : {A : Type 0} (xs : List A) (i : ℕ) → is_some (slice_get xs i) ≡ true → i < length xs
there_below [] i h = absurd (cc h)
there_below (x ∷ xs) zero h = omega arith
there_below (x ∷ xs) (suc i) h = omega (arith, there_below xs i h)

below_there : {A : Type 0} (xs : List A) (i : ℕ) → i < length xs → is_some (slice_get xs i) ≡ true
below_there [] i h = absurd (omega arith)
below_there (x ∷ xs) zero h = refl
below_there (x ∷ xs) (suc i) h = below_there xs i (omega arith)

pub tag_in : (layer : LayerTree) (tag : ℕ) → is_some (header_of_tag layer tag) ≡ true → In tag (tags_of layer)
tag_in layer tag h = in_range 0 (length layer.headers + 1) tag (omega arith)
    (omega (arith, there_below (header_none ∷ layer.headers) tag h))

tag_there : (layer : LayerTree) (tag : ℕ) → In tag (tags_of layer) → is_some (header_of_tag layer tag) ≡ true
tag_there layer tag h = below_there (header_none ∷ layer.headers) tag
    (omega (arith, range_in 0 (length layer.headers + 1) tag h))

pub is_zero : (n : ℕ) → (n == 0) ≡ true → n ≡ 0
is_zero n h = eqb-true n 0 h

-- what can be had is listed
pub had_in : (kind : Kind) (layer : LayerTree) (tag : ℕ) → can_have kind layer tag ≡ true → In tag (tags_for kind layer)
had_in kind layer tag h = go (carries kind) h where
  go : (b : Bool) → (if b then is_some (header_of_tag layer tag) else tag == 0) ≡ true →
      In tag (if b then tags_of layer else 0 ∷ [])
  go true k = tag_in layer tag k
  go false k = inl (is_zero tag k)

pub in_had : (kind : Kind) (layer : LayerTree) (tag : ℕ) → In tag (tags_for kind layer) → can_have kind layer tag ≡ true
in_had kind layer tag h = go (carries kind) h where
  go : (b : Bool) → In tag (if b then tags_of layer else 0 ∷ []) →
      (if b then is_some (header_of_tag layer tag) else tag == 0) ≡ true
  go true k = tag_there layer tag k
  go false (inl e) = rw e refl
  go false (inr k) = absurd k

-- tag 0 can always be had
pub zero_had : (kind : Kind) (layer : LayerTree) → can_have kind layer 0 ≡ true
zero_had kind layer = go (carries kind) where
  go : (b : Bool) → (if b then is_some (header_of_tag layer 0) else 0 == 0) ≡ true
  go true = refl
  go false = refl

-- each kind is one of the kinds
kind_in : (kind : Kind) → (name : List ℕ) × In (name, kind) kinds
unfolding kinds
kind_in kinds_of.Cast = (_, inl refl)
kind_in kinds_of.Send = (_, inr (inl refl))
kind_in kinds_of.Timer = (_, inr (inr (inl refl)))
kind_in kinds_of.Suspect = (_, inr (inr (inr (inl refl))))
kind_in kinds_of.Stable = (_, inr (inr (inr (inr (inl refl)))))
kind_in kinds_of.Ack = (_, inr (inr (inr (inr (inr (inl refl))))))
kind_in kinds_of.Elect = (_, inr (inr (inr (inr (inr (inr (inl refl)))))))
kind_in kinds_of.Block = (_, inr (inr (inr (inr (inr (inr (inr (inl refl))))))))
kind_in kinds_of.BlockOk = (_, inr (inr (inr (inr (inr (inr (inr (inr (inl refl)))))))))
kind_in kinds_of.Flushed = (_, inr (inr (inr (inr (inr (inr (inr (inr (inr (inl refl))))))))))
kind_in kinds_of.View = (_, inr (inr (inr (inr (inr (inr (inr (inr (inr (inr (inl refl)))))))))))
kind_in kinds_of.Leave = (_, inr (inr (inr (inr (inr (inr (inr (inr (inr (inr (inr (inl refl))))))))))))

-- each node is listed
abbrev pub at_kind : List LayerTree → ℕ → (List ℕ × Kind) → List Node
at_kind stack at kind = nodes_of stack at Up kind.1 ++ nodes_of stack at Down kind.1

abbrev pub at_place : List LayerTree → ℕ → List Node
at_place stack at = flat_map (at_kind stack at) kinds

one_way : (stack : List LayerTree) (at : ℕ) (dir : Dir) (name : List ℕ) (kind : Kind) (tag : ℕ) →
    In tag (tags_for kind (header_layer stack dir at)) →
    In (record { at = at; dir = dir; kind = kind; tag = tag }) (at_kind stack at (name, kind))
one_way stack at Up name kind tag h =
    in_left _ (nodes_of stack at Up kind) (nodes_of stack at Down kind)
    (in_map (λ t. record { at = at; dir = Up; kind = kind; tag = t }) tag (tags_for kind (header_layer stack Up at)) h)
one_way stack at Down name kind tag h =
    in_right _ (nodes_of stack at Up kind) (nodes_of stack at Down kind)
    (in_map (λ t. record { at = at; dir = Down; kind = kind; tag = t }) tag (tags_for kind (header_layer stack Down at))
    h)

pub listed : (stack : List LayerTree) (n : Node) → IsNode stack n → In n (nodes stack)
listed stack n is =
    let named = kind_in n.kind in
    in_flat_map (at_place stack) n n.at (range_with_len 0 (length stack + 2))
    (in_range 0 (length stack + 2) n.at (omega arith) (omega (arith, is.at)))
    (in_flat_map (at_kind stack n.at) n (named.0, n.kind) kinds named.1
    (one_way stack n.at n.dir named.0 n.kind n.tag (had_in n.kind (header_layer stack n.dir n.at) n.tag is.tag)))

-- the emissions of an orderly block are orderly
abbrev IsFine : LayerTree → Repeated → Type 0
IsFine layer r = IsOrderlyContent layer r.emission.direction r.emission.kind r.emission.content

mutual
  emission_fine : (layer : LayerTree) (down : Bool) (x : StatementTree) (times : ℕ) → IsOrderlyStatement layer down x →
      (r : Repeated) → In r (emissions times x) → IsFine layer r
  emission_fine layer down (bind k e) times h r m = absurd m
  emission_fine layer down (assign c i e) times h r m = absurd m
  emission_fine layer down (assign_square c row column e) times h r m = absurd m
  emission_fine layer down (push c i capacity row otherwise) times h r m =
      emissions_fine layer down otherwise times h r m
  emission_fine layer down (take c i taken block otherwise) times h r m =
      ⊎_elim (emissions_fine layer down block times h.1 r) (emissions_fine layer down otherwise times h.2 r)
      (in_either r (emissions_in times block) (emissions_in times otherwise) m)
  emission_fine layer down (branch likely e block otherwise) times h r m =
      ⊎_elim (emissions_fine layer down block times h.0 r) (emissions_fine layer down otherwise times h.1 r)
      (in_either r (emissions_in times block) (emissions_in times otherwise) m)
  emission_fine layer down (each k below most block) times h r m = emissions_fine layer down block (times * most) h r m
  emission_fine layer down (emit e) times h r (inl is) = rw is h
  emission_fine layer down (emit e) times h r (inr m) = absurd m

  emissions_fine : (layer : LayerTree) (down : Bool) (xs : StatementTrees) (times : ℕ) → IsOrderlyBlock layer down xs →
      (r : Repeated) → In r (emissions_in times xs) → IsFine layer r
  emissions_fine layer down none times h r m = absurd m
  emissions_fine layer down (more x rest) times h r m =
      ⊎_elim (emission_fine layer down x times h.0 r) (emissions_fine layer down rest times h.1 r)
      (in_either r (emissions times x) (emissions_in times rest) m)

-- the layer at a place of an orderly stack, and the handler that is found in one
pub orderly_at : (stack : List LayerTree) (k : ℕ) → IsOrderly stack → IsOrderlyLayer (slice_index_or stack k no_layer)
orderly_at [] k h = tt
orderly_at (layer ∷ above) zero h = h.0
orderly_at (layer ∷ above) (suc k) h = orderly_at above k h.1

pub found : {A : Type 0} (P : A → Type 0) (p : A → Bool) (xs : List A) (x : A) → AllByRecursion P xs →
    find p xs ≡ Some x →
    P x × (p x ≡ true)
found P p [] x h e = absurd (cc e)
found P p (y ∷ ys) x h e = go (p y) refl (found P p ys x h.1) e where
  go : (b : Bool) → p y ≡ b → (find p ys ≡ Some x → P x × (p x ≡ true)) → (if b then Some y else find p ys) ≡ Some x →
      P x × (p x ≡ true)
  go true is later here = let same : y ≡ x = cc in (subst P same h.0, ap p (sym same) ∙ is)
  go false is later there = later there

-- the handler for an event is of its direction and kind
pub for_these : (dir : Dir) (kind : Kind) (tag : ℕ) (h : HandlerTree) → is_for dir kind tag h ≡ true →
    (h.direction ≡ dir) × (h.kind ≡ kind)
for_these dir kind tag h is =
    let outer = and_parts (sameb dir_row.the_type h.direction dir && sameb kind_row.the_type h.kind kind) (h.tag == tag)
    is in
    let inner = and_parts (sameb dir_row.the_type h.direction dir) (sameb kind_row.the_type h.kind kind) outer.0 in (
      same_true dir_row.the_type (search rules) h.direction dir inner.0,
      same_true kind_row.the_type (search rules) h.kind kind inner.1,
    )

-- where an emission of an orderly layer leads is a node
sent_up : (stack : List LayerTree) (n : Node) (c : ContentTree) (kind : Kind) (tag : ℕ) → IsNode stack n →
    carries kind ≡ true →
    (b : Bool) → (goes_down n.dir n.kind && keeps_headers c.message) ≡ b →
    In tag (if b then n.tag ∷ [] else tags_of (layer_at stack (n.at + 1))) →
    can_have kind (layer_at stack (n.at + 1)) tag ≡ true
sent_up stack n c kind tag is carried false same m = rw carried (tag_there (layer_at stack (n.at + 1)) tag m)
sent_up stack n c kind tag is carried true same (inr m) = absurd m
sent_up stack n c kind tag is carried true same (inl e) =
    rw (carried, e) (from_above n.dir n.kind n.tag (and_parts (goes_down n.dir n.kind) (keeps_headers c.message) same).0
    is.tag) where
      carrying : (b : Bool) (layer : LayerTree) (t : ℕ) → b ≡ true →
          (if b then is_some (header_of_tag layer t) else t == 0) ≡ true →
          is_some (header_of_tag layer t) ≡ true
      carrying true layer t down h = h
      carrying false layer t down h = absurd (cc down)

      from_above : (dir : Dir) (k : Kind) (t : ℕ) → goes_down dir k ≡ true →
          can_have k (header_layer stack dir n.at) t ≡ true →
          is_some (header_of_tag (layer_at stack (n.at + 1)) t) ≡ true
      from_above Up k t down h = absurd (cc down)
      from_above Down k t down h = carrying (carries k) (layer_at stack (n.at + 1)) t down h

below_place : (stack : List LayerTree) (at : ℕ) → 1 ≤ at → layer_at stack (at - 1 + 1) ≡ layer_at stack at
below_place stack at h = ap (layer_at stack) (omega arith)

next_tag : (stack : List LayerTree) (n : Node) (e : EmissionTree) (dir : Dir) (kind : Kind)
    (content : Option ContentTree) (tag : ℕ) →
    IsNode stack n → 1 ≤ n.at → IsOrderlyContent (layer_at stack n.at) dir kind content →
    In tag (emission_tags stack n (record e { direction = dir; kind = kind; content = content }) content) →
    can_have kind (header_layer stack dir (beyond dir n.at)) tag ≡ true
next_tag stack n e dir kind None tag is low fine (inl same) =
    rw same (zero_had kind (header_layer stack dir (beyond dir n.at)))
next_tag stack n e dir kind None tag is low fine (inr m) = absurd m
next_tag stack n e Down kind (Some c) tag is low fine (inl same) =
    rw (fine.0, same, below_place stack n.at low) (cc)
next_tag stack n e Down kind (Some c) tag is low fine (inr m) = absurd m
next_tag stack n e Up kind (Some c) tag is low fine m =
    sent_up stack n c kind tag is fine (goes_down n.dir n.kind && keeps_headers c.message) refl m

next_at : (places at : ℕ) (dir : Dir) → 1 ≤ at → at ≤ places → beyond dir at ≤ places + 1
next_at places at Up low high = omega arith
next_at places at Down low high = omega arith

placed : (places at : ℕ) → is_place places at ≡ true → (1 ≤ at) × (at ≤ places)
placed places at h =
    let parts = and_parts (nat_le 1 at) (nat_le at places) h in (leb-true 1 at parts.0, leb-true at places parts.1)

emission_next : (stack : List LayerTree) (n : Node) (r : Repeated) → IsNode stack n →
    (1 ≤ n.at) × (n.at ≤ length stack) →
    IsFine (layer_at stack n.at) r → (t : Node) → In t (emission_arrow stack n r).targets → IsNode stack t
emission_next stack n r is here fine t m =
    from_map (λ tag. record {
      at = beyond r.emission.direction n.at;
      dir = r.emission.direction;
      kind =
          r.emission.kind;
      tag = tag;
    }) t
    (emission_tags stack n r.emission r.emission.content)
    (λ tag k same. rw same record {
      at = next_at (length stack) n.at r.emission.direction here.0 here.1;
      tag = next_tag stack n r.emission r.emission.direction r.emission.kind r.emission.content tag is here.0 fine k;
    }) m

-- so is where an event leads that a layer has no handler for
one_passed : (stack : List LayerTree) (n : Node) (dir : Dir) (tags : List ℕ) → (1 ≤ n.at) × (n.at ≤ length stack) →
    ((tag : ℕ) → In tag tags → can_have n.kind (header_layer stack dir (beyond dir n.at)) tag ≡ true) →
    (a : Arrow) → In a (arrow_to 1 n dir n.kind tags ∷ []) → (t : Node) → In t a.targets → IsNode stack t
one_passed stack n dir tags here had a (inr k) t m = absurd k
one_passed stack n dir tags here had a (inl e) t m =
    from_map (λ tag. record { at = beyond dir n.at; dir = dir; kind = n.kind; tag = tag }) t tags
    (λ tag k same. rw same record { at = next_at (length stack) n.at dir here.0 here.1; tag = had tag k }) (rw e at m)

pass_next : (stack : List LayerTree) (n : Node) (dir : Dir) → (1 ≤ n.at) × (n.at ≤ length stack) →
    (a : Arrow) → In a (passing stack n dir) → (t : Node) → In t a.targets → IsNode stack t
pass_next stack n Down here a k t m = one_passed stack n Down (0 ∷ []) here zero_alone a k t m where
  zero_alone : (tag : ℕ) → In tag (0 ∷ []) → can_have n.kind (header_layer stack Down (n.at - 1)) tag ≡ true
  zero_alone tag (inl e) = rw e (zero_had n.kind (header_layer stack Down (n.at - 1)))
  zero_alone tag (inr k) = absurd k
pass_next stack n Up here a k t m = go (n.tag == 0) k where
  go : (b : Bool) → In a (if b then arrow_to 1 n Up n.kind (tags_for n.kind (layer_at stack (n.at + 1))) ∷ [] else []) →
      IsNode stack t
  go true j = one_passed stack n Up (tags_for n.kind (layer_at stack (n.at + 1))) here
      (λ tag i. in_had n.kind (layer_at stack (n.at + 1)) tag i) a j t m
  go false j = absurd j

arrow_next : (stack : List LayerTree) (n : Node) → IsOrderly stack → IsNode stack n → (a : Arrow) →
    In a (arrows stack n) →
    (t : Node) → In t a.targets → IsNode stack t
arrow_next stack n orderly is a k t m = at_place_or_edge (is_place (length stack) n.at) refl k where
  layer : LayerTree
  layer = layer_at stack n.at

  entering : (1 ≤ n.at) × (n.at ≤ length stack) → (o : Option HandlerTree) → entered_handler stack n ≡ o →
      In a (handler_arrows stack n o) → IsNode stack t
  entering here None same j = pass_next stack n n.dir here a j t m
  entering here (Some h) same j =
      let chosen = found (IsOrderlyHandler (layer_at stack n.at)) _ (layer_at stack n.at).handlers h
      (orderly_at stack (n.at - 1) orderly) same in
      from_map (emission_arrow stack n) a (emissions_in 1 h.block)
      (λ r i e. emission_next stack n r is here
      (emissions_fine (layer_at stack n.at) (goes_down h.direction h.kind) h.block 1 chosen.0 r i) t
      (subst (λ b. In t b.targets) e m)) j

  at_place_or_edge : (b : Bool) → is_place (length stack) n.at ≡ b →
      In a (if b then handler_arrows stack n (entered_handler stack n) else []) → IsNode stack t
  at_place_or_edge true same j = entering (placed (length stack) n.at same) (entered_handler stack n) refl j
  at_place_or_edge false same j = absurd j

pub next_node : (stack : List LayerTree) → IsOrderly stack → (n t : Node) → IsNode stack n → In t (following stack n) →
    IsNode stack t
next_node stack orderly n t is m =
    from_flat_map (λ arrow. arrow.targets) t (arrows stack n) (λ a k j. arrow_next stack n orderly is a k t j) m
