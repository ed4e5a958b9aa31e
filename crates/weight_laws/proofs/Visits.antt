-- What a visit sends adds up to no more than the arrows of its node.
use Rattle.std.proofs.Common.{◌≡◌, ℕ, zero, suc, ◌+◌, ◌-◌, ◌*◌, ◌≤◌, max, Bool, true, false, ◌&&◌, ◌==◌, List, [], ◌∷◌}
use Rattle.std.proofs.Common.{◌++◌, map, length, Option, Some, None, is_some, option_map, option_to_list, slice_index}
use Rattle.std.proofs.Common.{slice_index_or, slice_set, refl, sym, ap, ◌∙◌, subst, le_trans, inl, inr, arith}
use Rattle.std.specs.Prelude.{if◌then◌else◌, nat_le}
use Rattle.std.specs.List.{fold, sum_by, AllByRecursion}
use Rattle.std.specs.Option.{option_map_or}
use Rattle.std.proofs.lemmas.Bool.{and_parts}
use Rattle.std.proofs.lemmas.List.Sums.{sum_by-cons}
use Rattle.msg_core.specs.Chain.{Content, plain, pushed, popped, first_of}
use Rattle.msg_core.specs.Parts as parts
use Rattle.msg_core.specs.Parts.{longest_body}
use Rattle.msg_core.specs.declared.message.Header.{Header}
use Rattle.layer_words.specs.declared.events.Dir.{Dir}
use Rattle.layer_words.specs.declared.events.Dir.TheVariants.{Up, Down}
use Rattle.layer_words.specs.declared.events.Kind.{Kind}
use Rattle.layer_mean.specs.declared.run.Event.{Event}
use Rattle.layer_mean.specs.declared.run.Row.{Row}
use Rattle.layer_mean.specs.Event.{carries, event_of}
use Rattle.layer_mean.specs.Headers.{header_of_tag}
use Rattle.layer_mean.specs.Tree.{Carried, MessageTree, message, nothing, held, cut, tail, join, ContentTree}
use Rattle.layer_mean.specs.Tree.{EmissionTree, TakenTree, Expected, always, common, rare, HandlerTree, LayerTree}
use Rattle.layer_mean.specs.State.{State}
use Rattle.layer_mean.specs.Value.{Scope, val, mval, is_true, message_in}
use Rattle.layer_mean.specs.Effect.{Outcome, usual, unusual, in_order, acts, with_slot, with_slots, with_message}
use Rattle.layer_mean.specs.Effect.{with_taken, header_of, sent_as, emitted_event, decides}
use Rattle.layer_mean.specs.Visit.{Met, following, met, is_for, handler_for, with_room, entered_scope, none_header}
use Rattle.layer_mean.specs.Visit.{Visited}
use Rattle.layer_mean.specs.Visit.{sent_on, unhandled_visit, expecting, handled_visit, step}
use Rattle.layer_mean.specs.Queue.{Task, beyond, layer_at, tasks_of}
use Rattle.stack_mean.specs.Emissions.{Repeated, emissions_in}
use Rattle.stack_mean.specs.Graph.{Node, tags_of, tags_for, header_layer, keeps_headers, goes_down, content_tags}
use Rattle.stack_mean.specs.Graph.{emission_tags, Arrow, arrow_to, emission_arrow, passing, popped_tag, entered_handler}
use Rattle.stack_mean.specs.Graph.{handler_arrows}
use Rattle.stack_mean.specs.Acceptance.{largest}
use Rattle.weight_laws.specs.Nodes.{can_have, front_tag, message_tag, node_of, task_node, IsKnown}
use Rattle.weight_laws.specs.Orderly.{KeepsMessage, IsOrderlyBlock, IsOrderlyHandler, IsOrderly}
use Rattle.weight_laws.specs.Costs.{after_arrows}
use Rattle.weight_laws.specs.Visits.{SendsFollowArrows}
use Rattle.weight_laws.proofs.Members.{In, in_map}
use Rattle.weight_laws.proofs.Nodes.{tag_in, had_in, is_zero, orderly_at, found, for_these}
use Rattle.weight_laws.proofs.Sends.{total_in_is, block_sends}

-- the largest of some numbers is at least each
pub largest_from : (a : ℕ) (ns : List ℕ) → fold max a ns ≡ max a (fold max 0 ns)
largest_from a [] = omega arith
largest_from a (n ∷ ns) = let one = largest_from (max a n) ns in let other = largest_from (max 0 n) ns in omega arith

pub at_most_largest : (n : ℕ) (ns : List ℕ) → In n ns → n ≤ largest ns
at_most_largest n [] h = absurd h
at_most_largest n (m ∷ ns) (inl e) = let first = largest_from (max 0 m) ns in omega arith
at_most_largest n (m ∷ ns) (inr h) =
    let first = largest_from (max 0 m) ns in let later = at_most_largest n ns h in omega arith

node_at_most : (f : Node → ℕ) (n : Node) (ns : List Node) → In n ns → f n ≤ largest (map f ns)
node_at_most f n ns h = at_most_largest (f n) (map f ns) (in_map f n ns h)

-- scopes: the first message keeps its front tag
abbrev first_message : Scope → Content
first_message l = slice_index_or l.messages 0 (plain [])

abbrev Holds : Node → Scope → Type 0
Holds n l = goes_down n.dir n.kind ≡ true → front_tag (first_message l).headers ≡ n.tag

set_other : (ms : List Content) (slot : ℕ) (m : Content) → 1 ≤ slot →
    slice_index_or (slice_set ms slot m) 0 (plain []) ≡ slice_index_or ms 0 (plain [])
set_other [] slot m h = refl
set_other (x ∷ xs) zero m h = absurd (omega arith)
set_other (x ∷ xs) (suc slot) m h = refl

slots_keep : (slots values : List ℕ) (l : Scope) → (with_slots slots values l).messages ≡ l.messages
slots_keep [] values l = refl
slots_keep (k ∷ slots) [] l = refl
slots_keep (k ∷ slots) (v ∷ values) l = slots_keep slots values (with_slot k v l)

taken_keeps : (n : Node) (t : TakenTree) (row : Row) (l : Scope) → KeepsMessage (goes_down n.dir n.kind) t.message →
    Holds n l →
    Holds n (with_taken t row l)
taken_keeps n t row l keeps holds = λ down. go t.message down (subst (λ b. KeepsMessage b t.message) down keeps) where
  go : (m : Option (ℕ × Carried)) → goes_down n.dir n.kind ≡ true → KeepsMessage true m →
      front_tag (first_message (option_map_or
      (λ slot. with_message slot.0 (message_in slot.1 (Some row)) (with_slots t.numbers row.numbers l))
      m (with_slots t.numbers row.numbers l))).headers ≡ n.tag
  go None down h = ap (λ ms. front_tag (slice_index_or ms 0 (plain [])).headers) (slots_keep t.numbers row.numbers l) ∙
      holds down
  go (Some slot) down h =
      ap (λ c. front_tag c.headers)
      (set_other (with_slots t.numbers row.numbers l).messages slot.0 (message_in slot.1 (Some row)) (omega arith))
      ∙ ap (λ ms. front_tag (slice_index_or ms 0 (plain [])).headers) (slots_keep t.numbers row.numbers l) ∙ holds down

room_keeps : (k : ℕ) (x : Content) (xs : List Content) → slice_index_or (with_room k (plain []) (x ∷ xs)) 0 (plain []) ≡
    x
room_keeps zero x xs = refl
room_keeps (suc k) x xs = room_keeps k x (xs ++ plain [] ∷ [])

room_empty : (k : ℕ) → slice_index_or (with_room k (plain []) []) 0 (plain []) ≡ plain []
room_empty zero = refl
room_empty (suc k) = room_keeps k (plain []) []

entered_messages : (k : ℕ) (m : Option Content) →
    front_tag (slice_index_or (with_room k (plain []) (option_to_list m)) 0 (plain [])).headers ≡ message_tag m
entered_messages k None = ap (λ c. front_tag c.headers) (room_empty k)
entered_messages k (Some c) = ap (λ x. front_tag x.headers) (room_keeps k c [])

-- going down nothing is popped
met_down : (m : Option Content) → (met Down m).message ≡ m
met_down None = refl
met_down (Some c) = refl

entered_holds : (at : ℕ) (dir : Dir) (event : Event) (h : HandlerTree) →
    Holds (node_of at dir event) (entered_scope h event (met dir event.message))
entered_holds at Up event h = λ down. absurd (cc down)
entered_holds at Down event h = λ down.
    ap (λ m. front_tag (slice_index_or (with_room h.messages (plain []) (option_to_list m)) 0 (plain [])).headers)
    (met_down event.message)
    ∙ entered_messages h.messages event.message

-- a message that keeps its headers has those of the first one
kept_headers : (m : MessageTree) (s : State) (l : Scope) → keeps_headers m ≡ true →
    (mval m s l).headers ≡ (first_message l).headers
kept_headers (message k) s l h = ap (λ j. (slice_index_or l.messages j (plain [])).headers) (is_zero k h)
kept_headers nothing s l h = absurd (cc h)
kept_headers (held c i row carried) s l h = absurd (cc h)
kept_headers (cut m from n) s l h = absurd (cc h)
kept_headers (tail m from) s l h = kept_headers m s l h
kept_headers (join p m) s l h = joined (mval p s l) (mval m s l) ∙ kept_headers m s l h where
  joined : (a b : Content) → (parts.join a b).headers ≡ b.headers
  joined a b = go (nat_le (length a.body + length b.body) longest_body) where
    go : (small : Bool) → (if small then record { headers = b.headers; body = a.body ++ b.body } else b).headers ≡
        b.headers
    go true = refl
    go false = refl

-- what an event is made of
kind_made : (kind : Kind) (ns : List ℕ) (m : Option Content) → (event_of kind ns m).kind ≡ kind
kind_made kind ns m = go (carries kind) where
  go : (b : Bool) → (if◌then◌else◌ {A = Event} b
      (record { kind = kind; peer = slice_index ns 0; a = 0; b = 0; message = m })
      (record { kind = kind; peer = 0; a = slice_index ns 0; b = slice_index ns 1; message = m })).kind ≡ kind
  go true = refl
  go false = refl

message_made : (kind : Kind) (ns : List ℕ) (m : Option Content) → (event_of kind ns m).message ≡ m
message_made kind ns m = go (carries kind) where
  go : (b : Bool) → (if◌then◌else◌ {A = Event} b
      (record { kind = kind; peer = slice_index ns 0; a = 0; b = 0; message = m })
      (record { kind = kind; peer = 0; a = slice_index ns 0; b = slice_index ns 1; message = m })).message ≡ m
  go true = refl
  go false = refl

-- what is sent counts where its node is one of the stack's
abbrev guarded : List LayerTree → (Node → ℕ) → Node → ℕ
guarded stack f n = if can_have n.kind (header_layer stack n.dir n.at) n.tag then f n else 0

abbrev counted : List LayerTree → (Node → ℕ) → ℕ → Dir × Event → ℕ
counted stack f at x = guarded stack f (node_of (beyond x.0 at) x.0 x.1)

guard_le : (b : Bool) (n : ℕ) → (if b then n else 0) ≤ n
guard_le true n = omega arith
guard_le false n = omega arith

guard_cases : (b : Bool) (n m : ℕ) → (b ≡ true → n ≤ m) → (if b then n else 0) ≤ m
guard_cases true n m h = h refl
guard_cases false n m h = omega arith

-- the most that an emission adds up to
abbrev bound_of : List LayerTree → (Node → ℕ) → Node → EmissionTree → ℕ
bound_of stack f n e = largest (map f (arrow_to 1 n e.direction e.kind (emission_tags stack n e e.content)).targets)

made_node : (at : ℕ) (dir : Dir) (kind : Kind) (ns : List ℕ) (m : Option Content) →
    node_of at dir (event_of kind ns m) ≡ record { at = at; dir = dir; kind = kind; tag = message_tag m }
made_node at dir kind ns m =
    λ i. record { at = at; dir = dir; kind = kind_made kind ns m i; tag = message_tag (message_made kind ns m i) }

module _ (stack : List LayerTree) (f : Node → ℕ) (n : Node) where
  -- what leads along one of an arrow's tags
  may : (dir : Dir) (kind : Kind) (tags : List ℕ) (tag : ℕ) → In tag tags →
      f (record { at = beyond dir n.at; dir = dir; kind = kind; tag = tag }) ≤ largest
      (map f (arrow_to 1 n dir kind tags).targets)
  may dir kind tags tag m = node_at_most f _ (arrow_to 1 n dir kind tags).targets
      (in_map (λ t. record { at = beyond dir n.at; dir = dir; kind = kind; tag = t }) tag tags m)

  may_guarded : (dir : Dir) (kind : Kind) (tags : List ℕ) (tag : ℕ) →
      (can_have kind (header_layer stack dir (beyond dir n.at)) tag ≡ true → In tag tags) →
      guarded stack f (record { at = beyond dir n.at; dir = dir; kind = kind; tag = tag }) ≤ largest
      (map f (arrow_to 1 n dir kind tags).targets)
  may_guarded dir kind tags tag m =
      guard_cases (can_have kind (header_layer stack dir (beyond dir n.at)) tag) _ _
      (λ had. may dir kind tags tag (m had))

  had_somehow : (kind : Kind) (layer : LayerTree) (tag : ℕ) → can_have kind layer tag ≡ true → In tag (tags_of layer)
  had_somehow kind layer tag h = go (carries kind) h where
    go : (b : Bool) → (if b then is_some (header_of_tag layer tag) else tag == 0) ≡ true → In tag (tags_of layer)
    go true k = tag_in layer tag k
    go false k = rw (is_zero tag k) (tag_in layer 0 refl)

  -- an emission leads along its arrow
  emission_leads : (place : ℕ) (e : EmissionTree) (dir : Dir) (kind : Kind) (content : Option ContentTree) (s : State)
      (l : Scope) →
      Holds n l →
      guarded stack f (record {
        at = beyond dir n.at;
        dir = dir;
        kind = kind;
        tag =
            message_tag (option_map (λ c. sent_as dir (header_of place c s l) (mval c.message s l)) content);
      })
      ≤ largest (map f (arrow_to 1 n dir kind (emission_tags stack n (record e { direction = dir }) content)).targets)
  emission_leads place e dir kind None s l holds = may_guarded dir kind (0 ∷ []) 0 (λ had. inl refl)
  emission_leads place e Down kind (Some c) s l holds = may_guarded Down kind (c.tag ∷ []) c.tag (λ had. inl refl)
  emission_leads place e Up kind (Some c) s l holds =
      may_guarded Up kind (content_tags stack n Up c) (front_tag (mval c.message s l).headers)
      (λ had. go (goes_down n.dir n.kind && keeps_headers c.message) refl had) where
        go : (b : Bool) → (goes_down n.dir n.kind && keeps_headers c.message) ≡ b →
            can_have kind (layer_at stack (n.at + 1)) (front_tag (mval c.message s l).headers) ≡ true →
            In (front_tag (mval c.message s l).headers) (if b then n.tag ∷ [] else tags_of (layer_at stack (n.at + 1)))
        go true both had =
            let halves = and_parts (goes_down n.dir n.kind) (keeps_headers c.message) both in
            inl (ap front_tag (kept_headers c.message s l halves.1) ∙ holds halves.0)
        go false both had = had_somehow kind (layer_at stack (n.at + 1)) (front_tag (mval c.message s l).headers) had

  pub emitted_leads : (place : ℕ) (e : EmissionTree) (s : State) (l : Scope) → Holds n l →
      counted stack f n.at (e.direction, emitted_event place e s l) ≤ bound_of stack f n e
  emitted_leads place e s l holds =
      subst (λ m. guarded stack f m ≤ bound_of stack f n e)
      (sym (made_node (beyond e.direction n.at) e.direction e.kind (map (λ x. val x s l) e.numbers)
      (option_map (λ c. sent_as e.direction (header_of place c s l) (mval c.message s l)) e.content)))
      (emission_leads place e e.direction e.kind e.content s l holds)

  arrows_total : (rs : List Repeated) →
      after_arrows f (map (emission_arrow stack n) rs) ≡ sum_by (λ r. r.times * bound_of stack f n r.emission) rs
  arrows_total [] = refl
  arrows_total (r ∷ rs) =
      sum_by-cons (λ arrow. arrow.times * largest (map f arrow.targets)) (emission_arrow stack n r)
      (map (emission_arrow stack n) rs)
      ∙ ap (λ x. r.times * bound_of stack f n r.emission + x) (arrows_total rs)
      ∙ sym (sum_by-cons (λ q. q.times * bound_of stack f n q.emission) r rs)

  one_arrow : (a : Arrow) → a.times ≡ 1 → after_arrows f (a ∷ []) ≡ largest (map f a.targets)
  one_arrow a once = rw once (omega arith)

expected_sends : (e : Expected) (s : State) (l : Scope) (o : Outcome) → (expecting e s l o).sent ≡ o.sent
expected_sends always s l o = refl
expected_sends rare s l o = refl
expected_sends (common e) s l o = go (is_true (val e s l)) where
  go : (b : Bool) → (if b then decides usual o else decides unusual o).sent ≡ o.sent
  go true = refl
  go false = refl

module _ (stack : List LayerTree) (f : Node → ℕ) (at : ℕ) (dir : Dir) (event : Event) where
  node : Node
  node = node_of at dir event

  -- one event that is sent on
  passed : (way : Dir) (m : Option Content) (tags : List ℕ) →
      (can_have event.kind (header_layer stack way (beyond way at)) (message_tag m) ≡ true → In (message_tag m) tags) →
      sum_by (counted stack f at) ((way, record event { message = m }) ∷ []) ≤ after_arrows f
      (arrow_to 1 (node_of at dir event) way event.kind tags ∷ [])
  passed way m tags has =
      let le = may_guarded stack f (node_of at dir event) way event.kind tags (message_tag m) has in
      let is = one_arrow stack f (node_of at dir event) (arrow_to 1 (node_of at dir event) way event.kind tags) refl in
      omega (arith, le)

  up_tags : (m : Option Content) → can_have event.kind (layer_at stack (at + 1)) (message_tag m) ≡ true →
      In (message_tag m) (tags_for event.kind (layer_at stack (at + 1)))
  up_tags m had = had_in event.kind (layer_at stack (at + 1)) (message_tag m) had

passes_down : (stack : List LayerTree) (f : Node → ℕ) (at place : ℕ) (event : Event) (s : State) (m : Option Content) →
    sum_by (counted stack f at) (unhandled_visit place s Down event (met Down m) (met Down m).message).sent
    ≤ after_arrows f (passing stack (node_of at Down event) Down)
passes_down stack f at place event s None = passed stack f at Down event Down None (0 ∷ []) (λ had. inl refl)
passes_down stack f at place event s (Some c) =
    passed stack f at Down event Down (Some (pushed (none_header place) c)) (0 ∷ []) (λ had. inl refl)

up_one : (stack : List LayerTree) (f : Node → ℕ) (at place : ℕ) (event : Event) (s : State) (hs : List Header)
    (c : Content) →
    let m : Met = following (first_of hs) c in
    sum_by (counted stack f at) (unhandled_visit place s Up event m m.message).sent
    ≤ after_arrows f (passing stack (record { at = at; dir = Up; kind = event.kind; tag = front_tag hs }) Up)
up_one stack f at place event s [] c =
    passed stack f at Up event Up (Some c) (tags_for event.kind (layer_at stack (at + 1)))
    (up_tags stack f at Up event (Some c))
up_one stack f at place event s (h ∷ hs) c = go (h.tag == 0) where
  go : (b : Bool) →
      sum_by (counted stack f at)
      (if◌then◌else◌ {A = Visited} b (sent_on s Up event (Some c))
      (record { state = s; sent = []; decided = unusual ∷ [] })).sent
      ≤ after_arrows f (if b then arrow_to 1 (record { at = at; dir = Up; kind = event.kind; tag = h.tag }) Up
      event.kind (tags_for event.kind (layer_at stack (at + 1))) ∷ [] else [])
  go true = passed stack f at Up event Up (Some c) (tags_for event.kind (layer_at stack (at + 1)))
      (up_tags stack f at Up event (Some c))
  go false = omega arith

passes_up : (stack : List LayerTree) (f : Node → ℕ) (at place : ℕ) (event : Event) (s : State) (m : Option Content) →
    sum_by (counted stack f at) (unhandled_visit place s Up event (met Up m) (met Up m).message).sent
    ≤ after_arrows f (passing stack (record { at = at; dir = Up; kind = event.kind; tag = message_tag m }) Up)
passes_up stack f at place event s None =
    passed stack f at Up event Up None (tags_for event.kind (layer_at stack (at + 1)))
    (up_tags stack f at Up event None)
passes_up stack f at place event s (Some c) = up_one stack f at place event s c.headers (popped c)

passes : (stack : List LayerTree) (f : Node → ℕ) (at place : ℕ) (dir : Dir) (event : Event) (s : State) →
    let m : Met = met dir event.message in
    sum_by (counted stack f at) (unhandled_visit place s dir event m m.message).sent ≤ after_arrows f
    (passing stack (node_of at dir event) dir)
passes stack f at place Up event s = passes_up stack f at place event s event.message
passes stack f at place Down event s = passes_down stack f at place event s event.message

-- what a visit sends, with its handler and without one
handled_leads : (stack : List LayerTree) (f : Node → ℕ) (at place : ℕ) (dir : Dir) (event : Event) (s : State)
    (layer : LayerTree)
    (o : Option HandlerTree) →
    ((h : HandlerTree) → o ≡ Some h →
    IsOrderlyHandler layer h × (goes_down h.direction h.kind ≡ goes_down dir event.kind)) →
    sum_by (counted stack f at) (handled_visit place o s dir event (met dir event.message)).sent
    ≤ after_arrows f (handler_arrows stack (node_of at dir event) o)
handled_leads stack f at place dir event s layer None here = passes stack f at place dir event s
handled_leads stack f at place dir event s layer (Some h) here =
    let chosen = here h refl in
    let n : Node = node_of at dir event in
    let l : Scope = entered_scope h event (met dir event.message) in
    let sends = block_sends layer (goes_down dir event.kind) place (counted stack f at) (bound_of stack f n) (Holds n)
    (λ k x m holds. holds) (taken_keeps n) (emitted_leads stack f n place) h.block
    (subst (λ b. IsOrderlyBlock layer b h.block) chosen.1 chosen.0) s l (entered_holds at dir event h) in
    subst (λ sent. sum_by (counted stack f at) sent ≤ after_arrows f
    (map (emission_arrow stack n) (emissions_in 1 h.block)))
    (sym (expected_sends h.expected s l (in_order (acts place h.block) s l)))
    (omega (arith, sends, arrows_total stack f n (emissions_in 1 h.block), total_in_is (bound_of stack f n) h.block 1))

pub popped_is : (at : ℕ) (dir : Dir) (event : Event) → (met dir event.message).tag ≡
    popped_tag (node_of at dir event) dir
popped_is at dir event = go dir event.message where
  front : (hs : List Header) (c : Content) → (following (first_of hs) c).tag ≡ front_tag hs
  front [] c = refl
  front (h ∷ hs) c = refl

  go : (d : Dir) (m : Option Content) →
      (met d m).tag ≡ popped_tag (record { at = at; dir = d; kind = event.kind; tag = message_tag m }) d
  go Up None = refl
  go Down None = refl
  go Up (Some c) = front c.headers (popped c)
  go Down (Some c) = refl

visit_leads : (stack : List LayerTree) (f : Node → ℕ) (at : ℕ) (dir : Dir) (event : Event) (s : State) →
    IsOrderly stack →
    sum_by (counted stack f at) (step (at - 1) (layer_at stack at) s dir event).sent
    ≤ after_arrows f (handler_arrows stack (node_of at dir event) (entered_handler stack (node_of at dir event)))
unfolding step
visit_leads stack f at dir event s orderly =
    subst (λ tag. sum_by (counted stack f at) (step (at - 1) (layer_at stack at) s dir event).sent
    ≤ after_arrows f (handler_arrows stack (node_of at dir event)
    (handler_for (layer_at stack at) dir event.kind tag)))
    (popped_is at dir event)
    (handled_leads stack f at (at - 1) dir event s (layer_at stack at)
    (handler_for (layer_at stack at) dir event.kind (met dir event.message).tag)
    (λ h is.
    let chosen = found (IsOrderlyHandler (layer_at stack at)) (is_for dir event.kind (met dir event.message).tag)
    (layer_at stack at).handlers h
    (orderly_at stack (at - 1) orderly) is in
    let these = for_these dir event.kind (met dir event.message).tag h chosen.1 in
    (chosen.0, λ i. goes_down (these.0 i) (these.1 i))))

-- known tasks count for what they are
sent_count : (stack : List LayerTree) (f : Node → ℕ) (at : ℕ) (sent : List (Dir × Event)) →
    AllByRecursion (IsKnown stack) (tasks_of at sent) →
    sum_by (λ t. f (task_node t)) (tasks_of at sent) ≤ sum_by (counted stack f at) sent
sent_count stack f at [] known = omega arith
sent_count stack f at (x ∷ xs) known =
    let first : Task Event = record { at = beyond x.0 at; dir = x.0; event = x.1 } in
    let later = sent_count stack f at xs known.1 in
    let counts : counted stack f at x ≡ f (task_node first) = rw known.0.tag refl in
    omega (arith, sum_by-cons (λ t. f (task_node t)) first (tasks_of at xs), sum_by-cons (counted stack f at) x xs)

pub sends_follow_arrows : SendsFollowArrows
sends_follow_arrows stack s t f visit =
    let counts = sent_count stack f t.at (step (t.at - 1) (layer_at stack t.at) s t.dir t.event).sent visit.sent in
    rw visit.place (le_trans counts (visit_leads stack f t.at t.dir t.event s visit.orderly))
