-- Members and worlds keep chains: what enters, what a step sends, and what it installs.
use Rattle.std.proofs.Common.{◌≡◌, ◌∙◌, ℕ, zero, suc, ◌+◌, ◌<◌, ◌≤◌, Bool, true, false, List, [], ◌∷◌, length, map}
use Rattle.std.proofs.Common.{Option, Some, None, refl, sym, ap, subst, arith}
use Rattle.std.specs.Prelude.{◌^◌, ◌==◌, ◌&&◌, not, nat_lt, if◌then◌else◌, All, cond, slice_get, slice_index_or, Result}
use Rattle.std.specs.Prelude.{Ok, Err, option_map}
use Rattle.std.specs.Int.{bit_at}
use Rattle.std.specs.List.{AllByRecursion, enumerate_from, filter, filter_map, cons_option, position, position_or_len}
use Rattle.std.specs.List.{range_with_len, sum_by}
use Rattle.std.specs.Option.{option_map_or}
use Rattle.std.proofs.lemmas.List.{length-map}
use Rattle.std.proofs.lemmas.Option.{slice_get-get_or}
use Rattle.std.proofs.Math.Pow.{pow_mono, pow_pos}
use Rattle.std.proofs.Math.Seq.{drop-length}
use Rattle.std.proofs.lemmas.Bool.{and_parts, eqb-false, ltb-true, ltb-false}
use Rattle.std.proofs.lemmas.List.Sums.{sum_by-cons}
use Rattle.std.proofs.lemmas.List.FromFn.{length-range_with_len}
use Rattle.msg_core.specs.Chain.{Content, plain}
use Rattle.msg_core.specs.Parts.{longest_body}
use Rattle.msg_core.specs.View.{ids, member_count, rank, first_view, mask_of, last_ltime}
use Rattle.msg_core.specs.declared.message.Header.{Header}
use Rattle.msg_core.specs.declared.packet.Dest.{Dest}
use Rattle.msg_core.specs.declared.packet.Dest.TheVariants as dest
use Rattle.msg_core.specs.declared.packet.Packet.{Packet}
use Rattle.msg_core.specs.declared.packet.Stray.{Stray}
use Rattle.msg_core.specs.declared.packet.View.{View}
use Rattle.layer_words.specs.declared.events.Dir.{Dir}
use Rattle.layer_words.specs.declared.events.Dir.TheVariants.{Up, Down}
use Rattle.layer_words.specs.declared.events.Kind.{Kind}
use Rattle.layer_words.specs.declared.events.Kind.TheVariants as kind
use Rattle.layer_mean.specs.declared.run.Event.{Event}
use Rattle.layer_mean.specs.Event.{carries}
use Rattle.layer_mean.specs.Tree.{LayerTree, no_layer}
use Rattle.layer_mean.specs.State.{State}
use Rattle.layer_mean.specs.Visit.{no_state, fresh}
use Rattle.layer_mean.specs.Queue.{run}
use Rattle.packet_mean.specs.ChainedState.{IsNumber, IsBody, IsFrom, IsMessage, IsChainedState, Brings}
use Rattle.packet_mean.specs.Plan.{kind_of}
use Rattle.packet_mean.specs.Reading.{preamble_of}
use Rattle.packet_mean.specs.Received.{◌>>=◌, meant_for, received}
use Rattle.packet_mean.specs.Spelling.{full_form, full_bytes, AreNumbers, AreBytes, IsDestination, IsSpellable}
use Rattle.packet_mean.specs.declared.here.Here.{Here}
use Rattle.packet_laws.proofs.Once.{one_full_spelling}
use Rattle.packet_laws.proofs.Strays.{received_as_meant, taken_as_spelled}
use Rattle.chain_laws.specs.Runs.{TypedStack, AreChainedStates, IsChainedOut}
use Rattle.chain_laws.proofs.Lists.{Where, each_where, each_append, each_map, each_or, each_set, each_so}
use Rattle.chain_laws.proofs.Runs.{run_from_a_task, stands_typed}
use Rattle.chain_laws.proofs.Small.{zero_small}
use Rattle.chain_laws.proofs.Statements.{event_is}
use Rattle.chain_laws.proofs.Visits.{fresh_is_chained}
use Rattle.script_mean.specs.declared.event.ScriptEvent.TheVariants as script
use Rattle.stack_mean.specs.Plan.{Plan}
use Rattle.run_mean.specs.Member.{Member, inside, out, opened_member, Input, cast, send, leave, tick, datagram, Refusal}
use Rattle.run_mean.specs.Member.{too_big, Entered, app_cast, app_send, app_leave, clock_tick, from_peer, from_datagram}
use Rattle.run_mean.specs.Member.{entered_input, first_task, packet, nowhere, content, packet_to, above, below}
use Rattle.run_mean.specs.Member.{output_of}
use Rattle.run_mean.specs.Member.{announced_ranks, packet_in, installed_member, most_turns, step_from, member_following}
use Rattle.run_mean.specs.World.{World, member_at, packet_number, here_of, stepped_inside, stepped_of, step_happening}
use Rattle.run_mean.specs.World.{given_packet}
use Rattle.run_mean.specs.World.{happens}
use Rattle.member_laws.specs.Members.{IsView, IsHere, IsInside, IsChainedMember, IsEntered, EntersInRange}
use Rattle.member_laws.specs.Members.{FirstTasksAreChained, OpenedIsChained, StepsKeepChains, IsChainedWorld}
use Rattle.member_laws.specs.Members.{FirstWorldIsChained, EventsKeepChains, MomentsAreChained}

-- what holds of each item, in both forms

pub each_of : {A : Type 0} (P : A → Type 0) (xs : List A) → All P xs → AllByRecursion P xs
each_of P [] h = tt
each_of P (x ∷ xs) h = (h 0 x (omega arith), each_of P xs (λ k d below. h (suc k) d (omega arith)))

pub all_of : {A : Type 0} (P : A → Type 0) (xs : List A) → AllByRecursion P xs → All P xs
all_of P [] h k d below = absurd (omega arith)
all_of P (x ∷ xs) h zero d below = h.0
all_of P (x ∷ xs) h (suc k) d below = all_of P xs h.1 k d (omega arith)

pub each_unit : {A : Type 0} (xs : List A) → AllByRecursion (λ _. Unit {0}) xs
each_unit [] = tt
each_unit (x ∷ xs) = (tt, each_unit xs)

-- packets

-- a message of the lowest place may be in a packet, and one in a packet is such a message

pub spellable_message : (stack : List LayerTree) (p : Packet) → IsSpellable stack p →
    IsMessage (IsFrom stack 0) p.message
spellable_message stack p h = record {
  headers = record {
    chain = h.chained.chain;
    fields = each_so _ _ (λ (x : Header) is. each_of IsNumber x.fields is) p.message.headers
        (each_of (λ (x : Header). AreNumbers x.fields) p.message.headers h.fields);
  };
  body = record { within = h.chained.body; bytes = each_of (λ b. b < 256) p.message.body h.body };
}

sent_spellable : (stack : List LayerTree) (here : Here) (to : Dest) (m : Content) (e : Event) → IsHere here →
    IsDestination to →
    content e ≡ m → IsMessage (IsFrom stack 0) m → IsSpellable stack (packet_to here to e)
sent_spellable stack here to m e is destined same h = subst (λ (m : Content). IsSpellable stack (record {
  group = here.group;
  stamp = here.stamp;
  view = here.view;
  sender = here.rank;
  dest = to;
  message = m;
})) (sym same) record {
  group = is.group;
  stamp = is.stamp;
  ltime = is.view.ltime;
  mask = is.view.mask;
  sender = omega (arith, is.rank);
  destination = destined;
  chained = record { chain = h.headers.chain; body = h.body.within };
  fields = all_of (λ (x : Header). AreNumbers x.fields) m.headers
      (each_so _ _ (λ (x : Header) is. all_of IsNumber x.fields is) m.headers h.headers.fields);
  body = all_of (λ b. b < 256) m.body h.body.bytes;
}

-- what enters

within_body : (body : List ℕ) (what : Entered) (x : Entered) (b : Bool) → nat_lt longest_body (length body) ≡ b →
    (if b then Err too_big else Ok what) ≡ Ok x → (length body ≤ longest_body) × (what ≡ x)
within_body body what x true is h = absurd (cc h)
within_body body what x false is h = (ltb-false longest_body (length body) is, cc h)

body_is : (body : List ℕ) → AreBytes body → length body ≤ longest_body → IsBody body
body_is body h within = record { within = within; bytes = each_of (λ b. b < 256) body h }

ok_same : {A E : Type 0} (x y : A) → ◌≡◌ {A = Result A E} (Ok x) (Ok y) → x ≡ y
ok_same x y e = cc e

packet_entered : (stack : List LayerTree) (r : Result Packet Stray) (what : Entered) → from_datagram r ≡ Ok what →
    ((p : Packet) → r ≡ Ok p → IsSpellable stack p) → IsEntered stack what
packet_entered stack (Ok p) what is h = subst (IsEntered stack) (ok_same {E = Refusal} (from_peer p) what is) (h p refl)
packet_entered stack (Err cause) what is h = absurd (cc is)

pub enters_in_range : EntersInRange
enters_in_range stack plans here (cast body) what numbered h is =
    let fits = within_body body (app_cast body) what (nat_lt longest_body (length body)) refl is in
    subst (IsEntered stack) fits.1 (body_is body h fits.0)
enters_in_range stack plans here (send to body) what numbered h is =
    let fits = within_body body (app_send to body) what (nat_lt longest_body (length body)) refl is in
    subst (IsEntered stack) fits.1 (h.0, body_is body h.1 fits.0)
enters_in_range stack plans here leave what numbered h is = let e : app_leave ≡ what = cc is in
    subst (IsEntered stack) e tt
enters_in_range stack plans here (tick moment) what numbered h is =
    let e : clock_tick moment ≡ what = cc is in subst (IsEntered stack) e h
enters_in_range stack plans here (datagram bytes) what numbered h is =
    packet_entered stack (received stack plans here bytes) what is
    (λ p taken. ((taken_as_spelled stack plans here bytes p numbered h).0 taken).0.spellable)

-- above the top no headers are a chain
top_none : (stack : List LayerTree) → IsFrom stack (length stack) []
top_none stack = record { chain = rw (drop-length stack) refl; fields = tt }

brings_packet : (stack : List LayerTree) (to : Dest) (m : Content) → IsMessage (IsFrom stack 0) m →
    Brings (IsFrom stack 0) (carries (kind_of to)) (Some m)
brings_packet stack dest.All m h = h
brings_packet stack (dest.Rank r) m h = h

pub first_tasks_are_chained : FirstTasksAreChained
first_tasks_are_chained stack me (app_cast body) small h = record {
  way = omega arith;
  event = event_is (IsFrom stack (length stack)) kind.Cast (me ∷ []) (Some (plain body)) (small, tt)
      (record { headers = top_none stack; body = h });
}
first_tasks_are_chained stack me (app_send to body) small h = record {
  way = omega arith;
  event = event_is (IsFrom stack (length stack)) kind.Send (to ∷ []) (Some (plain body)) (h.0, tt)
      (record { headers = top_none stack; body = h.1 });
}
first_tasks_are_chained stack me app_leave small h = record {
  way = omega arith;
  event = event_is (IsFrom stack (length stack)) kind.Leave (0 ∷ []) None (zero_small, tt) tt;
}
first_tasks_are_chained stack me (clock_tick moment) small h = record {
  way = (omega arith, omega arith);
  event = event_is (IsFrom stack 0) kind.Timer (moment ∷ []) None (h, tt) tt;
}
first_tasks_are_chained stack me (from_peer p) small h = record {
  way = (omega arith, omega arith);
  event = event_is (IsFrom stack 0) (kind_of p.dest) (p.sender ∷ []) (Some p.message) (omega (arith, h.sender), tt)
      (brings_packet stack p.dest p.message (spellable_message stack p h));
}

-- views

position_below : {A : Type 0} (p : A → Bool) (xs : List A) (k : ℕ) → position p xs ≡ Some k → k < length xs
position_below p xs k is = go (nat_lt (position_or_len p xs) (length xs)) refl is where
  go : (b : Bool) → nat_lt (position_or_len p xs) (length xs) ≡ b → cond b (Some (position_or_len p xs)) None ≡ Some k →
      k < length xs
  go true below is =
      let e : position_or_len p xs ≡ k = cc is in
      omega (arith, e, ltb-true (position_or_len p xs) (length xs) below)
  go false below is = absurd (cc is)

filter_le : {A : Type 0} (p : A → Bool) (xs : List A) → length (filter p xs) ≤ length xs
filter_le p [] = omega arith
filter_le p (x ∷ xs) = go (p x) (filter_le p xs) where
  go : (b : Bool) → length (filter p xs) ≤ length xs →
      length (if b then x ∷ filter p xs else filter p xs) ≤ suc (length xs)
  go true h = omega (arith, h)
  go false h = omega (arith, h)

members_few : (view : View) → member_count view ≤ 32
members_few view =
    omega (arith, filter_le (λ id. bit_at view.mask id == 1) (range_with_len 0 32), length-range_with_len 0 32)

rank_below : (view : View) (id me : ℕ) → rank view id ≡ Some me → me < member_count view
rank_below view id me is = position_below (λ other. other == id) (ids view) me is

-- the powers of ids, of which each stands for one bit

abbrev powers : List ℕ → ℕ
powers xs = sum_by (λ i. 2 ^ i) xs

pub bits_le : (ranks n : ℕ) (xs : List ℕ) →
    sum_by (λ x. if bit_at ranks x.0 == 1 then 2 ^ x.1 else 0) (enumerate_from n xs) ≤ powers xs
bits_le ranks n [] = omega arith
bits_le ranks n (x ∷ xs) = omega (
  arith,
  sum_by-cons (λ (x : ℕ × ℕ). if bit_at ranks x.0 == 1 then 2 ^ x.1 else 0) (n, x) (enumerate_from (n + 1) xs),
  sum_by-cons (λ i. 2 ^ i) x xs,
  bits_le ranks (n + 1) xs,
  bit_le (bit_at ranks n == 1),
) where
  bit_le : (b : Bool) → (if b then 2 ^ x else 0) ≤ 2 ^ x
  bit_le true = omega arith
  bit_le false = omega arith

filter_powers : (p : ℕ → Bool) (xs : List ℕ) → powers (filter p xs) ≤ powers xs
filter_powers p [] = omega arith
filter_powers p (x ∷ xs) = go (p x) (filter_powers p xs) where
  go : (b : Bool) → powers (filter p xs) ≤ powers xs →
      powers (if b then x ∷ filter p xs else filter p xs) ≤ powers (x ∷ xs)
  go true h = omega (arith, h, sum_by-cons (λ i. 2 ^ i) x (filter p xs), sum_by-cons (λ i. 2 ^ i) x xs)
  go false h = omega (arith, h, sum_by-cons (λ i. 2 ^ i) x xs)

all_powers : powers (range_with_len 0 32) ≡ 4294967295
all_powers = refl

mask_small : (view : View) (ranks : ℕ) → IsNumber (mask_of view ranks)
mask_small view ranks = omega (
  arith,
  bits_le ranks 0 (ids view),
  filter_powers (λ id. bit_at view.mask id == 1) (range_with_len 0 32),
  all_powers,
)

-- members

map_at : {A B : Type 0} (f : A → B) (xs : List A) (k : ℕ) (x : A) (d : B) → slice_get xs k ≡ Some x →
    slice_index_or (map f xs) k d ≡ f x
map_at f [] k x d is = absurd (cc is)
map_at f (y ∷ xs) zero x d is = let e : y ≡ x = cc is in ap f e
map_at f (y ∷ xs) (suc k) x d is = map_at f xs k x d is

fresh_states : (stack : List LayerTree) (me n ltime : ℕ) → TypedStack stack → me < n → n ≤ 32 → IsNumber ltime →
    AreChainedStates stack (map (λ layer. fresh layer me n ltime) stack)
fresh_states stack me n ltime typed below most small = record {
  count = length-map stack (λ layer. fresh layer me n ltime);
  states_are = λ place within.
      let layer : LayerTree = slice_index_or stack place no_layer in
      let listed : slice_get stack place ≡ Some layer = slice_get-get_or stack place no_layer within in
      subst (IsChainedState stack place)
      (sym (map_at (λ (l : LayerTree). fresh l me n ltime) stack place layer no_state listed))
      (fresh_is_chained stack place _ layer me n ltime (stands_typed stack place layer typed listed) below most small);
}

pub opened_is_chained : OpenedIsChained
opened_is_chained stack view id typed is = go (rank view id) refl where
  go : (o : Option ℕ) → rank view id ≡ o → IsChainedMember stack
      (option_map_or (λ me. inside view (map (λ layer. fresh layer me (member_count view) view.ltime) stack)) o out)
  go None at = tt
  go (Some me) at = record {
    view_is = is;
    states_are = fresh_states stack me (member_count view) view.ltime typed (rank_below view id me at)
        (members_few view) is.ltime;
  }

installed_is : (stack : List LayerTree) (view : View) (id ranks : ℕ) → TypedStack stack → IsView view →
    IsChainedMember stack (installed_member stack view id ranks)
installed_is stack view id ranks typed is = go (view.ltime == last_ltime) refl where
  go : (b : Bool) → (view.ltime == last_ltime) ≡ b →
      IsChainedMember stack (option_map_or (λ next. opened_member stack next id)
      (if b then None else Some record { ltime = view.ltime + 1; mask = mask_of view ranks }) out)
  go true last = tt
  go false last = opened_is_chained stack (record { ltime = view.ltime + 1; mask = mask_of view ranks }) id typed
      record {
        ltime = omega (arith, is.ltime, eqb-false view.ltime last_ltime last);
        mask = mask_small view ranks;
      }

-- steps

brought : (C : List Header → Type 0) (m : Option Content) → Brings C true m →
    IsMessage C (option_map_or (λ m. m) m (plain []))
brought C None h = absurd h
brought C (Some m) h = h

no_packet_above : (P : Packet → Type 0) (k : Kind) (e : Event) → Where P (packet_in (above k e))
no_packet_above P kind.Cast e = tt
no_packet_above P kind.Send e = tt
no_packet_above P kind.Block e = tt
no_packet_above P kind.View e = tt
no_packet_above P _ e = tt

packet_below : (stack : List LayerTree) (here : Here) (k : Kind) (e : Event) → IsHere here →
    Brings (IsFrom stack 0) (carries k) e.message →
    Where (IsSpellable stack) (packet_in (below here k e))
packet_below stack here kind.Cast e is h = sent_spellable stack here dest.All (content e) e is tt refl
    (brought (IsFrom stack 0) e.message h)
packet_below stack here kind.Send e is h = go (nat_lt e.peer (member_count here.view) && not (e.peer == here.rank)) refl
  where
    go : (b : Bool) → (nat_lt e.peer (member_count here.view) && not (e.peer == here.rank)) ≡ b →
        Where (IsSpellable stack) (packet_in (if b then packet (packet_to here (dest.Rank e.peer) e) else nowhere))
    go true other =
        let parts = and_parts (nat_lt e.peer (member_count here.view)) (not (e.peer == here.rank)) other in
        sent_spellable stack here (dest.Rank e.peer) (content e) e is
        (omega (arith, ltb-true e.peer (member_count here.view) parts.0, members_few here.view)) refl
        (brought (IsFrom stack 0) e.message h)
    go false other = tt
packet_below stack here kind.Timer e is h = tt
packet_below stack here _ e is h = tt

packet_out : (stack : List LayerTree) (here : Here) (dir : Dir) (e : Event) → IsHere here →
    IsChainedOut stack (dir, e) →
    Where (IsSpellable stack) (packet_in (output_of here (dir, e)))
packet_out stack here Up e is h = no_packet_above (IsSpellable stack) e.kind e
packet_out stack here Down e is h = packet_below stack here e.kind e is h.message

pub cons_each : {A : Type 0} (P : A → Type 0) (o : Option A) (xs : List A) → Where P o → AllByRecursion P xs →
    AllByRecursion P (cons_option o xs)
cons_each P None xs h i = i
cons_each P (Some x) xs h i = (h, i)

packets_out : (stack : List LayerTree) (here : Here) (outs : List (Dir × Event)) → IsHere here →
    AllByRecursion (IsChainedOut stack) outs →
    AllByRecursion (IsSpellable stack) (filter_map packet_in (map (output_of here) outs))
packets_out stack here [] is h = tt
packets_out stack here (x ∷ outs) is h = cons_each (IsSpellable stack) (packet_in (output_of here x)) _
    (packet_out stack here x.0 x.1 is h.0) (packets_out stack here outs is h.1)

after_is : (stack : List LayerTree) (view : View) (id : ℕ) (states : List State) (announced_first : Option ℕ) →
    TypedStack stack →
    IsView view → AreChainedStates stack states →
    IsChainedMember stack
    (option_map_or (λ m. m) (option_map (installed_member stack view id) announced_first) (inside view states))
after_is stack view id states None typed is h = record { view_is = is; states_are = h }
after_is stack view id states (Some ranks) typed is h = installed_is stack view id ranks typed is

pub steps_keep_chains : StepsKeepChains
steps_keep_chains stack here id states what typed is h fits =
    let first = first_task stack here.rank what in
    let line = run_from_a_task stack most_turns states first typed h
    (first_tasks_are_chained stack here.rank what (omega (arith, is.rank)) fits) in
    let work = (run most_turns stack states first).world in
    record {
      states = line.states;
      outs = line.outs;
      packets = packets_out stack here work.outs is line.outs;
      member = after_is stack here.view id work.states
          (slice_get (filter_map announced_ranks (map (output_of here) work.outs)) 0) typed is.view
          line.states;
    }

-- worlds

pub here_is : (stack : List LayerTree) (w : World) (view : View) (id : ℕ) → IsChainedWorld stack w → IsView view →
    IsHere (here_of w view id)
here_is stack w view id h is = record { group = h.group; stamp = h.stamp; view = is; rank = go (rank view id) refl }
  where
    go : (o : Option ℕ) → rank view id ≡ o → option_map_or (λ r. r) o 0 < 32
    go None at = omega arith
    go (Some me) at = omega (arith, rank_below view id me at, members_few view)

meant_same : (r : Result (Unit {0}) Stray) (p q : Packet) → (r >>= λ _. Ok p) ≡ Ok q → p ≡ q
meant_same (Ok x) p q e = cc e
meant_same (Err cause) p q e = absurd (cc e)

-- a packet that can be spelled, as its full spelling, is this packet or stray
pub given_enters : (stack : List LayerTree) (plans : List Plan) (p : Packet) → IsSpellable stack p →
    (here : Here) (what : Entered) →
    entered_input stack plans here (datagram (full_bytes p)) ≡ Ok what → IsEntered stack what
given_enters stack plans p h here what is = packet_entered stack (received stack plans here (full_bytes p)) what is
    (λ q taken.
    let as_meant = received_as_meant stack plans here (full_bytes p) p (one_full_spelling stack plans p h).0 in
    subst (IsSpellable stack) (meant_same (meant_for here (preamble_of full_form p)) p q (sym as_meant ∙ taken)) h)

-- the packet of a number, if it was sent, can be spelled
pub numbered : (stack : List LayerTree) (w : World) (k : ℕ) → IsChainedWorld stack w →
    Where (IsSpellable stack) (packet_number w k)
numbered stack w zero world = tt
numbered stack w (suc k) world = each_where (IsSpellable stack) w.packets k world.packets

module _ (stack : List LayerTree) (plans : List Plan) (w : World) (typed : TypedStack stack)
    (world : IsChainedWorld stack w) where
  inside_keeps : (id : ℕ) (view : View) (states : List State) (r : Result Entered Refusal) →
      IsInside stack view states →
      ((what : Entered) → r ≡ Ok what → IsEntered stack what) →
      IsChainedWorld stack (stepped_inside stack w id view states r).world
  inside_keeps id view states (Err refusal) is enters = world
  inside_keeps id view states (Ok what) is enters =
      let here = here_of w view id in
      let step = step_from stack here id states what in
      let h = steps_keep_chains stack here id states what typed (here_is stack w view id world is.view_is) is.states_are
      (enters what refl) in
      record {
        group = world.group;
        stamp = world.stamp;
        members = each_set (IsChainedMember stack) w.members id (member_following view step) world.members h.member;
        packets = each_append (IsSpellable stack) w.packets (filter_map packet_in step.outputs) world.packets h.packets;
      }

  member_keeps : (id : ℕ) (input : Input) (m : Member) → IsChainedMember stack m →
      ((here : Here) (what : Entered) → entered_input stack plans here input ≡ Ok what → IsEntered stack what) →
      IsChainedWorld stack (stepped_of stack plans w id input m).world
  member_keeps id input out is enters = world
  member_keeps id input (inside view states) is enters =
      inside_keeps id view states (entered_input stack plans (here_of w view id) input) is
      (λ what. enters (here_of w view id) what)

  stepped_keeps : (id : ℕ) (input : Input) →
      ((here : Here) (what : Entered) → entered_input stack plans here input ≡ Ok what → IsEntered stack what) →
      IsChainedWorld stack (step_happening stack plans w id input).world
  stepped_keeps id input enters = member_keeps id input (member_at w id)
      (each_or (IsChainedMember stack) w.members id out world.members tt) enters

  given_keeps : (id : ℕ) (p : Option Packet) → Where (IsSpellable stack) p →
      IsChainedWorld stack (given_packet stack plans w id p).world
  given_keeps id None h = world
  given_keeps id (Some p) h = stepped_keeps id (datagram (full_bytes p)) (given_enters stack plans p h)

pub events_keep_chains : EventsKeepChains
unfolding happens
events_keep_chains stack plans w (script.Cast id body) typed are h world =
    stepped_keeps stack plans w typed world id (cast body)
    (λ here what. enters_in_range stack plans here (cast body) what are h)
events_keep_chains stack plans w (script.Send id to body) typed are h world =
    stepped_keeps stack plans w typed world id (send to body)
    (λ here what. enters_in_range stack plans here (send to body) what are h)
events_keep_chains stack plans w (script.Leave id) typed are h world =
    stepped_keeps stack plans w typed world id leave (λ here what. enters_in_range stack plans here leave what are tt)
events_keep_chains stack plans w (script.Tick id moment) typed are h world =
    stepped_keeps stack plans w typed world id (tick moment)
    (λ here what. enters_in_range stack plans here (tick moment) what are h)
events_keep_chains stack plans w (script.Give k id) typed are h world =
    given_keeps stack plans w typed world id (packet_number w k) (numbered stack w k world)
events_keep_chains stack plans w (script.Raw id bytes) typed are h world =
    stepped_keeps stack plans w typed world id (datagram bytes)
    (λ here what. enters_in_range stack plans here (datagram bytes) what are h)
events_keep_chains stack plans w (script.Show id) typed are h world = world

pub first_world_is_chained : FirstWorldIsChained
first_world_is_chained stack group stamp n typed group_is stamp_is few = record {
  group = group_is;
  stamp = stamp_is;
  members = each_map (λ _. Unit {0}) (IsChainedMember stack) (opened_member stack (first_view n))
      (λ id _. opened_is_chained stack (first_view n) id typed record {
        ltime = zero_small;
        mask = omega (arith, pow_mono {i = n} {j = 32} few, pow_pos n);
      }) (range_with_len 0 n) (each_unit (range_with_len 0 n));
  packets = tt;
}

pub moments_are_chained : MomentsAreChained
moments_are_chained stack plans w [] typed are h world = tt
moments_are_chained stack plans w (e ∷ events) typed are h world =
    let next = events_keep_chains stack plans w e typed are h.0 world in
    ((world, next), moments_are_chained stack plans (happens stack plans w e).world events typed are h.1 next)
