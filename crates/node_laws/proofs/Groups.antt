-- Views stay within the group, and what is sent goes to members of it.
use Rattle.std.proofs.Common.{◌≡◌, ℕ, zero, suc, ◌+◌, ◌-◌, ◌<◌, ◌≤◌, Bool, true, false, List, [], ◌∷◌, ◌++◌, map}
use Rattle.std.proofs.Common.{Option, Some, None, refl, ap, subst, arith}
use Rattle.std.specs.Prelude.{◌^◌, ◌==◌, ◌&&◌, not, nat_lt, if◌then◌else◌, option_map, option_to_list, slice_get}
use Rattle.std.specs.Int.{bit_at}
use Rattle.std.specs.List.{AllByRecursion, filter, filter_map, flat_map, range_with_len, sum_by}
use Rattle.std.specs.Option.{option_map_or}
use Rattle.std.proofs.lemmas.Bool.{eqb-true, ltb-true, ltb-false}
use Rattle.std.proofs.lemmas.Nat.Bits.{bit_at_above}
use Rattle.std.proofs.lemmas.List.Sums.{sum_by-cons}
use Rattle.std.proofs.Math.Nat.{pow-suc}
use Rattle.std.proofs.Math.Pow.{pow_mono, pow_pos}
use Rattle.msg_core.specs.View.{ids, member_count, rank, first_view, mask_of, last_ltime}
use Rattle.msg_core.specs.declared.packet.Dest.{Dest}
use Rattle.msg_core.specs.declared.packet.Dest.TheVariants as dest
use Rattle.msg_core.specs.declared.packet.Packet.{Packet}
use Rattle.msg_core.specs.declared.packet.View.{View}
use Rattle.layer_words.specs.declared.events.Dir.{Dir}
use Rattle.layer_words.specs.declared.events.Dir.TheVariants.{Up, Down}
use Rattle.layer_words.specs.declared.events.Kind.{Kind}
use Rattle.layer_words.specs.declared.events.Kind.TheVariants as kind
use Rattle.layer_mean.specs.declared.run.Event.{Event}
use Rattle.layer_mean.specs.Tree.{LayerTree}
use Rattle.layer_mean.specs.State.{State}
use Rattle.layer_mean.specs.Visit.{fresh}
use Rattle.packet_mean.specs.Spelling.{IsSpellable}
use Rattle.packet_mean.specs.declared.here.Here.{Here}
use Rattle.packet_laws.specs.Lengths.{IsWithinLimits}
use Rattle.chain_laws.proofs.Lists.{Where, each_where, each_or, each_set, each_map, each_append}
use Rattle.script_mean.specs.Event.{member_of}
use Rattle.stack_mean.specs.Plan.{Plan}
use Rattle.member_laws.specs.Members.{IsChainedWorld}
use Rattle.member_laws.proofs.Members.{bits_le, cons_each, each_unit}
use Rattle.run_mean.specs.Common.{plan_after, plan_for, short_from, with_plans}
use Rattle.run_mean.specs.Journal.{receivers, handed_output, handed_in}
use Rattle.run_mean.specs.Member.{inside, out, opened_member, installed_member, Output, deliver_cast, deliver_send}
use Rattle.run_mean.specs.Member.{block, announce}
use Rattle.run_mean.specs.Member.{packet, nowhere, timer, quiet, packet_to, above, below, output_of, announced_ranks}
use Rattle.run_mean.specs.Member.{packet_in, step_from, member_following}
use Rattle.run_mean.specs.World.{World, member_at, Happening, here_of}
use Rattle.node_laws.specs.Groups.{IsWithin, AreWithin, FirstViewsAreWithin, EventsKeepWithin, IsSendable}
use Rattle.node_laws.specs.Groups.{SendsAreSendable}
use Rattle.node_laws.proofs.Happenings.{each_happens}
use Rattle.node_laws.proofs.Wires.{wires_fit}

-- what holds of whatever passes a test holds of each item that passes
each_passing : (p : ℕ → Bool) (P : ℕ → Type 0) → ((x : ℕ) → p x ≡ true → P x) → (xs : List ℕ) →
    AllByRecursion P (filter p xs)
each_passing p P so [] = tt
each_passing p P so (x ∷ xs) = go (p x) refl (each_passing p P so xs) where
  go : (b : Bool) → p x ≡ b → AllByRecursion P (filter p xs) →
      AllByRecursion P (if b then x ∷ filter p xs else filter p xs)
  go true passes rest = (so x passes, rest)
  go false fails rest = rest

each_filter : (p : ℕ → Bool) (P : ℕ → Type 0) (xs : List ℕ) → AllByRecursion P xs → AllByRecursion P (filter p xs)
each_filter p P [] h = tt
each_filter p P (x ∷ xs) h = go (p x) (each_filter p P xs h.1) where
  go : (b : Bool) → AllByRecursion P (filter p xs) → AllByRecursion P (if b then x ∷ filter p xs else filter p xs)
  go true rest = (h.0, rest)
  go false rest = rest

-- a small mask has small ids, and ids that are small make a small mask

bit_below : (mask n id : ℕ) → mask < 2 ^ n → (bit_at mask id == 1) ≡ true → id < n
bit_below mask n id small set = go (nat_lt id n) refl where
  go : (b : Bool) → nat_lt id n ≡ b → id < n
  go true less = ltb-true id n less
  go false more = absurd
      (omega (arith, eqb-true (bit_at mask id) 1 set, bit_at_above mask n id small (ltb-false id n more)))

ids_below : (view : View) (n : ℕ) → view.mask < 2 ^ n → AllByRecursion (λ id. id < n) (ids view)
ids_below view n small =
    each_passing (λ id. bit_at view.mask id == 1) (λ id. id < n) (λ id. bit_below view.mask n id small)
    (range_with_len 0 32)

twice : (k : ℕ) → 2 ^ (k + 1) ≡ 2 ^ k + 2 ^ k
twice k =
    let next : k + 1 ≡ suc k = omega arith in
    omega (arith, ap (λ k. 2 ^ k) next, pow-suc 2 k)

-- one more number before larger ones
one_more : (b : Bool) (n first : ℕ) (kept : List ℕ) → AllByRecursion (λ id. id < n) (if b then first ∷ kept else kept) →
    (AllByRecursion (λ id. id < n) kept → sum_by (λ id. 2 ^ id) kept ≤ 2 ^ n - 2 ^ (first + 1)) →
    sum_by (λ id. 2 ^ id) (if b then first ∷ kept else kept) ≤ 2 ^ n - 2 ^ first
one_more true n first kept h rest = omega (
  arith,
  rest h.1,
  sum_by-cons (λ id. 2 ^ id) first kept,
  twice first,
  pow_mono {i = first + 1} {j = n} (omega (arith, h.0)),
)
one_more false n first kept h rest = omega (arith, rest h, twice first)

powers_below : (p : ℕ → Bool) (n first count : ℕ) →
    AllByRecursion (λ id. id < n) (filter p (range_with_len first count)) →
    sum_by (λ id. 2 ^ id) (filter p (range_with_len first count)) ≤ 2 ^ n - 2 ^ first
powers_below p n first zero h = omega arith
powers_below p n first (suc count) h =
    one_more (p first) n first (filter p (range_with_len (first + 1) count)) h (powers_below p n (first + 1) count)

mask_below : (view : View) (ranks n : ℕ) → AllByRecursion (λ id. id < n) (ids view) → mask_of view ranks < 2 ^ n
mask_below view ranks n h = omega (
  arith,
  bits_le ranks 0 (ids view),
  powers_below (λ id. bit_at view.mask id == 1) n 0 32 h,
  pow_pos n,
)

-- members

opened_within : (stack : List LayerTree) (view : View) (id n : ℕ) → view.mask < 2 ^ n →
    IsWithin n (opened_member stack view id)
opened_within stack view id n small = go (rank view id) where
  go : (o : Option ℕ) → IsWithin n
      (option_map_or (λ me. inside view (map (λ layer. fresh layer me (member_count view) view.ltime) stack)) o out)
  go None = tt
  go (Some me) = ids_below view n small

installed_within : (stack : List LayerTree) (view : View) (id ranks n : ℕ) → AllByRecursion (λ id. id < n) (ids view) →
    IsWithin n (installed_member stack view id ranks)
installed_within stack view id ranks n h = go (view.ltime == last_ltime) where
  go : (b : Bool) → IsWithin n (option_map_or (λ next. opened_member stack next id)
      (if b then None else Some record { ltime = view.ltime + 1; mask = mask_of view ranks }) out)
  go true = tt
  go false = opened_within stack (record { ltime = view.ltime + 1; mask = mask_of view ranks }) id n
      (mask_below view ranks n h)

after_within : (stack : List LayerTree) (view : View) (id n : ℕ) (states : List State) (first : Option ℕ) →
    AllByRecursion (λ id. id < n) (ids view) →
    IsWithin n (option_map_or (λ m. m) (option_map (installed_member stack view id) first) (inside view states))
after_within stack view id n states None h = h
after_within stack view id n states (Some ranks) h = installed_within stack view id ranks n h

member_within : (w : World) (id n : ℕ) (view : View) (states : List State) → AreWithin n w →
    member_at w id ≡ inside view states →
    AllByRecursion (λ id. id < n) (ids view)
member_within w id n view states h is = subst (IsWithin n) is (each_or (IsWithin n) w.members id out h tt)

pub first_views_are_within : FirstViewsAreWithin
first_views_are_within stack group stamp n few =
    each_map (λ _. Unit {0}) (IsWithin n) (opened_member stack (first_view n))
    (λ id _. opened_within stack (first_view n) id n (omega (arith, pow_pos n))) (range_with_len 0 n)
    (each_unit (range_with_len 0 n))

pub events_keep_within : EventsKeepWithin
events_keep_within stack plans w event n h =
    each_happens stack plans w event (λ (happening : Happening). AreWithin n happening.world) record {
      refusing = λ refusal. h;
      missing = h;
      showing = h;
      stepping = λ view states what is.
          let id = member_of event in
          let step = step_from stack (here_of w view id) id states what in
          each_set (IsWithin n) w.members id (member_following view step) h
          (after_within stack view id n step.work.states (slice_get (filter_map announced_ranks step.outputs) 0)
          (member_within w id n view states h is));
    }

-- what is sent

abbrev AreBelow : ℕ → Packet → Type 0
AreBelow n p = AllByRecursion (λ id. id < n) (ids p.view)

each_after : {A : Type 0} (P : A → Type 0) (xs ys : List A) → AllByRecursion P (xs ++ ys) → AllByRecursion P ys
each_after P [] ys h = h
each_after P (x ∷ xs) ys h = each_after P xs ys h.1

each_listed : {A : Type 0} (P : A → Type 0) (o : Option A) → Where P o → AllByRecursion P (option_to_list o)
each_listed P None h = tt
each_listed P (Some x) h = (h, tt)

-- the packets of a step carry the view of its beginning

none_above : (n : ℕ) (k : Kind) (e : Event) → Where (AreBelow n) (packet_in (above k e))
none_above n kind.Cast e = tt
none_above n kind.Send e = tt
none_above n kind.Block e = tt
none_above n kind.View e = tt
none_above n _ e = tt

view_below : (here : Here) (n : ℕ) (k : Kind) (e : Event) → AllByRecursion (λ id. id < n) (ids here.view) →
    Where (AreBelow n) (packet_in (below here k e))
view_below here n kind.Cast e h = h
view_below here n kind.Send e h = go (nat_lt e.peer (member_count here.view) && not (e.peer == here.rank)) where
  go : (b : Bool) → Where (AreBelow n) (packet_in (if b then packet (packet_to here (dest.Rank e.peer) e) else nowhere))
  go true = h
  go false = tt
view_below here n kind.Timer e h = tt
view_below here n _ e h = tt

view_out : (here : Here) (n : ℕ) (dir : Dir) (e : Event) → AllByRecursion (λ id. id < n) (ids here.view) →
    Where (AreBelow n) (packet_in (output_of here (dir, e)))
view_out here n Up e h = none_above n e.kind e
view_out here n Down e h = view_below here n e.kind e h

views_out : (here : Here) (n : ℕ) (outs : List (Dir × Event)) → AllByRecursion (λ id. id < n) (ids here.view) →
    AllByRecursion (AreBelow n) (filter_map packet_in (map (output_of here) outs))
views_out here n [] h = tt
views_out here n (x ∷ outs) h = cons_each (AreBelow n) (packet_in (output_of here x)) _ (view_out here n x.0 x.1 h)
    (views_out here n outs h)

receivers_below : (id n : ℕ) (view : View) (to : Dest) → AllByRecursion (λ id. id < n) (ids view) →
    AllByRecursion (λ id. id < n) (receivers id view to)
receivers_below id n view dest.All h = each_filter (λ other. not (other == id)) (λ id. id < n) (ids view) h
receivers_below id n view (dest.Rank rank) h = each_listed (λ id. id < n) (slice_get (ids view) rank)
    (each_where (λ id. id < n) (ids view) rank h)

module _ (stack : List LayerTree) (plans : List Plan) (id n : ℕ) (limits : IsWithinLimits stack) where
  sent : (p : Packet) (plan : Option ℕ) → AreBelow n p → IsSpellable stack p →
      AllByRecursion (IsSendable n id) (handed_output plans id (packet p, plan))
  sent p plan within is = each_map (λ to. to < n) (IsSendable n id) _ (λ to less. record {
    own = refl;
    peer = less;
    short = wires_fit stack plans p plan limits is;
  }) (receivers id p.view p.dest) (receivers_below id n p.view p.dest within)

  all_sent : (next : Option ℕ) (outputs : List Output) → AllByRecursion (AreBelow n) (filter_map packet_in outputs) →
      AllByRecursion (IsSpellable stack) (filter_map packet_in outputs) →
      AllByRecursion (IsSendable n id) (flat_map (handed_output plans id) (with_plans plans next outputs))
  all_sent next [] within are = tt
  all_sent next (packet p ∷ outputs) within are =
      each_append (IsSendable n id) (handed_output plans id (packet p, plan_for plans next (packet p))) _
      (sent p (plan_for plans next (packet p)) within.0 are.0)
      (all_sent (plan_after next (packet p)) outputs within.1 are.1)
  all_sent next (deliver_cast peer body ∷ outputs) within are = all_sent next outputs within are
  all_sent next (deliver_send peer body ∷ outputs) within are = all_sent next outputs within are
  all_sent next (block a ∷ outputs) within are = all_sent next outputs within are
  all_sent next (announce a ∷ outputs) within are = all_sent next outputs within are
  all_sent next (nowhere ∷ outputs) within are = all_sent (plan_after next nowhere) outputs within are
  all_sent next (timer a ∷ outputs) within are = all_sent next outputs within are
  all_sent next (quiet dir event ∷ outputs) within are = all_sent next outputs within are

pub sends_are_sendable : SendsAreSendable
sends_are_sendable mode stack plans w event n limits chained h =
    let id = member_of event in
    each_happens stack plans w event
    (λ (happening : Happening). IsChainedWorld stack happening.world →
    AllByRecursion (IsSendable n id) (handed_in mode stack plans id happening.did)) record {
      refusing = λ refusal chained. tt;
      missing = λ chained. tt;
      showing = λ chained. tt;
      stepping = λ view states what is chained.
          let step = step_from stack (here_of w view id) id states what in
          all_sent stack plans id n limits (short_from mode stack plans step) step.outputs
          (views_out (here_of w view id) n step.work.outs (member_within w id n view states h is))
          (each_after (IsSpellable stack) w.packets (filter_map packet_in step.outputs) chained.packets);
    } chained
