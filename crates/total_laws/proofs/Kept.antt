-- Each step of `bottom; local; total` keeps what the proof says of members, packets and deliveries.
use Rattle.std.proofs.Common.{◌≡◌, ◌≢◌, ℕ, ◌+◌, ◌==◌, ◌<◌, ◌≤◌, ◌%◌, ◌^◌, Bool, true, false, List, [], ◌∷◌, ◌++◌, map}
use Rattle.std.proofs.Common.{length, refl, sym, ap, subst, ◌∙◌, arith, Some, inl, inr}
use Rattle.std.specs.Prelude.{◌&&◌, not, nat_lt, slice_get, option_map, ◌⊎◌, if◌then◌else◌}
use Rattle.std.specs.List.{AllByRecursion, filter_map, flat_map}
use Rattle.std.proofs.Math.Nat.{mod-eq_of_lt}
use Rattle.std.proofs.lemmas.Bool.{eqb-true}
use Rattle.std.proofs.lemmas.List.{append-nil, length-append}
use Rattle.std.proofs.lemmas.Option.{slice_get_within}
use Rattle.msg_core.specs.Chain.{Content, plain}
use Rattle.msg_core.specs.View.{rank, member_count, first_view}
use Rattle.msg_core.specs.declared.packet.Dest.{Dest}
use Rattle.msg_core.specs.declared.packet.Dest.TheVariants.{All, Rank}
use Rattle.msg_core.specs.declared.packet.Packet.{Packet}
use Rattle.msg_core.specs.declared.packet.View.{View}
use Rattle.layer_words.specs.declared.events.Dir.{Dir}
use Rattle.layer_words.specs.declared.events.Dir.TheVariants.{Up, Down}
use Rattle.script_mean.specs.EventText.{hex_text}
use Rattle.audit_mean.specs.Segment.{Entry}
use Rattle.layer_words.specs.declared.events.Kind.TheVariants.{Leave, Timer}
use Rattle.layer_mean.specs.declared.run.Event.{Event}
use Rattle.layer_mean.specs.Event.{event_of}
use Rattle.layer_mean.specs.Queue.{Task}
use Rattle.layer_mean.specs.State.{State}
use Rattle.layer_rows.specs.Words.{cast, signal}
use Rattle.library_rows.specs.OrderStack.{stack}
use Rattle.packet_mean.specs.Plan.{kind_of}
use Rattle.packet_mean.specs.declared.here.Here.{Here}
use Rattle.run_mean.specs.Member.{Entered, app_cast, app_send, app_leave, clock_tick, from_peer, Output, Step}
use Rattle.run_mean.specs.Member.{step_from}
use Rattle.run_mean.specs.Member.{packet, nowhere}
use Rattle.run_mean.specs.Member.{output_of, packet_in, packet_to, announced_ranks, installed_member, first_task}
use Rattle.order_laws.specs.Calm.{deliveries_from}
use Rattle.order_laws.specs.Said.{output_said}
use Rattle.protocol_laws.specs.Protocol.{Leaves, Yields, here_at, Arrives, IsOther}
use Rattle.protocol_laws.proofs.Lists.{get_last}
use Rattle.total_laws.specs.Steps.{holding, ordered, asked, sent_alone, send, from_below, Runs, due_states}
use Rattle.total_laws.specs.Steps.{due_outs}
use Rattle.total_laws.specs.Protocol.{order_of, IsSentTo, delivery, got, HasCounted, total_protocol}
use Rattle.total_laws.specs.Protocol.{TotalIsProved}
use Rattle.total_laws.proofs.Walks.{runs_are}
use Rattle.total_laws.proofs.Orders.{orders_both, order_stays, sent_stays, others_order_none, send_orders_none}
use Rattle.total_laws.proofs.Orders.{orders_few}
use Rattle.total_laws.proofs.Orders.{got_others, got_own}

others : (packets more : List Packet) (entries delivered : List Entry) (id me : ℕ) (states : List State) →
    IsOther id me more delivered → HasCounted packets entries id me states →
    HasCounted (packets ++ more) (entries ++ delivered) id me states
others packets more entries delivered id me states is h = record {
  n = h.n;
  ltime = h.ltime;
  out = h.out;
  next = h.next;
  states_are = h.states_are;
  delivered = h.delivered ∙ sym (got_others entries delivered id is.other is.other_id is.members);
  orders = λ first. h.orders first
      ∙ ap length (sym (orders_both packets more
      ∙ ap (λ xs. order_of packets ++ xs)
      (others_order_none more is.rank (λ e. is.other_rank (e ∙ sym first)) is.senders)
      ∙ append-nil (order_of packets)));
  at_home = h.at_home;
}

-- a step, from what its run leaves

abbrev step_of : Here → ℕ → Entered → List State → List (Dir × Event) → Step → Type 0
step_of here id what states outs s =
    (s.work.states ≡ states) × ((s.outputs ≡ map (output_of here) outs)
    × (s.installs ≡ option_map (installed_member stack here.view id)
    (slice_get (filter_map announced_ranks (map (output_of here) outs)) 0)))

run_gives : (here : Here) (id : ℕ) (before : List State) (what : Entered) (states : List State)
    (outs : List (Dir × Event)) →
    Runs before (first_task stack here.rank what) states outs →
    step_of here id what states outs (step_from stack here id before what)
run_gives here id before what states outs is = (
  is.states_are,
  (
    ap (λ os. map (output_of here) os) is.outs_are,
    ap (λ os. option_map (installed_member stack here.view id)
        (slice_get (filter_map announced_ranks (map (output_of here) os)) 0)) is.outs_are,
  ),
)

module _ (v : View) (group stamp : ℕ) (packets : List Packet) (entries : List Entry) (id me : ℕ)
    (at : rank v id ≡ Some me) (few : length packets + 1 < 2 ^ 32) where
  abbrev here : Here
  here = here_at group stamp v me

  abbrev Goal : Step → Type 0
  Goal s = Yields total_protocol packets entries id me s

  -- what outputs leave, and how many packets they have
  abbrev sent_out : List (Dir × Event) → List Packet
  sent_out outs = filter_map packet_in (map (output_of here) outs)

  abbrev delivered_out : ℕ → List (Dir × Event) → List Entry
  delivered_out line outs = deliveries_from line (flat_map (output_said id) (map (output_of here) outs))

  -- a step whose run ends in these states and puts this out
  yields : (before : List State) (what : Entered) (states : List State) (outs : List (Dir × Event)) →
      Runs before (first_task stack me what) states outs →
      filter_map announced_ranks (map (output_of here) outs) ≡ [] → length (sent_out outs) ≤ 1 →
      ((line : ℕ) → Leaves total_protocol packets entries id me states (sent_out outs) (delivered_out line outs)) →
      Goal (step_from stack here id before what)
  yields before what states outs is none one leaves =
      let s = step_from stack here id before what in
      let given = run_gives here id before what states outs is in
      record {
        stays = given.1.1 ∙ ap (λ rs. option_map (installed_member stack here.view id) (slice_get rs 0)) none;
        one = subst (λ os. length (filter_map packet_in os) ≤ 1) (sym given.1.0) one;
        leaves = λ line.
            subst (λ ss. Leaves total_protocol packets entries id me ss (filter_map packet_in s.outputs)
            (deliveries_from line (flat_map (output_said id) s.outputs))) (sym given.0)
            (subst (λ os. Leaves total_protocol packets entries id me states (filter_map packet_in os)
            (deliveries_from line (flat_map (output_said id) os))) (sym given.1.0) (leaves line));
      }

  module _ (n ltime out next : ℕ) (delivered : next ≡ got entries id)
      (orders : me ≡ 0 → out ≡ length (order_of packets)) (at_home : me ≡ 0 → out ≡ next) where
    now : List State
    now = holding me n ltime out next

    -- the states stay, nothing is delivered and nothing ordered
    calm : (more : List Packet) → order_of more ≡ [] → AllByRecursion (λ q. IsSentTo (packets ++ more) q q.dest) more →
        Leaves total_protocol packets entries id me now more []
    unfolding now
    calm more none sent = record {
      at = subst (λ es. HasCounted (packets ++ more) es id me now) (sym (append-nil entries)) (record {
        n = n;
        ltime = ltime;
        out = out;
        next = next;
        states_are = refl;
        delivered = delivered;
        orders = λ first. orders first
            ∙ ap length (sym (orders_both packets more ∙ ap (λ xs. order_of packets ++ xs) none
            ∙ append-nil (order_of packets)));
        at_home = at_home;
      });
      sent = sent;
      told = tt;
    }

    -- a cast that is due is delivered at another rank than the first

    delivers : (line origin place : ℕ) (body : List ℕ) → (me ≢ 0) →
        slice_get (order_of packets) place ≡ Some (origin, hex_text body) → place ≡ next →
        Leaves total_protocol packets entries id me (holding me n ltime out ((next + 1) % 2 ^ 32)) []
        (delivery line id origin (hex_text body) ∷ [])
    delivers line origin place body other there due =
        let within = slice_get_within (order_of packets) place (origin, hex_text body) there in
        let small : next + 1 < 2 ^ 32 = omega (arith, few, within, orders_few packets, due) in
        record {
          at = subst (λ ps. HasCounted ps (entries ++ delivery line id origin (hex_text body) ∷ []) id me
              (holding me n ltime out ((next + 1) % 2 ^ 32))) (sym (append-nil packets))
              (record {
                n = n;
                ltime = ltime;
                out = out;
                next = (next + 1) % 2 ^ 32;
                states_are = refl;
                delivered = mod-eq_of_lt small ∙ ap (λ x. x + 1) delivered
                    ∙ sym (got_own entries line id origin (hex_text body));
                orders = λ first. absurd (other first);
                at_home = λ first. absurd (other first);
              });
          sent = tt;
          told = (
            subst (λ ps. slice_get (order_of ps) (got entries id) ≡ Some (origin, hex_text body))
                (sym (append-nil packets))
                (subst (λ x. slice_get (order_of packets) x ≡ Some (origin, hex_text body)) (due ∙ delivered) there),
            tt,
          );
        }

    ordered_given_by : (p : Packet) (origin place : ℕ) (body : List ℕ) → (me ≢ 0) →
        slice_get (order_of packets) place ≡ Some (origin, hex_text body) →
        Runs now (first_task stack me (from_peer p)) (due_states me n ltime out next (place == next))
        (due_outs origin body (place == next)) → (c : Bool) → (place == next) ≡ c →
        Goal (step_from stack here id now (from_peer p))
    unfolding now
    ordered_given_by p origin place body other there runs true is =
        yields now (from_peer p) (holding me n ltime out ((next + 1) % 2 ^ 32)) ((Up, cast origin (plain body)) ∷ [])
        (subst (λ c. Runs now (first_task stack me (from_peer p)) (due_states me n ltime out next c)
        (due_outs origin body c)) is runs)
        refl (omega arith) (λ line. delivers line origin place body other there (eqb-true place next is))
    ordered_given_by p origin place body other there runs false is =
        yields now (from_peer p) now []
        (subst (λ c. Runs now (first_task stack me (from_peer p)) (due_states me n ltime out next c)
        (due_outs origin body c)) is runs)
        refl (omega arith) (λ line. calm [] refl tt)

    -- rank 0 gives a cast its place, and delivers it at home

    order_packet : ℕ → List ℕ → Packet
    order_packet origin body = record {
      group = group;
      stamp = stamp;
      view = v;
      sender = me;
      dest = All;
      message = ordered origin out body;
    }

    order_grows : (origin : ℕ) (body : List ℕ) → (me == 0) ≡ true →
        order_of (packets ++ order_packet origin body ∷ []) ≡ order_of packets ++ (origin, hex_text body) ∷ []
    unfolding order_packet
    order_grows origin body first = orders_both packets (order_packet origin body ∷ []) ∙ (rw first refl)

    home : (line origin : ℕ) (body : List ℕ) → (me == 0) ≡ true →
        Leaves total_protocol packets entries id me (holding me n ltime ((out + 1) % 2 ^ 32) ((next + 1) % 2 ^ 32))
        (order_packet origin body ∷ []) (delivery line id origin (hex_text body) ∷ [])
    unfolding order_packet
    home line origin body first =
        let zero_is = eqb-true me 0 first in
        let counted : out ≡ length (order_of packets) = orders zero_is in
        let same : out ≡ next = at_home zero_is in
        let small : out + 1 < 2 ^ 32 = omega (arith, few, counted, orders_few packets) in
        let small_next : next + 1 < 2 ^ 32 = omega (arith, small, same) in
        let grows = order_grows origin body first in
        let there : slice_get (order_of (packets ++ order_packet origin body ∷ [])) out ≡ Some (origin, hex_text body) =
        subst (λ xs. slice_get xs out ≡ Some (origin, hex_text body)) (sym grows)
        (subst (λ x. slice_get (order_of packets ++ (origin, hex_text body) ∷ []) x ≡ Some (origin, hex_text body))
        (sym counted) (get_last (order_of packets) (origin, hex_text body))) in
        record {
          at = record {
            n = n;
            ltime = ltime;
            out = (out + 1) % 2 ^ 32;
            next = (next + 1) % 2 ^ 32;
            states_are = refl;
            delivered = mod-eq_of_lt small_next ∙ ap (λ x. x + 1) delivered
                ∙ sym (got_own entries line id origin (hex_text body));
            orders = λ is_first. mod-eq_of_lt small ∙ ap (λ x. x + 1) counted
                ∙ sym (length-append (order_of packets) ((origin, hex_text body) ∷ [])) ∙ ap length (sym grows);
            at_home = λ is_first. ap (λ x. (x + 1) % 2 ^ 32) same;
          };
          sent = (
            record { origin = origin; place = out; from_first = zero_is; message = refl; there = there },
            tt,
          );
          told = (
            subst (λ x. slice_get (order_of (packets ++ order_packet origin body ∷ [])) x ≡
                Some (origin, hex_text body))
                (same ∙ delivered) there,
            tt,
          );
        }

    -- a send goes out, or has nowhere to go

    abbrev to_peer : ℕ → Content → Bool → Output
    to_peer to m c = if c then packet (packet_to here (Rank to) (send to m)) else nowhere

    abbrev SendsOut : ℕ → Content → Bool → Type 0
    SendsOut to m c =
        (filter_map announced_ranks (to_peer to m c ∷ []) ≡ []) ×
        ((length (filter_map packet_in (to_peer to m c ∷ [])) ≤ 1)
        × ((line : ℕ) → Leaves total_protocol packets entries id me now (filter_map packet_in (to_peer to m c ∷ []))
        (deliveries_from line (flat_map (output_said id) (to_peer to m c ∷ [])))))

    sends_out : (to : ℕ) (m : Content) → (m ≡ asked m.body) ⊎ (m ≡ sent_alone m.body) → (c : Bool) → SendsOut to m c
    sends_out to m is true = (
      refl,
      (
        omega arith,
        λ line. calm (packet_to here (Rank to) (send to m) ∷ [])
            (send_orders_none (packet_to here (Rank to) (send to m)) to) (is, tt),
      ),
    )
    sends_out to m is false = (refl, (omega arith, λ line. calm [] refl tt))

    -- what enters, one by one

    casts_by : (body : List ℕ) (b : Bool) → (me == 0) ≡ b → Goal (step_from stack here id now (app_cast body))
    unfolding now order_packet
    casts_by body true first =
        yields now (app_cast body) (holding me n ltime ((out + 1) % 2 ^ 32) ((next + 1) % 2 ^ 32))
        ((Down, cast me (ordered me out body)) ∷ (Up, cast me (plain body)) ∷ [])
        (runs_are.first_casts me n ltime out next body first (at_home (eqb-true me 0 first))) refl (omega arith)
        (λ line. home (line + 1) me body first)
    casts_by body false other =
        let out_by = sends_out 0 (asked body) (inl refl) (nat_lt 0 (member_count v) && not (0 == me)) in
        yields now (app_cast body) now ((Down, send 0 (asked body)) ∷ [])
        (runs_are.others_cast me n ltime out next body other) out_by.0 out_by.1.0 out_by.1.1

    sends : (to : ℕ) (body : List ℕ) → Goal (step_from stack here id now (app_send to body))
    unfolding now
    sends to body =
        let out_by = sends_out to (sent_alone body) (inr refl) (nat_lt to (member_count v) && not (to == me)) in
        yields now (app_send to body) now ((Down, send to (sent_alone body)) ∷ [])
        (runs_are.sends_pass me n ltime out next to body) out_by.0 out_by.1.0 out_by.1.1

    -- the task of a packet, by its destination and its message
    abbrev arriving : Packet → Dest → Content → Task Event
    arriving p d m = record { at = 1; dir = Up; event = event_of (kind_of d) (p.sender ∷ []) (Some m) }

    asked_by : (p : Packet) (body : List ℕ) (b : Bool) → (me == 0) ≡ b →
        ((states : List State) (outs : List (Dir × Event)) →
        Runs now (from_below (send p.sender (asked body))) states outs →
        Runs now (first_task stack me (from_peer p)) states outs) →
        Goal (step_from stack here id now (from_peer p))
    unfolding now order_packet
    asked_by p body true first arrives =
        yields now (from_peer p) (holding me n ltime ((out + 1) % 2 ^ 32) ((next + 1) % 2 ^ 32))
        ((Down, cast me (ordered p.sender out body)) ∷ (Up, cast p.sender (plain body)) ∷ [])
        (arrives _ _ (runs_are.first_is_asked me n ltime out next p.sender body first (at_home (eqb-true me 0 first))))
        refl
        (omega arith) (λ line. home (line + 1) p.sender body first)
    asked_by p body false other arrives =
        yields now (from_peer p) now []
        (arrives _ _ (runs_are.others_are_asked me n ltime out next p.sender body other))
        refl (omega arith) (λ line. calm [] refl tt)

    by_dest : (p : Packet) → (p.sender ≢ me) → (d : Dest) → p.dest ≡ d → IsSentTo packets p d →
        Goal (step_from stack here id now (from_peer p))
    unfolding now
    by_dest p other All is sent =
        ordered_given_by p sent.origin sent.place p.message.body (λ first. other (sent.from_first ∙ sym first))
        sent.there
        (subst (λ d. Runs now (arriving p d p.message) (due_states me n ltime out next (sent.place == next))
        (due_outs sent.origin p.message.body (sent.place == next))) (sym is)
        (subst (λ m. Runs now (arriving p All m) (due_states me n ltime out next (sent.place == next))
        (due_outs sent.origin p.message.body (sent.place == next))) (sym sent.message)
        (runs_are.ordered_comes me n ltime out next p.sender sent.origin sent.place p.message.body)))
        (sent.place == next) refl
    by_dest p other (Rank r) is (inl asks) =
        asked_by p p.message.body (me == 0) refl (λ states outs runs.
        subst (λ d. Runs now (arriving p d p.message) states outs) (sym is)
        (subst (λ m. Runs now (arriving p (Rank r) m) states outs) (sym asks) runs))
    by_dest p other (Rank r) is (inr alone) =
        yields now (from_peer p) now ((Up, send p.sender (plain p.message.body)) ∷ [])
        (subst (λ d. Runs now (arriving p d p.message) now ((Up, send p.sender (plain p.message.body)) ∷ [])) (sym is)
        (subst (λ m. Runs now (arriving p (Rank r) m) now ((Up, send p.sender (plain p.message.body)) ∷ [])) (sym alone)
        (runs_are.sent_comes me n ltime out next p.sender p.message.body)))
        refl (omega arith) (λ line. calm [] refl tt)

    by_what : (what : Entered) → Arrives total_protocol packets here what → Goal (step_from stack here id now what)
    unfolding now
    by_what (app_cast body) arrives = casts_by body (me == 0) refl
    by_what (app_send to body) arrives = sends to body
    by_what app_leave arrives = yields now app_leave now ((Down, signal Leave 0 0) ∷ [])
        (runs_are.leave_passes me n ltime out next) refl (omega arith) (λ line. calm [] refl tt)
    by_what (clock_tick moment) arrives = yields now (clock_tick moment) now ((Up, signal Timer moment 0) ∷ [])
        (runs_are.tick_passes me n ltime out next moment) refl (omega arith) (λ line. calm [] refl tt)
    by_what (from_peer p) arrives = by_dest p arrives.meant.other p.dest refl arrives.sent

  steps : (states : List State) (what : Entered) → HasCounted packets entries id me states →
      Arrives total_protocol packets here what → Goal (step_from stack here id states what)
  unfolding now
  steps states what h arrives = subst (λ ss. Goal (step_from stack here id ss what)) (sym h.states_are)
      (by_what h.n h.ltime h.out h.next h.delivered h.orders h.at_home what arrives)

pub total_is_proved : TotalIsProved
total_is_proved members =
    let v = first_view members in record {
      begins = λ id me at. record {
        n = member_count v;
        ltime = v.ltime;
        out = 0;
        next = 0;
        states_are = refl;
        delivered = refl;
        orders = λ first. refl;
        at_home = λ first. refl;
      };
      others = others;
      sent = sent_stays;
      tells = λ packets more name list place x is. order_stays packets more place x is;
      steps = λ group stamp packets entries id me states what at few h arrives.
          steps v group stamp packets entries id me at few states what h arrives;
    }
