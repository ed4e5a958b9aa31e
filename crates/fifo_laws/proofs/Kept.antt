-- Each step of `fifo` keeps what the proof says of members, packets and deliveries.
use Rattle.std.proofs.Common.{◌≡◌, ◌≢◌, ℕ, ◌+◌, ◌==◌, ◌<◌, ◌%◌, ◌^◌, Bool, true, false, List, [], ◌∷◌, ◌++◌}
use Rattle.std.proofs.Common.{length, refl, sym, ap, subst, ◌∙◌, arith, Some, replicate}
use Rattle.std.proofs.Common.{get_or-set_same, get_or-set_other, length-set}
use Rattle.std.specs.Prelude.{slice_get, slice_set, slice_index}
use Rattle.std.specs.List.{AllByRecursion}
use Rattle.std.proofs.Math.Nat.{mod-eq_of_lt}
use Rattle.std.proofs.lemmas.Bool.{eqb-true, eq-eqb}
use Rattle.std.proofs.lemmas.List.{append-nil, length-append, get_or-replicate, length-replicate}
use Rattle.std.proofs.lemmas.Option.{slice_get_within}
use Rattle.msg_core.specs.View.{rank, member_count, first_view}
use Rattle.msg_core.specs.declared.packet.Dest.{Dest}
use Rattle.msg_core.specs.declared.packet.Dest.TheVariants.{All, Rank}
use Rattle.msg_core.specs.declared.packet.Packet.{Packet}
use Rattle.msg_core.specs.declared.packet.View.{View}
use Rattle.script_mean.specs.Words.{Word}
use Rattle.script_mean.specs.EventText.{hex_text}
use Rattle.audit_mean.specs.Segment.{Entry}
use Rattle.layer_mean.specs.State.{State}
use Rattle.packet_mean.specs.declared.here.Here.{Here}
use Rattle.run_mean.specs.Member.{Entered, app_cast, app_send, app_leave, clock_tick, from_peer, Step, step_from}
use Rattle.run_mean.specs.Member.{packet_to}
use Rattle.protocol_laws.specs.Protocol.{Leaves, Yields, here_at, Arrives, IsOther}
use Rattle.protocol_laws.proofs.Lists.{get_last}
use Rattle.fifo_laws.specs.Layer.{stack}
use Rattle.fifo_laws.specs.Steps.{holding, numbered, numbered_packet, after_given, is_bare, after_send_given, goes_out}
use Rattle.fifo_laws.specs.Steps.{after_send, sent_down}
use Rattle.fifo_laws.specs.Protocol.{casts_of, IsSentTo, delivery, got, HasCounted, fifo_protocol, FifoIsProved}
use Rattle.fifo_laws.proofs.Steps.{steps_are}
use Rattle.fifo_laws.proofs.Casts.{casts_both, cast_stays, sent_stays, no_casts, send_no_cast, casts_few, got_others}
use Rattle.fifo_laws.proofs.Casts.{got_own}
use Rattle.fifo_laws.proofs.Casts.{got_peer}

module _ (v : View) where
  -- another member's packets and deliveries change nothing
  others : (packets more : List Packet) (entries delivered : List Entry) (id me : ℕ) (states : List State) →
      IsOther id me more delivered → HasCounted v packets entries id me states →
      HasCounted v (packets ++ more) (entries ++ delivered) id me states
  others packets more entries delivered id me states is h = record {
    n = h.n;
    ltime = h.ltime;
    k = h.k;
    e = h.e;
    states_are = h.states_are;
    counted = h.counted
        ∙ ap length (sym (casts_both packets more me
        ∙ ap (λ xs. casts_of packets me ++ xs) (no_casts more me is.rank is.other_rank is.senders)
        ∙ append-nil (casts_of packets me)));
    row = h.row;
    due = λ peer below. h.due peer below
        ∙ sym (got_others entries delivered id peer is.other is.other_id is.members);
  }

  module _ (group stamp : ℕ) (packets : List Packet) (entries : List Entry) (id me : ℕ) (at : rank v id ≡ Some me)
      (few : length packets + 1 < 2 ^ 32) where
    abbrev here : Here
    here = here_at group stamp v me

    -- the goal of a step, and of one from these states
    abbrev Goal : Step → Type 0
    Goal s = Yields (fifo_protocol v) packets entries id me s

    -- the cells of the member, as the proof knows them
    module _ (n ltime k : ℕ) (e : List ℕ) (counted : k ≡ length (casts_of packets me)) (row : length e ≡ member_count v)
        (due : (peer : ℕ) → peer < member_count v → slice_index e peer ≡ got entries id peer) where
      now : State
      now = holding me n ltime k e

      -- the state stays, and none of the member's casts is among what is sent
      calm : (more : List Packet) → casts_of more me ≡ [] →
          AllByRecursion (λ q. IsSentTo (packets ++ more) q q.dest) more →
          Leaves (fifo_protocol v) packets entries id me (now ∷ []) more []
      unfolding now
      calm more none sent = record {
        at = subst (λ es. HasCounted v (packets ++ more) es id me (now ∷ [])) (sym (append-nil entries))
            (record {
              n = n;
              ltime = ltime;
              k = k;
              e = e;
              states_are = refl;
              counted = counted
                  ∙ ap length (sym (casts_both packets more me ∙ ap (λ xs. casts_of packets me ++ xs) none
                  ∙ append-nil (casts_of packets me)));
              row = row;
              due = due;
            });
        sent = sent;
        told = tt;
      }

      -- the application casts: the packet carries the number of the cast

      cast_packet : List ℕ → Packet
      cast_packet body = record {
        group = group;
        stamp = stamp;
        view = v;
        sender = me;
        dest = All;
        message = numbered k body;
      }

      own_casts : (body : List ℕ) →
          casts_of (packets ++ cast_packet body ∷ []) me ≡ casts_of packets me ++ (me, hex_text body) ∷ []
      unfolding cast_packet
      own_casts body = casts_both packets (cast_packet body ∷ []) me ∙ (rw (eq-eqb me me refl) refl)

      casts : (body : List ℕ) → Goal (step_from stack here id (now ∷ []) (app_cast body))
      unfolding now cast_packet
      casts body = subst Goal (sym (steps_are.cast here id me n ltime k e body)) (record {
        stays = refl;
        one = omega arith;
        leaves = λ line. record {
          at = subst (λ es. HasCounted v (packets ++ cast_packet body ∷ []) es id me
              (holding me n ltime ((k + 1) % 2 ^ 32) e ∷ [])) (sym (append-nil entries))
              (record {
                n = n;
                ltime = ltime;
                k = (k + 1) % 2 ^ 32;
                e = e;
                states_are = refl;
                counted =
                    let small : k + 1 < 2 ^ 32 = omega (arith, few, counted, casts_few packets me) in
                    mod-eq_of_lt small ∙ ap (λ x. x + 1) counted
                    ∙ sym (length-append (casts_of packets me) ((me, hex_text body) ∷ []))
                    ∙ ap length (sym (own_casts body));
                row = row;
                due = due;
              });
          sent = (
            record {
              number = k;
              message = refl;
              cast = subst (λ xs. slice_get xs k ≡ Some (me, hex_text body)) (sym (own_casts body))
                  (subst (λ x. slice_get (casts_of packets me ++ (me, hex_text body) ∷ []) x ≡ Some (me, hex_text body))
                  (sym counted) (get_last (casts_of packets me) (me, hex_text body)));
            },
            tt,
          );
          told = tt;
        };
      })

      -- a cast arrives: it is delivered where it is due

      due_by : (line sender q : ℕ) (body : Word) → q ≡ got entries id sender → q + 1 < 2 ^ 32 → sender < length e →
          (peer : ℕ) → peer < member_count v → (b : Bool) → (sender == peer) ≡ b →
          slice_index (slice_set e sender ((q + 1) % 2 ^ 32)) peer ≡
          got (entries ++ delivery line id sender body ∷ []) id peer
      due_by line sender q body q_is small there peer below true same =
          subst (λ x. slice_index (slice_set e sender ((q + 1) % 2 ^ 32)) x ≡
          got (entries ++ delivery line id sender body ∷ []) id x) (eqb-true sender peer same)
          (get_or-set_same e sender ((q + 1) % 2 ^ 32) 0 there ∙ mod-eq_of_lt small ∙ ap (λ x. x + 1) q_is
          ∙ sym (got_own entries line id sender body))
      due_by line sender q body q_is small there peer below false differ =
          let ne : (sender ≢ peer) = λ is. absurd (cc (differ, eq-eqb sender peer is)) in
          get_or-set_other e sender peer ((q + 1) % 2 ^ 32) 0 (λ is. ne (sym is)) ∙ due peer below
          ∙ sym (got_peer entries line id sender body peer ne)

      delivers : (line sender q : ℕ) (body : List ℕ) → sender < member_count v →
          slice_get (casts_of packets sender) q ≡ Some (sender, hex_text body) → q ≡ slice_index e sender →
          Leaves (fifo_protocol v) packets entries id me
          (holding me n ltime k (slice_set e sender ((q + 1) % 2 ^ 32)) ∷ []) []
          (delivery line id sender (hex_text body) ∷ [])
      delivers line sender q body below is_cast is_due =
          let q_is : q ≡ got entries id sender = is_due ∙ due sender below in
          let within = slice_get_within (casts_of packets sender) q (sender, hex_text body) is_cast in
          let small : q + 1 < 2 ^ 32 = omega (arith, few, within, casts_few packets sender) in
          let there : sender < length e = subst (λ x. sender < x) (sym row) below in
          let told = subst (λ x. slice_get (casts_of packets sender) x ≡ Some (sender, hex_text body)) q_is is_cast in
          record {
            at = subst (λ ps. HasCounted v ps (entries ++ delivery line id sender (hex_text body) ∷ []) id me
                (holding me n ltime k (slice_set e sender ((q + 1) % 2 ^ 32)) ∷ [])) (sym (append-nil packets))
                (record {
                  n = n;
                  ltime = ltime;
                  k = k;
                  e = slice_set e sender ((q + 1) % 2 ^ 32);
                  states_are = refl;
                  counted = counted;
                  row = length-set e sender ((q + 1) % 2 ^ 32) ∙ row;
                  due = λ peer small_peer.
                      due_by line sender q (hex_text body) q_is small there peer small_peer (sender == peer) refl;
                });
            sent = tt;
            told = (
              subst (λ ps. slice_get (casts_of ps sender) (got entries id sender) ≡ Some (sender, hex_text body))
                  (sym (append-nil packets)) told,
              tt,
            );
          }

      by_due : (there : Here) (sender q : ℕ) (body : List ℕ) → sender < member_count v →
          slice_get (casts_of packets sender) q ≡ Some (sender, hex_text body) → (b : Bool) →
          (q == slice_index e sender) ≡ b →
          Goal (after_given (numbered_packet there sender q body) me n ltime k e q body b)
      unfolding now
      by_due there sender q body below is_cast true is = record {
        stays = refl;
        one = omega arith;
        leaves = λ line. delivers line sender q body below is_cast (eqb-true q (slice_index e sender) is);
      }
      by_due there sender q body below is_cast false is =
          record { stays = refl; one = omega arith; leaves = λ line. calm [] refl tt }

      cast_given : (there : Here) (sender q : ℕ) (body : List ℕ) → sender < member_count v →
          slice_get (casts_of packets sender) q ≡ Some (sender, hex_text body) →
          Goal (step_from stack here id (now ∷ []) (from_peer (numbered_packet there sender q body)))
      unfolding now
      cast_given there sender q body below is_cast =
          subst Goal (sym (steps_are.given here there id me n ltime k e sender q body))
          (by_due there sender q body below is_cast (q == slice_index e sender) refl)

      -- a send arrives, delivered or dropped

      send_given_by : (p : Packet) (r : ℕ) (b : Bool) → Goal (after_send_given (record p { dest = Rank r }) now b)
      send_given_by p r true = record { stays = refl; one = omega arith; leaves = λ line. calm [] refl tt }
      send_given_by p r false = record { stays = refl; one = omega arith; leaves = λ line. calm [] refl tt }

      by_dest : (p : Packet) → p.sender < member_count v → (d : Dest) → p.dest ≡ d → IsSentTo packets p d →
          Goal (step_from stack here id (now ∷ []) (from_peer p))
      by_dest p below All is sent =
          subst (λ d. Goal (step_from stack here id (now ∷ []) (from_peer (record p { dest = d })))) (sym is)
          (subst (λ m. Goal (step_from stack here id (now ∷ []) (from_peer (record p { dest = All; message = m }))))
          (sym sent.message)
          (cast_given (record { group = p.group; stamp = p.stamp; view = p.view; rank = 0 }) p.sender sent.number
          p.message.body below sent.cast))
      by_dest p below (Rank r) is sent =
          subst (λ d. Goal (step_from stack here id (now ∷ []) (from_peer (record p { dest = d })))) (sym is)
          (subst Goal (sym (steps_are.send_given here id p r now)) (send_given_by p r (is_bare p.message)))

      -- the application sends, to another rank or to none

      sends_by : (to : ℕ) (body : List ℕ) (b : Bool) → Goal (after_send here to body now b)
      sends_by to body true = record {
        stays = refl;
        one = omega arith;
        leaves = λ line. calm (packet_to here (Rank to) (sent_down to body) ∷ [])
            (send_no_cast (packet_to here (Rank to) (sent_down to body)) to me) (tt, tt);
      }
      sends_by to body false = record { stays = refl; one = omega arith; leaves = λ line. calm [] refl tt }

      by_what : (what : Entered) → Arrives (fifo_protocol v) packets here what →
          Goal (step_from stack here id (now ∷ []) what)
      by_what (app_cast body) arrives = casts body
      by_what (app_send to body) arrives =
          subst Goal (sym (steps_are.send here id to body now)) (sends_by to body (goes_out here to))
      by_what app_leave arrives = subst Goal (sym (steps_are.leave here id now))
          (record { stays = refl; one = omega arith; leaves = λ line. calm [] refl tt })
      by_what (clock_tick moment) arrives = subst Goal (sym (steps_are.tick here id moment now))
          (record { stays = refl; one = omega arith; leaves = λ line. calm [] refl tt })
      by_what (from_peer p) arrives = by_dest p arrives.meant.sender p.dest refl arrives.sent

    steps : (states : List State) (what : Entered) → HasCounted v packets entries id me states →
        Arrives (fifo_protocol v) packets here what → Goal (step_from stack here id states what)
    unfolding now
    steps states what h arrives = subst (λ ss. Goal (step_from stack here id ss what)) (sym h.states_are)
        (by_what h.n h.ltime h.k h.e h.counted h.row h.due what arrives)

pub fifo_is_proved : FifoIsProved
fifo_is_proved members =
    let v = first_view members in record {
      begins = λ id me at. record {
        n = member_count v;
        ltime = v.ltime;
        k = 0;
        e = replicate (member_count v) 0;
        states_are = refl;
        counted = refl;
        row = length-replicate (member_count v) 0;
        due = λ peer below. get_or-replicate (member_count v) peer 0 0 below;
      };
      others = others v;
      sent = sent_stays;
      tells = λ packets more name peer place x is. cast_stays packets more peer place x is;
      steps = λ group stamp packets entries id me states what at few h arrives.
          steps v group stamp packets entries id me at few states what h arrives;
    }
