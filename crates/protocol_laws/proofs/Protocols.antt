-- A protocol that is proved step by step keeps its order in every run.
use Rattle.std.proofs.Common.{◌≡◌, ◌≢◌, ℕ, zero, suc, ◌+◌, ◌<◌, ◌≤◌, ◌^◌, List, [], ◌∷◌, ◌++◌, map, length, refl, sym}
use Rattle.std.proofs.Common.{ap}
use Rattle.std.proofs.Common.{subst, ◌∙◌, arith, Option, Some, None}
use Rattle.std.specs.Prelude.{slice_set, slice_index_or, option_to_list}
use Rattle.std.specs.List.{AllByRecursion, enumerate_from, flat_map, range_with_len}
use Rattle.std.specs.Option.{option_map_or}
use Rattle.std.proofs.lemmas.List.{append-nil, length-append}
use Rattle.msg_core.specs.View.{rank, member_count, first_view}
use Rattle.msg_core.specs.declared.packet.Packet.{Packet}
use Rattle.msg_core.specs.declared.packet.View.{View}
use Rattle.script_mean.specs.declared.script.Script.{Script}
use Rattle.audit_mean.specs.Line.{ReportLine, silent, end}
use Rattle.audit_mean.specs.Segment.{Entry, entries_of}
use Rattle.audit_mean.specs.Clash.{clashes_of}
use Rattle.layer_mean.specs.Tree.{LayerTree}
use Rattle.layer_mean.specs.State.{State}
use Rattle.layer_mean.specs.Visit.{fresh}
use Rattle.packet_mean.specs.Received.{IsFor}
use Rattle.packet_mean.specs.declared.here.Here.{Here}
use Rattle.stack_mean.specs.Plans.{plans_of}
use Rattle.run_mean.specs.Member.{Member, inside, out, opened_member, Entered, app_cast, app_send, app_leave}
use Rattle.run_mean.specs.Member.{clock_tick}
use Rattle.run_mean.specs.Member.{from_peer, step_from}
use Rattle.run_mean.specs.World.{World, member_at, here_of, world_after, first_world}
use Rattle.run_mean.specs.Report.{run_of}
use Rattle.order_laws.specs.Deliveries.{AreTold}
use Rattle.order_laws.specs.Said.{output_said, installed_said, step_said, moment_said}
use Rattle.order_laws.specs.Calm.{AreCalm, deliveries_from}
use Rattle.order_laws.proofs.Told.{told_keep, told_both, told_more}
use Rattle.order_laws.proofs.Calm.{calm_both, deliveries_both, calm_deliveries}
use Rattle.protocol_laws.specs.Runs.{Comes, IsKept, all_sent}
use Rattle.protocol_laws.specs.Protocol.{Protocol, IsIn, IsMember, Stands, sent_in, Leaves, Yields}
use Rattle.protocol_laws.specs.Protocol.{here_at}
use Rattle.protocol_laws.specs.Protocol.{Arrives, IsProved, ProtocolsKeep}
use Rattle.protocol_laws.proofs.Lists.{get_both, set_all, one_rank}
use Rattle.protocol_laws.proofs.Runs.{runs_keep}
use Rattle.protocol_laws.proofs.Steps.{sent_from, outputs_calm, delivered_of}

module _ (stack : List LayerTree) (v : View) (p : Protocol) (proved : IsProved stack v p) where
  -- the property that is kept: no line told of a view, and the protocol stands after the deliveries so far
  abbrev Stood : ℕ → World → List ReportLine → Type 0
  Stood left w past = AreCalm past × Stands p v left w (deliveries_from 1 past)

  fewer : (left : ℕ) (w : World) (past : List ReportLine) → Stood (suc left) w past → Stood left w past
  fewer left w past h = (
    h.0,
    record {
      members = h.1.members;
      packets = h.1.packets;
      told = h.1.told;
      few = let few : length w.packets + suc left < 2 ^ 32 = h.1.few in omega (arith, few);
    },
  )

  silence : (left : ℕ) (w : World) (past : List ReportLine) → Stood left w past → Stood left w (past ++ silent ∷ [])
  silence left w past h = (
    calm_both past (silent ∷ []) h.0 (tt, tt),
    subst (Stands p v left w)
        (sym (deliveries_both 1 past (silent ∷ []) ∙ append-nil (deliveries_from 1 past))) h.1,
  )

  -- another member, after what this one sent and delivered
  other_stays : (packets more : List Packet) (entries delivered : List Entry) (i id me : ℕ) → (i ≢ id) →
      rank v id ≡ Some me → AllByRecursion (λ q. q.sender ≡ me) more →
      AllByRecursion (λ e. e.member ≡ id) delivered → (m : Member) → IsMember p v packets entries i m →
      IsMember p v (packets ++ more) (entries ++ delivered) i m
  other_stays packets more entries delivered i id me ne at from of out h = tt
  other_stays packets more entries delivered i id me ne at from of (inside view states) h = record {
    me = h.me;
    view_is = h.view_is;
    rank_is = h.rank_is;
    at = proved.others packets more entries delivered i h.me states
        (record {
          other = id;
          rank = me;
          other_id = λ e. ne (sym e);
          other_rank = λ e. ne (one_rank v i id h.me h.rank_is (at ∙ ap Some e));
          senders = from;
          members = of;
        })
        h.at;
  }

  -- the world after a step that installs nothing
  abbrev grown : World → ℕ → List State → List Packet → World
  grown w id states more = record w {
    members = slice_set w.members id (inside v states);
    packets = w.packets ++ more;
  }

  stands_on : (left : ℕ) (w : World) (entries : List Entry) (id me : ℕ) (states : List State) (more : List Packet)
      (delivered : List Entry) →
      rank v id ≡ Some me → Stands p v (suc left) w entries → Leaves p w.packets entries id me states more delivered →
      length more ≤ 1 → AllByRecursion (λ q. q.sender ≡ me) more →
      AllByRecursion (λ e. e.member ≡ id) delivered →
      Stands p v left (grown w id states more) (entries ++ delivered)
  stands_on left w entries id me states more delivered at h leaves one from of = record {
    members = set_all (λ i m. IsMember p v (w.packets ++ more) (entries ++ delivered) i m) out (λ i. tt) w.members id
        (inside v states)
        (λ i ne. other_stays w.packets more entries delivered i id me ne at from of (member_at w i) (h.members i))
        (record { me = me; view_is = refl; rank_is = at; at = leaves.at });
    packets = get_both (p.IsSent (w.packets ++ more)) w.packets more
        (λ k q listed. proved.sent w.packets more q (h.packets k q listed)) leaves.sent;
    told = told_both p.lists (p.table (w.packets ++ more)) [] entries delivered
        (told_more p.lists (p.table w.packets) (p.table (w.packets ++ more)) (proved.tells w.packets more) [] entries
        h.told)
        leaves.told;
    few =
        let few : length w.packets + suc left < 2 ^ 32 = h.few in
        let longer : length (w.packets ++ more) ≡ length w.packets + length more = length-append w.packets more in
        omega (arith, few, longer, one);
  }

  -- so after a step, whatever it says to install, if that is nothing
  installs_none : (left : ℕ) (w : World) (past : List ReportLine) (id : ℕ) (states : List State) (more : List Packet)
      (lines : List ReportLine) (o : Option Member) →
      o ≡ None → Stood left (grown w id states more) (past ++ lines) →
      Stood left
      (record w {
        members = slice_set w.members id (option_map_or (λ m. m) o (inside v states));
        packets = w.packets ++
            more;
      })
      (past ++ (lines ++ map (installed_said id) (option_to_list o)))
  installs_none left w past id states more lines None is h =
      subst (λ ls. Stood left (grown w id states more) (past ++ ls)) (sym (append-nil lines)) h
  installs_none left w past id states more lines (Some m) is h = absurd (cc is)

  yields_on : (left : ℕ) (w : World) (past : List ReportLine) (id me : ℕ) (here : Here) (states : List State)
      (what : Entered) →
      rank v id ≡ Some me → here.rank ≡ me → Stood (suc left) w past →
      Yields p w.packets (deliveries_from 1 past) id me (step_from stack here id states what) →
      Stood left (world_after w v id (step_from stack here id states what))
      (past ++ step_said id (step_from stack here id states what))
  yields_on left w past id me here states what at own h yields =
      let s = step_from stack here id states what in
      let lines = flat_map (output_said id) s.outputs in
      installs_none left w past id s.work.states (sent_in s) lines s.installs yields.stays (
        calm_both past lines h.0 (outputs_calm id s.outputs),
        subst (Stands p v left (grown w id s.work.states (sent_in s)))
            (sym (deliveries_both 1 past lines))
            (stands_on left w (deliveries_from 1 past) id me s.work.states (sent_in s)
            (deliveries_from (1 + length past) lines) at h.1 (yields.leaves (1 + length past)) yields.one
            (subst (λ r. AllByRecursion (λ q. q.sender ≡ r) (sent_in s)) own (sent_from here s.work.outs))
            (delivered_of (1 + length past) id s.outputs)),
      )

  arrives : (left : ℕ) (w : World) (entries : List Entry) (id me : ℕ) (what : Entered) → Stands p v left w entries →
      Comes w v id what → here_of w v id ≡ here_at w.group w.stamp v me →
      Arrives p w.packets (here_at w.group w.stamp v me) what
  arrives left w entries id me (app_cast body) h comes is = tt
  arrives left w entries id me (app_send to body) h comes is = tt
  arrives left w entries id me app_leave h comes is = tt
  arrives left w entries id me (clock_tick moment) h comes is = tt
  arrives left w entries id me (from_peer q) h comes is = record {
    listed = comes.0;
    sent = h.packets comes.0.place q comes.0.listed;
    meant = subst (λ here. IsFor here q) is comes.1;
  }

  step_on : (left : ℕ) (w : World) (past : List ReportLine) (id : ℕ) (states : List State) (what : Entered) →
      Stood (suc left) w past → IsIn p v w.packets (deliveries_from 1 past) id v states → Comes w v id what →
      Stood left (world_after w v id (step_from stack (here_of w v id) id states what))
      (past ++ step_said id (step_from stack (here_of w v id) id states what))
  step_on left w past id states what h is comes =
      let here : here_of w v id ≡ here_at w.group w.stamp v is.me =
      ap (λ (o : Option ℕ). here_at w.group w.stamp v (option_map_or (λ r. r) o 0)) is.rank_is in
      let few : length w.packets + suc left < 2 ^ 32 = h.1.few in
      yields_on left w past id is.me (here_of w v id) states what is.rank_is (ap (λ at. at.rank) here) h
      (subst (λ at. Yields p w.packets (deliveries_from 1 past) id is.me (step_from stack at id states what)) (sym here)
      (proved.steps w.group w.stamp w.packets (deliveries_from 1 past) id is.me states what is.rank_is
      (omega (arith, few)) is.at
      (arrives (suc left) w (deliveries_from 1 past) id is.me what h.1 comes here)))

  in_view : (left : ℕ) (w : World) (past : List ReportLine) (id : ℕ) (view : View) (states : List State)
      (what : Entered) →
      Stood (suc left) w past → view ≡ v → IsIn p v w.packets (deliveries_from 1 past) id view states →
      Comes w view id what →
      Stood left (world_after w view id (step_from stack (here_of w view id) id states what))
      (past ++ step_said id (step_from stack (here_of w view id) id states what))
  in_view left w past id view states what h same is comes =
      subst (λ u. IsIn p v w.packets (deliveries_from 1 past) id u states → Comes w u id what →
      Stood left (world_after w u id (step_from stack (here_of w u id) id states what))
      (past ++ step_said id (step_from stack (here_of w u id) id states what)))
      (sym same) (λ is comes. step_on left w past id states what h is comes) is comes

  stood_kept : IsKept stack Stood
  stood_kept = record {
    passes = fewer;
    silence = silence;
    steps = λ left w past id view states what h at comes.
        let is : IsMember p v w.packets (deliveries_from 1 past) id (inside view states) =
        subst (IsMember p v w.packets (deliveries_from 1 past) id) at (h.1.members id) in
        in_view left w past id view states what h is.view_is is comes;
  }

  -- the members of the first world
  opened_is : (id : ℕ) (o : Option ℕ) → rank v id ≡ o → IsMember p v [] [] id
      (option_map_or (λ me. inside v (map (λ layer. fresh layer me (member_count v) v.ltime) stack)) o out)
  opened_is id None at = tt
  opened_is id (Some me) at =
      record { me = me; view_is = refl; rank_is = at; at = proved.begins id me at }

at_map : (P : ℕ → Member → Type 0) (f : ℕ → Member) → ((i : ℕ) → P i (f i)) → ((i : ℕ) → P i out) →
    (n start i : ℕ) → P (start + i) (slice_index_or (map f (range_with_len start n)) i out)
at_map P f each none zero start i = none (start + i)
at_map P f each none (suc n) start zero = subst (λ k. P k (f start)) (omega arith) (each start)
at_map P f each none (suc n) start (suc i) =
    subst (λ k. P k (slice_index_or (map f (range_with_len (start + 1) n)) i out)) (omega arith)
    (at_map P f each none n (start + 1) i)

first_stands : (stack : List LayerTree) (p : Protocol) (s : Script) → length s.events < 2 ^ 32 →
    IsProved stack (first_view s.members) p →
    Stands p (first_view s.members) (length s.events) (first_world stack s.group s.stamp s.members) []
first_stands stack p s few proved = record {
  members = λ id.
      let none : 0 + id ≡ id = omega arith in
      subst (λ i. IsMember p (first_view s.members) [] [] i
      (slice_index_or (map (opened_member stack (first_view s.members)) (range_with_len 0 s.members)) id out)) none
      (at_map (IsMember p (first_view s.members) [] []) (opened_member stack (first_view s.members))
      (λ i. opened_is stack (first_view s.members) p proved i (rank (first_view s.members) i) refl) (λ i. tt)
      s.members 0 id);
  packets = λ k q at. absurd (cc at);
  told = tt;
  few = omega (arith, few);
}

pub protocols_keep : ProtocolsKeep
protocols_keep stack p s typed fair few proved =
    let v = first_view s.members in
    let lines = flat_map (moment_said stack) (run_of stack (plans_of stack) s) in
    let ends = runs_keep stack (Stood stack v p proved) s typed (stood_kept stack v p proved) fair
    (tt, first_stands stack p s few proved) in
    let calm = calm_both lines (end ∷ []) ends.0 (tt, tt) in
    let entries : entries_of (enumerate_from 1 (lines ++ end ∷ [])) ≡ deliveries_from 1 lines =
    calm_deliveries (lines ++ end ∷ []) calm ∙ deliveries_both 1 lines (end ∷ [])
    ∙ append-nil (deliveries_from 1 lines) in
    let told = ends.1.told in
    let packets = all_sent stack s in
    record {
      told = subst (AreTold p.lists (p.table packets) []) (sym entries) told;
      kept = ap (clashes_of p.lists) entries
          ∙ told_keep p.lists (p.table packets) (deliveries_from 1 lines) told;
    }
