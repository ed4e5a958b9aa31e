-- The datagrams of a run are those of its packets, and its lines are the report's with their bytes between.
use Rattle.std.proofs.Common.{◌≡◌, ◌∙◌, ℕ, zero, suc, ◌+◌, List, [], ◌∷◌, ◌++◌, map, length, Option, Some, None, refl}
use Rattle.std.proofs.Common.{sym, ap, subst, arith}
use Rattle.std.specs.Prelude.{slice_get, Result, Ok, Err, option_to_list}
use Rattle.std.specs.List.{AllByRecursion, filter_map, flat_map, range_with_len, sum_by}
use Rattle.std.proofs.lemmas.List.{append-nil, append_assoc, map-append}
use Rattle.std.proofs.lemmas.List.Concat.{flat_map-append}
use Rattle.std.proofs.lemmas.List.Elements.{filter_map-append}
use Rattle.msg_core.specs.declared.packet.Packet.{Packet}
use Rattle.msg_core.specs.declared.packet.View.{View}
use Rattle.layer_mean.specs.Tree.{LayerTree}
use Rattle.layer_mean.specs.State.{State}
use Rattle.packet_mean.specs.Spelling.{full_bytes}
use Rattle.stack_mean.specs.Plan.{Plan}
use Rattle.chain_laws.proofs.Lists.{each_append}
use Rattle.script_mean.specs.Event.{member_of}
use Rattle.script_mean.specs.declared.event.ScriptEvent.{ScriptEvent}
use Rattle.script_mean.specs.declared.event.ScriptEvent.TheVariants as script
use Rattle.run_mean.specs.Mode.{Mode}
use Rattle.run_mean.specs.Common.{plan_for, plan_after, with_plans, short_from, as_sent, wire}
use Rattle.run_mean.specs.Lines.{packet_line, wire_line}
use Rattle.run_mean.specs.Member.{Member, inside, out, Input, cast, send, leave, tick, datagram, Refusal, Entered}
use Rattle.run_mean.specs.Member.{entered_input, Output, deliver_cast, deliver_send, block, announce, packet, nowhere}
use Rattle.run_mean.specs.Member.{timer}
use Rattle.run_mean.specs.Member.{quiet, packet_in, step_from}
use Rattle.run_mean.specs.World.{World, Did, taken, refused, absent, shown, Happening, member_at, packet_number}
use Rattle.run_mean.specs.World.{here_of, stepped_inside, stepped_of, step_happening, given_packet, happens}
use Rattle.run_mean.specs.Report.{Moment, moments, first_number, no_annex, wire_annex, lines_of_outputs, step_lines}
use Rattle.run_mean.specs.Report.{lines_of, moment_lines, installed_line, end_line, visits_line, visits_of}
use Rattle.member_laws.proofs.Lists.{following}
use Rattle.replay_laws.specs.Datagrams.{Datagram, datagrams_from, did_send, datagrams, world_after}
use Rattle.replay_laws.specs.Datagrams.{DatagramsAreNumbered, Said, with_bytes, IsSaid, AreWoven, LinesAreWoven}

-- the packets of datagrams

packets_from : (plans : List Plan) (id k : ℕ) (next : Option ℕ) (outputs : List Output) →
    map (λ d. d.packet) (datagrams_from plans id k (with_plans plans next outputs)) ≡ filter_map packet_in outputs
packets_from plans id k next [] = refl
packets_from plans id k next (packet p ∷ outputs) = ap (λ ps. p ∷ ps) (packets_from plans id (k + 1) _ outputs)
packets_from plans id k next (deliver_cast peer body ∷ outputs) = packets_from plans id k _ outputs
packets_from plans id k next (deliver_send peer body ∷ outputs) = packets_from plans id k _ outputs
packets_from plans id k next (block n ∷ outputs) = packets_from plans id k _ outputs
packets_from plans id k next (announce n ∷ outputs) = packets_from plans id k _ outputs
packets_from plans id k next (nowhere ∷ outputs) = packets_from plans id k _ outputs
packets_from plans id k next (timer n ∷ outputs) = packets_from plans id k _ outputs
packets_from plans id k next (quiet dir e ∷ outputs) = packets_from plans id k _ outputs

abbrev numbers_of : List Datagram → List ℕ
numbers_of ds = map (λ d. d.number) ds

numbers_from : (plans : List Plan) (id k : ℕ) (sent : List (Output × Option ℕ)) →
    numbers_of (datagrams_from plans id k sent) ≡ range_with_len k (length (datagrams_from plans id k sent))
numbers_from plans id k [] = refl
numbers_from plans id k ((packet p, plan) ∷ sent) = ap (λ ns. k ∷ ns) (numbers_from plans id (k + 1) sent)
numbers_from plans id k ((deliver_cast peer body, plan) ∷ sent) = numbers_from plans id k sent
numbers_from plans id k ((deliver_send peer body, plan) ∷ sent) = numbers_from plans id k sent
numbers_from plans id k ((block n, plan) ∷ sent) = numbers_from plans id k sent
numbers_from plans id k ((announce n, plan) ∷ sent) = numbers_from plans id k sent
numbers_from plans id k ((nowhere, plan) ∷ sent) = numbers_from plans id k sent
numbers_from plans id k ((timer n, plan) ∷ sent) = numbers_from plans id k sent
numbers_from plans id k ((quiet dir e, plan) ∷ sent) = numbers_from plans id k sent

-- what an event sends is numbered on from the packets before it, and stands after these
record Sends (mode : Mode) (stack : List LayerTree) (plans : List Plan) (w : World) (id : ℕ) (h : Happening) : Type 0
  where
    packets : h.world.packets ≡ w.packets ++
        map (λ d. d.packet) (did_send mode stack plans id (length w.packets + 1) h.did)
    numbers : numbers_of (did_send mode stack plans id (length w.packets + 1) h.did)
        ≡ range_with_len (length w.packets + 1) (length (did_send mode stack plans id (length w.packets + 1) h.did))

module _ (mode : Mode) (stack : List LayerTree) (plans : List Plan) (w : World) where
  nothing : (id : ℕ) → Sends mode stack plans w id (record { world = w; did = absent })
  nothing id = record { packets = sym (append-nil w.packets); numbers = refl }

  inside_sends : (id : ℕ) (view : View) (states : List State) (r : Result Entered Refusal) →
      Sends mode stack plans w id (stepped_inside stack w id view states r)
  inside_sends id view states (Err refusal) = record { packets = sym (append-nil w.packets); numbers = refl }
  inside_sends id view states (Ok what) = let s = step_from stack (here_of w view id) id states what in record {
    packets = ap (λ ps. w.packets ++ ps)
        (sym (packets_from plans id (length w.packets + 1) (short_from mode stack plans s) s.outputs));
    numbers = numbers_from plans id (length w.packets + 1) (as_sent mode stack plans s);
  }

  member_sends : (id : ℕ) (input : Input) (m : Member) →
      Sends mode stack plans w id (stepped_of stack plans w id input m)
  member_sends id input out = record { packets = sym (append-nil w.packets); numbers = refl }
  member_sends id input (inside view states) =
      inside_sends id view states (entered_input stack plans (here_of w view id) input)

  stepped_sends : (id : ℕ) (input : Input) → Sends mode stack plans w id (step_happening stack plans w id input)
  stepped_sends id input = member_sends id input (member_at w id)

  given_sends : (id : ℕ) (p : Option Packet) → Sends mode stack plans w id (given_packet stack plans w id p)
  given_sends id None = nothing id
  given_sends id (Some p) = stepped_sends id (datagram (full_bytes p))

event_sends : (mode : Mode) (stack : List LayerTree) (plans : List Plan) (w : World) (e : ScriptEvent) →
    Sends mode stack plans w (member_of e) (happens stack plans w e)
unfolding happens
event_sends mode stack plans w (script.Cast id body) = stepped_sends mode stack plans w id (cast body)
event_sends mode stack plans w (script.Send id to body) = stepped_sends mode stack plans w id (send to body)
event_sends mode stack plans w (script.Leave id) = stepped_sends mode stack plans w id leave
event_sends mode stack plans w (script.Tick id moment) = stepped_sends mode stack plans w id (tick moment)
event_sends mode stack plans w (script.Give k id) = given_sends mode stack plans w id (packet_number w k)
event_sends mode stack plans w (script.Raw id bytes) = stepped_sends mode stack plans w id (datagram bytes)
event_sends mode stack plans w (script.Show id) = record { packets = sym (append-nil w.packets); numbers = refl }

-- the datagrams of a run

ranges : (k m n j : ℕ) → k + m ≡ j → range_with_len k m ++ range_with_len j n ≡ range_with_len k (m + n)
ranges k zero n j e =
    let same : j ≡ k = omega (arith, e) in
    let none : n ≡ 0 + n = omega arith in ap (λ i. range_with_len i n) same ∙ ap (range_with_len k) none
ranges k (suc m) n j e =
    let next : k + 1 + m ≡ j = omega (arith, e) in
    let more : suc (m + n) ≡ suc m + n = omega arith in
    ap (λ ns. k ∷ ns) (ranges (k + 1) m n j next) ∙ ap (range_with_len k) more

length_append : {A : Type 0} (xs ys : List A) → length (xs ++ ys) ≡ length xs + length ys
length_append [] ys = let e : length ys ≡ 0 + length ys = omega arith in e
length_append (x ∷ xs) ys = let e : suc (length xs + length ys) ≡ suc (length xs) + length ys = omega arith in
    ap suc (length_append xs ys) ∙ e

length_map : {A B : Type 0} (f : A → B) (xs : List A) → length (map f xs) ≡ length xs
length_map f [] = refl
length_map f (x ∷ xs) = ap suc (length_map f xs)

-- packets and numbers alone
record Continues (before after : World) (ds : List Datagram) : Type 0 where
  packets : after.packets ≡ before.packets ++ map (λ d. d.packet) ds
  numbers : numbers_of ds ≡ range_with_len (length before.packets + 1) (length ds)

go_on : (a b c : World) (ds es : List Datagram) → Continues a b ds → Continues b c es → Continues a c (ds ++ es)
go_on a b c ds es first second =
    let count : length b.packets ≡ length a.packets + length ds =
    ap length first.packets ∙ length_append a.packets (map (λ d. d.packet) ds)
    ∙ ap (λ n. length a.packets + n) (length_map (λ (d : Datagram). d.packet) ds) in
    let start : length a.packets + 1 + length ds ≡ length b.packets + 1 = omega (arith, count) in
    record {
      packets =
          second.packets ∙ ap (λ ps. ps ++ map (λ d. d.packet) es) first.packets
          ∙ append_assoc a.packets (map (λ d. d.packet) ds) (map (λ d. d.packet) es)
          ∙ ap (λ ps. a.packets ++ ps) (sym (map-append (λ (d : Datagram). d.packet) ds es));
      numbers =
          map-append (λ (d : Datagram). d.number) ds es ∙ ap (λ ns. ns ++ numbers_of es) first.numbers
          ∙ ap (λ ns. range_with_len (length a.packets + 1) (length ds) ++ ns) second.numbers
          ∙ ranges (length a.packets + 1) (length ds) (length es) (length b.packets + 1) start
          ∙ ap (range_with_len (length a.packets + 1)) (sym (length_append ds es));
    }

continues : (mode : Mode) (stack : List LayerTree) (plans : List Plan) (w : World) (events : List ScriptEvent) →
    Continues w (world_after w (moments stack plans w events))
    (datagrams mode stack plans (moments stack plans w events))
continues mode stack plans w [] = record { packets = sym (append-nil w.packets); numbers = refl }
continues mode stack plans w (e ∷ events) =
    let h = happens stack plans w e in
    let sends = event_sends mode stack plans w e in
    go_on w h.world (world_after h.world (moments stack plans h.world events))
    (did_send mode stack plans (member_of e) (length w.packets + 1) h.did)
    (datagrams mode stack plans (moments stack plans h.world events))
    (record { packets = sends.packets; numbers = sends.numbers })
    (continues mode stack plans h.world events)

-- each has its own packet's number
each_numbered : (after : World) (k : ℕ) (ds : List Datagram) → numbers_of ds ≡ range_with_len (k + 1) (length ds) →
    ((i : ℕ) → slice_get after.packets (k + i) ≡ slice_get (map (λ d. d.packet) ds) i) →
    AllByRecursion (λ d. packet_number after d.number ≡ Some d.packet) ds
each_numbered after k [] numbers there = tt
each_numbered after k (d ∷ ds) numbers there = (
  (
      let first : d.number ≡ k + 1 = heads numbers in
      let plain : k + 1 ≡ suc (k + 0) = omega arith in
      ap (packet_number after) (first ∙ plain) ∙ there 0
      ),
  each_numbered after (k + 1) ds (tails numbers)
      (λ i. let same : k + 1 + i ≡ k + suc i = omega arith in ap (slice_get after.packets) same ∙ there (suc i)),
) where
  heads : d.number ∷ numbers_of ds ≡ (k + 1) ∷ range_with_len (k + 1 + 1) (length ds) → d.number ≡ k + 1
  heads e = cc e

  tails : d.number ∷ numbers_of ds ≡ (k + 1) ∷ range_with_len (k + 1 + 1) (length ds) →
      numbers_of ds ≡ range_with_len (k + 1 + 1) (length ds)
  tails e = cc e

pub datagrams_are_numbered : DatagramsAreNumbered
datagrams_are_numbered mode stack plans w events =
    let run = moments stack plans w events in
    let c = continues mode stack plans w events in
    record {
      packets = c.packets;
      numbers = c.numbers;
      each = each_numbered (world_after w run) (length w.packets) (datagrams mode stack plans run) c.numbers
          (λ i. ap (λ ps. slice_get ps (length w.packets + i)) c.packets
          ∙ following w.packets (map (λ d. d.packet) (datagrams mode stack plans run)) i);
    }

-- lines

woven_both : (stack : List LayerTree) (r s v w : List (List ℕ)) (ds es : List Datagram) → AreWoven stack r v ds →
    AreWoven stack s w es →
    AreWoven stack (r ++ s) (v ++ w) (ds ++ es)
woven_both stack r s v w ds es a b = record {
  lines = a.lines ++ b.lines;
  report_is = map-append (λ (x : Said). x.0) a.lines b.lines ∙ λ i. a.report_is i ++ b.report_is i;
  written_is = flat_map-append with_bytes a.lines b.lines ∙ λ i. a.written_is i ++ b.written_is i;
  datagrams_are = filter_map-append (λ (x : Said). x.1) a.lines b.lines ∙ λ i. a.datagrams_are i ++ b.datagrams_are i;
  said = each_append (IsSaid stack) a.lines b.lines a.said b.said;
}

-- lines alone
plain_lines : (stack : List LayerTree) (lines : List (List ℕ)) → AreWoven stack lines lines []
plain_lines stack [] = record { lines = []; report_is = refl; written_is = refl; datagrams_are = refl; said = tt }
plain_lines stack (line ∷ lines) =
    let rest = plain_lines stack lines in record {
      lines = (line, None) ∷ rest.lines;
      report_is = ap (λ ls. line ∷ ls) rest.report_is;
      written_is = ap (λ ls. line ∷ ls) rest.written_is;
      datagrams_are = rest.datagrams_are;
      said = (tt, rest.said);
    }

one_line : (stack : List LayerTree) (line : List ℕ) (r v : List (List ℕ)) (ds : List Datagram) → AreWoven stack r v ds →
    AreWoven stack (line ∷ r) (line ∷ v) ds
one_line stack line r v ds a = record {
  lines = (line, None) ∷ a.lines;
  report_is = ap (λ ls. line ∷ ls) a.report_is;
  written_is = ap (λ ls. line ∷ ls) a.written_is;
  datagrams_are = a.datagrams_are;
  said = (tt, a.said);
}

outputs_woven : (stack : List LayerTree) (plans : List Plan) (id k : ℕ) (next : Option ℕ) (outputs : List Output) →
    AreWoven stack (lines_of_outputs stack no_annex id k (with_plans plans None outputs))
    (lines_of_outputs stack (wire_annex plans) id k (with_plans plans next outputs))
    (datagrams_from plans id k (with_plans plans next outputs))
outputs_woven stack plans id k next [] = plain_lines stack []
outputs_woven stack plans id k next (packet p ∷ outputs) =
    let a = outputs_woven stack plans id (k + 1) (plan_after next (packet p)) outputs in
    let d : Datagram = record
    { number = k; member = id; packet = p; bytes = wire plans p (plan_for plans next (packet p)) } in record {
      lines = (packet_line stack k id p, Some d) ∷ a.lines;
      report_is = ap (λ ls. packet_line stack k id p ∷ ls) a.report_is;
      written_is = ap (λ ls. packet_line stack k id p ∷ wire_line k d.bytes ∷ ls) a.written_is;
      datagrams_are = ap (λ ds. d ∷ ds) a.datagrams_are;
      said = (refl, a.said);
    }
outputs_woven stack plans id k next (deliver_cast peer body ∷ outputs) =
    one_line stack _ _ _ _ (outputs_woven stack plans id k next outputs)
outputs_woven stack plans id k next (deliver_send peer body ∷ outputs) =
    one_line stack _ _ _ _ (outputs_woven stack plans id k next outputs)
outputs_woven stack plans id k next (block n ∷ outputs) =
    one_line stack _ _ _ _ (outputs_woven stack plans id k next outputs)
outputs_woven stack plans id k next (announce n ∷ outputs) =
    one_line stack _ _ _ _ (outputs_woven stack plans id k next outputs)
outputs_woven stack plans id k next (nowhere ∷ outputs) = outputs_woven stack plans id k (plan_after next nowhere)
    outputs
outputs_woven stack plans id k next (timer n ∷ outputs) =
    one_line stack _ _ _ _ (outputs_woven stack plans id k next outputs)
outputs_woven stack plans id k next (quiet dir e ∷ outputs) = outputs_woven stack plans id k next outputs

did_woven : (mode : Mode) (stack : List LayerTree) (plans : List Plan) (m : Moment) (d : Did) →
    AreWoven stack (lines_of stack (step_lines stack plans None (member_of m.event) (first_number m)) m d)
    (lines_of stack (step_lines stack plans (Some mode) (member_of m.event) (first_number m)) m d)
    (did_send mode stack plans (member_of m.event) (first_number m) d)
did_woven mode stack plans m (taken s) =
    let views = map (installed_line (member_of m.event)) (option_to_list s.installs) in
    subst (AreWoven stack _ _)
    (append-nil (datagrams_from plans (member_of m.event) (first_number m) (as_sent mode stack plans s)))
    (woven_both stack _ views _ views _ []
    (outputs_woven stack plans (member_of m.event) (first_number m) (short_from mode stack plans s) s.outputs)
    (plain_lines stack views))
did_woven mode stack plans m (refused refusal) = plain_lines stack _
did_woven mode stack plans m absent = plain_lines stack _
did_woven mode stack plans m shown = plain_lines stack _

run_woven : (mode : Mode) (stack : List LayerTree) (plans : List Plan) (run : List Moment) →
    AreWoven stack (flat_map (moment_lines stack plans None) run) (flat_map (moment_lines stack plans (Some mode)) run)
    (datagrams mode stack plans run)
run_woven mode stack plans [] = plain_lines stack []
run_woven mode stack plans (m ∷ run) = woven_both stack _ _ _ _ _ _ (did_woven mode stack plans m m.happening.did)
    (run_woven mode stack plans run)

pub lines_are_woven : LinesAreWoven
lines_are_woven mode count stack plans script run =
    let last = end_line (length script.events) ∷ map (λ mode. visits_line (sum_by (visits_of mode stack plans) run))
    (option_to_list count) in
    subst (AreWoven stack _ _) (append-nil (datagrams mode stack plans run))
    (woven_both stack _ last _ last _ [] (run_woven mode stack plans run) (plain_lines stack last))
