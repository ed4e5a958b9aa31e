-- The lines of losses stand after those of their packets: the numbers of a packet's losses are its own.
use Rattle.std.proofs.Common.{◌≡◌, ◌∙◌, ℕ, zero, suc, ◌+◌, ◌<◌, ◌≤◌, Bool, true, false, List, [], ◌∷◌, ◌++◌, length}
use Rattle.std.proofs.Common.{take, drop, map, replicate, Option, None, refl, ap, subst, arith, append_assoc}
use Rattle.std.proofs.Common.{length-append}
use Rattle.std.specs.Prelude.{◌==◌, cond, count_by, option_to_list}
use Rattle.std.specs.List.{AllByRecursion, cons_option, filter_map}
use Rattle.std.proofs.lemmas.Bool.{eq-eqb, ne_eqb}
use Rattle.std.proofs.lemmas.List.Sums.{sum_by-append, sum_by-cons}
use Rattle.msg_core.specs.declared.packet.Packet.{Packet}
use Rattle.layer_mean.specs.Tree.{LayerTree}
use Rattle.chain_laws.proofs.Lists.{each_append, each_same, each_so}
use Rattle.script_mean.specs.Event.{member_of}
use Rattle.script_mean.specs.declared.event.ScriptEvent.{ScriptEvent}
use Rattle.stack_mean.specs.Plan.{Plan}
use Rattle.run_mean.specs.Common.{plan_after, with_plans}
use Rattle.run_mean.specs.Journal.{lost_annex, node_moment_lines, note_lines}
use Rattle.run_mean.specs.Member.{Output, deliver_cast, deliver_send, block, announce, packet, nowhere, timer, quiet}
use Rattle.run_mean.specs.Member.{packet_in, step_from}
use Rattle.run_mean.specs.Report.{number_following, output_lines, lines_of_outputs, installed_line, lines_of, Moment}
use Rattle.run_mean.specs.World.{World, Did, taken, refused, absent, shown, Happening, here_of, happens}
use Rattle.node_laws.specs.Doings.{Doing, does, asks, bears, note_in}
use Rattle.node_laws.specs.Losses.{fan, failures_in, lost_line, deaf_line, journal_line, lossy_lines, losses, moment_at}
use Rattle.node_laws.specs.Losses.{first_in, event_lines, losses_in, event_losses, event_sends, first_of, written_of}
use Rattle.node_laws.specs.Losses.{lost_of, moments_of, WrittenIsOfNotes, SendsAreHanded}
use Rattle.node_laws.proofs.Happenings.{each_happens}

-- how often a number is among some
abbrev often : List ℕ → ℕ → ℕ
often xs k = count_by (λ lost. lost == k) xs

often_append : (xs ys : List ℕ) (k : ℕ) → often (xs ++ ys) k ≡ often xs k + often ys k
often_append xs ys k = sum_by-append _ xs ys

often_cons : (x : ℕ) (xs : List ℕ) (k : ℕ) (b : Bool) → (x == k) ≡ b → often (x ∷ xs) k ≡ cond b 1 0 + often xs k
often_cons x xs k b is = sum_by-cons (λ lost. cond (lost == k) 1 0) x xs ∙ ap (λ b. cond b 1 0 + often xs k) is

never : (xs : List ℕ) (k : ℕ) → AllByRecursion (λ x. x ≡ k → ⊥) xs → often xs k ≡ 0
never [] k h = refl
never (x ∷ xs) k h = omega (arith, often_cons x xs k false (ne_eqb x k h.0), never xs k h.1)

always : (n k : ℕ) → often (replicate n k) k ≡ n
always zero k = refl
always (suc n) k = omega (arith, often_cons k (replicate n k) k true (eq-eqb k k refl), always n k)

never_below : (low k : ℕ) (xs : List ℕ) → AllByRecursion (λ x. low ≤ x) xs → k < low → often xs k ≡ 0
never_below low k xs h less =
    never xs k (each_so (λ x. low ≤ x) (λ x. x ≡ k → ⊥) (λ x more same. omega (arith, more, same, less)) xs h)

never_above : (high k : ℕ) (xs : List ℕ) → AllByRecursion (λ x. x < high) xs → high ≤ k → often xs k ≡ 0
never_above high k xs h more =
    never xs k (each_so (λ x. x < high) (λ x. x ≡ k → ⊥) (λ x less same. omega (arith, less, same, more)) xs h)

each_at_least : (low high : ℕ) (xs : List ℕ) → low ≤ high → AllByRecursion (λ x. high ≤ x) xs →
    AllByRecursion (λ x. low ≤ x) xs
each_at_least low high xs less h = each_so (λ x. high ≤ x) (λ x. low ≤ x) (λ x more. omega (arith, more, less)) xs h

each_less : (low high : ℕ) (xs : List ℕ) → low ≤ high → AllByRecursion (λ x. x < low) xs →
    AllByRecursion (λ x. x < high) xs
each_less low high xs less h = each_so (λ x. x < low) (λ x. x < high) (λ x below. omega (arith, below, less)) xs h

-- an output that is no packet goes to nobody and takes no number

record IsSilent (o : Output) : Type 0 where
  number : (k : ℕ) → number_following k o ≡ k
  nobody : (id : ℕ) → fan id o ≡ 0
  none : packet_in o ≡ None
  bare : (failed : ℕ → ℕ) (k : ℕ) (plan : Option ℕ) → lost_annex failed k (o, plan) ≡ []

by_packet : (P : Output → Type 0) → ((p : Packet) → P (packet p)) → ((o : Output) → IsSilent o → P o) → (o : Output) →
    P o
by_packet P sends other (packet p) = sends p
by_packet P sends other (deliver_cast peer body) =
    other _ (record { number = λ k. refl; nobody = λ id. refl; none = refl; bare = λ failed k plan. refl })
by_packet P sends other (deliver_send peer body) =
    other _ (record { number = λ k. refl; nobody = λ id. refl; none = refl; bare = λ failed k plan. refl })
by_packet P sends other (block a) =
    other _ (record { number = λ k. refl; nobody = λ id. refl; none = refl; bare = λ failed k plan. refl })
by_packet P sends other (announce a) =
    other _ (record { number = λ k. refl; nobody = λ id. refl; none = refl; bare = λ failed k plan. refl })
by_packet P sends other nowhere =
    other _ (record { number = λ k. refl; nobody = λ id. refl; none = refl; bare = λ failed k plan. refl })
by_packet P sends other (timer a) =
    other _ (record { number = λ k. refl; nobody = λ id. refl; none = refl; bare = λ failed k plan. refl })
by_packet P sends other (quiet dir event) =
    other _ (record { number = λ k. refl; nobody = λ id. refl; none = refl; bare = λ failed k plan. refl })

-- the number after outputs, and after what an event gave

abbrev number_after : ℕ → List (Output × Option ℕ) → ℕ
number_after k [] = k
number_after k (o ∷ outs) = number_after (number_following k o.0) outs

abbrev number_left : List Plan → ℕ → Did → ℕ
number_left plans k (taken s) = number_after k (with_plans plans None s.outputs)
number_left plans k _ = k

number_grows : (k : ℕ) (o : Output) → k ≤ number_following k o
number_grows k = by_packet (λ o. k ≤ number_following k o) (λ p. omega arith)
    (λ o silent. omega (arith, silent.number k))

numbers_grow : (k : ℕ) (outs : List (Output × Option ℕ)) → k ≤ number_after k outs
numbers_grow k [] = omega arith
numbers_grow k (o ∷ outs) = omega (arith, number_grows k o.0, numbers_grow (number_following k o.0) outs)

one_counted : (k : ℕ) (packets : List Packet) (o : Output) → number_following k o + length packets ≡
    k + length (cons_option (packet_in o) packets)
one_counted k packets =
    by_packet (λ o. number_following k o + length packets ≡ k + length (cons_option (packet_in o) packets))
    (λ p. omega arith) (λ o silent. rw (silent.number k, silent.none) refl)

all_counted : (plans : List Plan) (k : ℕ) (next : Option ℕ) (outputs : List Output) →
    number_after k (with_plans plans next outputs) ≡ k + length (filter_map packet_in outputs)
all_counted plans k next [] = omega arith
all_counted plans k next (o ∷ outputs) =
    all_counted plans (number_following k o) (plan_after next o) outputs ∙
    one_counted k (filter_map packet_in outputs) o

-- the losses of an event are numbers of its packets

module _ (id : ℕ) where
  abbrev failing : Output → List Bool → ℕ
  failing o failed = failures_in (take (fan id o) failed)

  own_below : (k high : ℕ) (failed : List Bool) (o : Output) → number_following k o ≤ high →
      AllByRecursion (λ x. x < high) (replicate (failing o failed) k)
  own_below k high failed = by_packet
      (λ o. number_following k o ≤ high → AllByRecursion (λ x. x < high) (replicate (failing o failed) k))
      (λ p less. each_same (λ x. x < high) (failing (packet p) failed) k (omega (arith, less)))
      (λ o silent less. rw (silent.nobody id) tt)

  losses_from : (k : ℕ) (outs : List (Output × Option ℕ)) (failed : List Bool) →
      AllByRecursion (λ x. k ≤ x) (losses id k outs failed)
  losses_from k [] failed = tt
  losses_from k (o ∷ outs) failed = each_append (λ x. k ≤ x) (replicate (failing o.0 failed) k) _
      (each_same (λ x. k ≤ x) (failing o.0 failed) k (omega arith))
      (each_at_least k (number_following k o.0) _ (number_grows k o.0)
      (losses_from (number_following k o.0) outs (drop (fan id o.0) failed)))

  losses_below : (k : ℕ) (outs : List (Output × Option ℕ)) (failed : List Bool) →
      AllByRecursion (λ x. x < number_after k outs) (losses id k outs failed)
  losses_below k [] failed = tt
  losses_below k (o ∷ outs) failed =
      let high = number_after (number_following k o.0) outs in
      each_append (λ x. x < high) (replicate (failing o.0 failed) k) _
      (own_below k high failed o.0 (numbers_grow (number_following k o.0) outs))
      (losses_below (number_following k o.0) outs (drop (fan id o.0) failed))

  -- where losses are counted as they are told, the lines are those that are told

  own_lines : (told : ℕ → ℕ) (k : ℕ) (plan : Option ℕ) (failed : List Bool) (o : Output) →
      (k < number_following k o → told k ≡ failing o failed) → lost_annex told k (o, plan) ≡
      replicate (failing o failed) (lost_line k)
  own_lines told k plan failed = by_packet
      (λ o. (k < number_following k o → told k ≡ failing o failed) → lost_annex told k (o, plan) ≡
      replicate (failing o failed) (lost_line k))
      (λ p same. ap (λ n. replicate n (lost_line k)) (same (omega arith)))
      (λ o silent same. silent.bare told k plan ∙ rw (silent.nobody id) refl)

  lines_as_told : (stack : List LayerTree) (told : ℕ → ℕ) (k : ℕ) (outs : List (Output × Option ℕ))
      (failed : List Bool) →
      ((j : ℕ) → k ≤ j → j < number_after k outs → told j ≡ often (losses id k outs failed) j) →
      lines_of_outputs stack (lost_annex told) id k outs ≡ lossy_lines stack id k outs failed
  lines_as_told stack told k [] failed same = refl
  lines_as_told stack told k (o ∷ outs) failed same =
      let next = number_following k o.0 in
      let left = drop (fan id o.0) failed in
      let own = failing o.0 failed in
      let mine : k < next → told k ≡ own = λ less. omega (
        arith,
        same k (omega arith) (omega (arith, less, numbers_grow next outs)),
        often_append (replicate own k) (losses id next outs left) k,
        always own k,
        never_below next k (losses id next outs left) (losses_from next outs left) less,
      ) in
      let others : (j : ℕ) → next ≤ j → j < number_after next outs → told j ≡ often (losses id next outs left) j =
      λ j more less. omega (
        arith,
        same j (omega (arith, more, number_grows k o.0)) less,
        often_append (replicate own k) (losses id next outs left) j,
        never_above next j (replicate own k) (own_below k next failed o.0 (omega arith)) more,
      ) in
      let first = own_lines told k o.1 failed o.0 mine in
      let rest = lines_as_told stack told next outs left others in
      λ i. output_lines stack id k o.0 ++ first i ++ rest i

-- an event of a node

module _ (stack : List LayerTree) (plans : List Plan) (w : World) (event : ScriptEvent) where
  abbrev following : World
  following = (happens stack plans w event).world

  abbrev did : Did
  did = (happens stack plans w event).did

  -- the packets after an event are numbered on
  numbered_on : first_in following ≡ number_left plans (first_in w) did
  numbered_on = each_happens stack plans w event
      (λ (happening : Happening). first_in happening.world ≡ number_left plans (first_in w) happening.did) record {
        refusing = λ refusal. refl;
        missing = refl;
        showing = refl;
        stepping = λ view states what is.
            let outputs = (step_from stack (here_of w view (member_of event)) (member_of event) states what).outputs in
            omega (
              arith,
              length-append w.packets (filter_map packet_in outputs),
              all_counted plans (first_in w) None outputs,
            );
      }

  left_below : (d : Did) (failed : List Bool) →
      AllByRecursion (λ x. x < number_left plans (first_in w) d) (losses_in plans w event d failed)
  left_below (taken s) failed = losses_below (member_of event) (first_in w) (with_plans plans None s.outputs) failed
  left_below (refused refusal) failed = tt
  left_below absent failed = tt
  left_below shown failed = tt

  left_grows : (d : Did) → first_in w ≤ number_left plans (first_in w) d
  left_grows (taken s) = numbers_grow (first_in w) (with_plans plans None s.outputs)
  left_grows (refused refusal) = omega arith
  left_grows absent = omega arith
  left_grows shown = omega arith

  left_from : (d : Did) (failed : List Bool) → AllByRecursion (λ x. first_in w ≤ x) (losses_in plans w event d failed)
  left_from (taken s) failed = losses_from (member_of event) (first_in w) (with_plans plans None s.outputs) failed
  left_from (refused refusal) failed = tt
  left_from absent failed = tt
  left_from shown failed = tt

  goes_up : first_in w ≤ first_in following
  goes_up = omega (arith, numbered_on, left_grows did)

  here_below : (failed : List Bool) →
      AllByRecursion (λ x. x < first_in following) (event_losses stack plans w event failed)
  here_below failed = each_less (number_left plans (first_in w) did) (first_in following) _ (omega (arith, numbered_on))
      (left_below did failed)

  did_lines : (told : ℕ → ℕ) (m : Moment) (d : Did) (failed : List Bool) →
      ((k : ℕ) → first_in w ≤ k → k < number_left plans (first_in w) d →
      told k ≡ often (losses_in plans w event d failed) k) →
      lines_of stack
      (λ s. lines_of_outputs stack (lost_annex told) (member_of event) (first_in w) (with_plans plans None s.outputs)) m
      d
      ≡ lines_of stack (λ s. lossy_lines stack (member_of event) (first_in w) (with_plans plans None s.outputs) failed)
      m d
  did_lines told m (taken s) failed same =
      ap (λ lines. lines ++ map (installed_line (member_of m.event)) (option_to_list s.installs))
      (lines_as_told (member_of event) stack told (first_in w) (with_plans plans None s.outputs) failed same)
  did_lines told m (refused refusal) failed same = refl
  did_lines told m absent failed same = refl
  did_lines told m shown failed same = refl

  moment_lines : (told : ℕ → ℕ) (failed : List Bool) →
      ((k : ℕ) → first_in w ≤ k → k < first_in following → told k ≡ often (event_losses stack plans w event failed) k) →
      node_moment_lines stack plans told (moment_at stack plans w event) ≡ event_lines stack plans w event failed
  moment_lines told failed same = ap (λ lines. journal_line event ∷ lines)
      (did_lines told (moment_at stack plans w event) did failed
      (λ k more less. same k more (omega (arith, less, numbered_on))))

-- what a node does from a world on

module _ (stack : List LayerTree) (plans : List Plan) where
  lost_from : (w : World) (doings : List Doing) (failed : List (List Bool)) →
      AllByRecursion (λ x. first_in w ≤ x) (lost_of stack plans w doings failed)
  lost_from w [] failed = tt
  lost_from w (does event ∷ doings) failed =
      each_append (λ x. first_in w ≤ x) (event_losses stack plans w event (first_of failed)) _
      (left_from stack plans w event (did stack plans w event) (first_of failed))
      (each_at_least (first_in w) (first_in (following stack plans w event)) _ (goes_up stack plans w event)
      (lost_from (following stack plans w event) doings (drop 1 failed)))
  lost_from w (asks id heard ∷ doings) failed = lost_from w doings failed
  lost_from w (bears id ∷ doings) failed = lost_from w doings failed

  -- what is written after losses of earlier packets
  written_after : (front : List ℕ) (w : World) (doings : List Doing) (failed : List (List Bool)) →
      AllByRecursion (λ x. x < first_in w) front →
      note_lines stack plans (often (front ++ lost_of stack plans w doings failed)) (filter_map note_in doings)
      (moments_of stack plans w doings)
      ≡ written_of stack plans w doings failed
  written_after front w [] failed earlier = refl
  written_after front w (does event ∷ doings) failed earlier =
      let here = event_losses stack plans w event (first_of failed) in
      let next = following stack plans w event in
      let later = lost_of stack plans next doings (drop 1 failed) in
      let all = front ++ (here ++ later) in
      let own : (k : ℕ) → first_in w ≤ k → k < first_in next → often all k ≡ often here k = λ k more less. omega (
        arith,
        often_append front (here ++ later) k,
        often_append here later k,
        never_above (first_in w) k front earlier more,
        never_below (first_in next) k later (lost_from next doings (drop 1 failed)) less,
      ) in
      let first = moment_lines stack plans w event (often all) (first_of failed) own in
      let both = each_append (λ x. x < first_in next) front here
      (each_less (first_in w) (first_in next) front (goes_up stack plans w event) earlier)
      (here_below stack plans w event (first_of failed)) in
      let rest = subst (λ lost.
      note_lines stack plans (often lost) (filter_map note_in doings) (moments_of stack plans next doings)
      ≡ written_of stack plans next doings (drop 1 failed)) (append_assoc front here later)
      (written_after (front ++ here) next doings (drop 1 failed) both) in
      λ i. first i ++ rest i
  written_after front w (asks id heard ∷ doings) failed earlier = written_after front w doings failed earlier
  written_after front w (bears id ∷ doings) failed earlier =
      ap (λ lines. deaf_line id ∷ lines) (written_after front w doings failed earlier)

pub written_is_of_notes : WrittenIsOfNotes
written_is_of_notes stack plans w doings failed = written_after stack plans [] w doings failed tt

pub sends_are_handed : SendsAreHanded
sends_are_handed mode stack plans w [] = refl
sends_are_handed mode stack plans w (does event ∷ doings) =
    ap (λ sends. event_sends mode stack plans w event ++ sends)
    (sends_are_handed mode stack plans (following stack plans w event) doings)
sends_are_handed mode stack plans w (asks id heard ∷ doings) = sends_are_handed mode stack plans w doings
sends_are_handed mode stack plans w (bears id ∷ doings) = sends_are_handed mode stack plans w doings
