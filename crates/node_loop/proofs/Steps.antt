-- What a node has done so far goes on by one thing at a time.
use Rattle.std.proofs.Common.{◌≡◌, ℕ, ◌+◌, ◌*◌, ◌≤◌, Bool, List, [], ◌∷◌, ◌++◌, length, map, refl, sym, ap, subst, ◌∙◌}
use Rattle.std.proofs.Common.{append_assoc, append-nil, length-append, arith, Option}
use Rattle.std.proofs.lemmas.List.{map-append}
use Rattle.std.proofs.lemmas.List.Sums.{sum_by-append}
use Rattle.std.specs.Prelude.{Result, Ok, Err}
use Rattle.outside.specs.Links.{Network, after_recv, next_met}
use Rattle.outside.specs.declared.sink.SinkError.{SinkError}
use Rattle.outside.specs.declared.sink.SinkError.TheVariants as sink
use Rattle.layer_mean.specs.Tree.{LayerTree}
use Rattle.script_mean.specs.declared.event.ScriptEvent.{ScriptEvent}
use Rattle.stack_mean.specs.Plan.{Plan}
use Rattle.run_mean.specs.Journal.{Heard}
use Rattle.run_mean.specs.Report.{end_line}
use Rattle.run_mean.specs.World.{happens}
use Rattle.group_mean.specs.Node.{failures, receiving}
use Rattle.outside.specs.Lines.{Gains, Wrote}
use Rattle.outside.proofs.Gaining.{gains_then}
use Rattle.group_feed.specs.Standing.{Peopled}
use Rattle.node_laws.specs.Doings.{Doing, does, asks, bears, doings_of, events_of, heard_in}
use Rattle.node_laws.specs.Losses.{following, deaf_line, event_lines, event_losses, event_sends, failures_in, lost_of}
use Rattle.node_laws.specs.Losses.{sends_of, written_of}
use Rattle.node_laws.specs.Network.{Goes, Tells, after_sends, fates_of, met_as, sent_as}
use Rattle.node_laws.specs.Stages.{Course, clock_on, heard_on}
use Rattle.node_laws.specs.Acts.{Act, puts, acts_of, event_acts, lines_in, sends_in}
use Rattle.node_laws.proofs.Acts.{acts_append, acts_lines_are, acts_sends_are, event_lines_are, event_sends_are}
use Rattle.node_laws.proofs.Acts.{sends_append}
use Rattle.node_laws.proofs.Fans.{event_losses_are}
use Rattle.node_laws.proofs.Parts.{after_append, events_append, goes_append, goes_handed, goes_listened, goes_met}
use Rattle.node_laws.proofs.Parts.{heard_append, lost_append, lost_none, written_append}
use Rattle.node_laws.proofs.Sendings.{tells_as, tells_same, tells_then}
use Rattle.node_loop.specs.Around.{Around, count_on}
use Rattle.node_loop.specs.Passing.{Breaks, Stops, Takes, WentOn}
use Rattle.node_loop.specs.Quiet.{Quietly, Stopped}
use Rattle.node_loop.specs.Feeding.{Feeds, IsFed}
use Rattle.node_loop.specs.Course.{Advances, Begun, CutOff, Now, SoFar, Within, now}
use Rattle.node_loop.specs.declared.desk.NodeDesk.{NodeDesk}
use Rattle.node_loop.proofs.Quiet.{first_put}
use Rattle.node_loop.proofs.Passing.{asked_nothing, count_on_add, line_stops, memory_stops, stops_longer, stops_then}

pub failures_append : (xs ys : List Heard) → failures (xs ++ ys) ≡ failures xs + failures ys
failures_append xs ys = sum_by-append _ xs ys

module _ (stack : List LayerTree) (plans : List Plan) (c : Course) (b : Begun) where
  abbrev So : (m k : ℕ) → (List ℕ → List Heard → List Doing) → ℕ → Now → Type 0
  So m k rest borne at = SoFar stack plans c b m k rest borne at

  -- what is left may be said otherwise
  pub otherwise : (m k borne : ℕ) (rest other : List ℕ → List Heard → List Doing) (at : Now) →
      ((later : List ℕ) (more : List Heard) → rest later more ≡ other later more) → So m k rest borne at →
      So m k other borne at
  otherwise m k borne rest other at same so = record {
    clock = so.clock;
    heard = so.heard;
    done = so.done;
    failed = so.failed;
    world = so.world;
    goes = λ later more. so.goes later more ∙ ap (λ ds. so.done ++ ds) (same later more);
    moments_are = so.moments_are;
    answers_are = so.answers_are;
    asked = so.asked;
    borne_are = so.borne_are;
    world_is = so.world_is;
    rests = so.rests;
    each = so.each;
    counted = so.counted;
    gained = so.gained;
    faults = so.faults;
    sends = so.sends;
    told = so.told;
    clock_told = so.clock_told;
  }

  -- an event was fed
  pub fed_so : (m k borne : ℕ) (rest : List ℕ → List Heard → List Doing) (event : ScriptEvent) (g g' : Peopled)
      (d d' : NodeDesk) (a a' : Around)
      (clk : Option (List ℕ)) → (so : So m k (λ later more. does event ∷ rest later more) borne (now g d a clk)) →
      IsFed b.mode stack plans b.members so.world event g' d d' a a' → So m k rest borne (now g' d' a' clk)
  fed_so m k borne rest event g g' d d' a a' clk so fed =
      let w = b.first in
      let f = fed.passed.failed in
      let p = fed.passed.passed in
      let one = does event ∷ [] in
      let at = so.world_is in record {
        clock = so.clock;
        heard = so.heard;
        done = so.done ++ one;
        failed = so.failed ++ f ∷ [];
        world = (happens stack plans so.world event).world;
        goes = λ later more. so.goes later more ∙ sym (append_assoc so.done one (rest later more));
        moments_are = so.moments_are;
        answers_are = so.answers_are;
        asked = heard_append so.done one ∙ append-nil (heard_in so.done) ∙ so.asked;
        borne_are = so.borne_are;
        world_is = ap (λ v. (happens stack plans v event).world) at ∙ sym (after_append stack plans w so.done one);
        rests = fed.rests;
        each = length-append so.failed (f ∷ []) ∙ ap (λ n. n + 1) so.each ∙
            sym (length-append (events_of so.done) (event ∷ []))
            ∙ sym (ap length (events_append so.done one));
        counted = fed.counted ∙ ap (λ n. n + 1) so.counted ∙ sym (length-append (events_of so.done) (event ∷ []))
            ∙ sym (ap length (events_append so.done one));
        gained = gains_then b.around.output a.output a'.output (written_of stack plans w so.done so.failed)
            (event_lines stack plans so.world event f)
            (written_of stack plans w (so.done ++ one) (so.failed ++ f ∷ [])) so.gained
            (subst (Gains a.output a'.output) (event_lines_are b.mode stack plans so.world event f) p.gained)
            (written_append stack plans w so.done one so.failed (f ∷ []) so.each
            ∙ ap (λ ls. written_of stack plans w so.done so.failed ++ ls)
            (append-nil (event_lines stack plans (following stack plans w so.done) event f))
            ∙ ap (λ v. written_of stack plans w so.done so.failed ++ event_lines stack plans v event f) (sym at));
        faults = p.faults ∙ so.faults;
        sends =
            let few : length f ≤ length (event_sends b.mode stack plans so.world event) =
            (let e = p.each ∙ ap length (event_sends_are b.mode stack plans so.world event f) in omega (arith, e)) in
            let lost : length (lost_of stack plans w (so.done ++ one) (so.failed ++ f ∷ []))
            ≡ length (lost_of stack plans w so.done so.failed) + failures_in f =
            ap length (lost_append stack plans w so.done one so.failed (f ∷ []) so.each
            ∙ ap (λ ls. lost_of stack plans w so.done so.failed ++ ls)
            (append-nil (event_losses stack plans (following stack plans w so.done) event f))
            ∙ ap (λ v. lost_of stack plans w so.done so.failed ++ event_losses stack plans v event f) (sym at))
            ∙ length-append (lost_of stack plans w so.done so.failed) (event_losses stack plans so.world event f)
            ∙ ap (λ n. length (lost_of stack plans w so.done so.failed) + n)
            (event_losses_are b.mode stack plans so.world event f few) in
            p.sendings ∙ ap (λ n. count_on n (failures_in f)) so.sends
            ∙ sym (count_on_add b.around.sends (length (lost_of stack plans w so.done so.failed)) (failures_in f))
            ∙ ap (count_on b.around.sends) (sym lost);
        told = tells_then b.around.told a.told a'.told so.told p.told (λ n n' n'' goes takes.
            goes_append b.mode stack plans w so.done one so.failed (f ∷ []) n n' n'' so.each goes
            (subst (λ v. Goes b.mode stack plans v one (f ∷ []) n' n'') at (went n' n'' takes)));
        clock_told = so.clock_told;
      } where
        went : (n n' : Network) → Takes (sends_in (event_acts b.mode stack plans so.world event fed.passed.failed))
            fed.passed.failed n n' →
            Goes b.mode stack plans so.world (does event ∷ []) (fed.passed.failed ∷ []) n n'
        went n n' takes = subst (λ h. (fed.passed.failed ≡ fates_of (length h) n.fates) × (n' ≡ after_sends h n))
            (event_sends_are b.mode stack plans so.world event fed.passed.failed) (takes.failed_are, takes.is)

  -- a member asked and heard
  pub asked_so : (m k borne borne' : ℕ) (rest other : List ℕ → List Heard → List Doing) (id : ℕ) (x : Heard)
      (g : Peopled) (d d' : NodeDesk) (a a' : Around)
      (clk : Option (List ℕ)) →
      ((later : List ℕ) (more : List Heard) → rest later (x ∷ more) ≡ asks id x ∷ other later more) →
      So m k rest borne (now g d a clk) → borne' ≡ borne + failures (x ∷ []) → d'.outputs ≡ d.outputs →
      d'.events ≡ d.events →
      a'.output ≡ a.output → a'.sends ≡ a.sends → a'.faults ≡ count_on a.faults (failures (x ∷ [])) →
      Tells (λ n n'. (next_met id n ≡ met_as x) × (n' ≡ after_recv id n)) a.told a'.told →
      So m (k + 1) other borne' (now g d' a' clk)
  asked_so m k borne borne' rest other id x g d d' a a' clk is so more outputs events output sends faults told =
      let w = b.first in
      let one = asks id x ∷ [] in record {
        clock = so.clock;
        heard = so.heard ++ x ∷ [];
        done = so.done ++ one;
        failed = so.failed;
        world = so.world;
        goes = λ later next. ap (doings_of c.plan c.me c.turns b.patience (so.clock ++ later))
            (append_assoc so.heard (x ∷ []) next)
            ∙ so.goes later (x ∷ next) ∙ ap (λ ds. so.done ++ ds) (is later next) ∙
            sym (append_assoc so.done one (other later next));
        moments_are = so.moments_are;
        answers_are = length-append so.heard (x ∷ []) ∙ ap (λ n. n + 1) so.answers_are;
        asked = heard_append so.done one ∙ ap (λ hs. hs ++ x ∷ []) so.asked;
        borne_are = failures_append so.heard (x ∷ []) ∙ ap (λ n. n + failures (x ∷ [])) so.borne_are ∙ sym more;
        world_is = so.world_is ∙ sym (after_append stack plans w so.done one);
        rests = record { somewhere = so.rests.somewhere; places = ap (λ o. o.places) outputs ∙ so.rests.places };
        each = so.each ∙ sym (ap length (events_append so.done one ∙ append-nil (events_of so.done)));
        counted = events ∙ so.counted ∙ sym (ap length (events_append so.done one ∙ append-nil (events_of so.done)));
        gained = subst (λ o. Gains b.around.output o (written_of stack plans w (so.done ++ one) so.failed)) (sym output)
            (subst (Gains b.around.output a.output) (sym (same_written one so refl)) so.gained);
        faults = faults ∙ ap (λ n. count_on n (failures (x ∷ []))) so.faults ∙
            sym (count_on_add b.around.faults borne (failures (x ∷ [])))
            ∙ ap (count_on b.around.faults) (sym more);
        sends = sends ∙ so.sends ∙ ap (λ ls. count_on b.around.sends (length ls)) (sym (same_lost one so refl));
        told = tells_then b.around.told a.told a'.told so.told told (λ n n' n'' goes heard.
            subst (λ f. Goes b.mode stack plans w (so.done ++ one) f n n'') (append-nil so.failed)
            (goes_append b.mode stack plans w so.done one so.failed [] n n' n'' so.each goes (heard.0, heard.1)));
        clock_told = so.clock_told;
      } where
        same_written : (one : List Doing) (so : So m k rest borne (now g d a clk)) → one ≡ asks id x ∷ [] →
            written_of stack plans b.first (so.done ++ one) so.failed ≡ written_of stack plans b.first so.done so.failed
        same_written one so is = ap (λ f. written_of stack plans b.first (so.done ++ one) f)
            (sym (append-nil so.failed))
            ∙ written_append stack plans b.first so.done one so.failed [] so.each
            ∙ ap (λ o. written_of stack plans b.first so.done so.failed ++
            written_of stack plans (following stack plans b.first so.done) o []) is
            ∙ append-nil (written_of stack plans b.first so.done so.failed)

        same_lost : (one : List Doing) (so : So m k rest borne (now g d a clk)) → one ≡ asks id x ∷ [] →
            lost_of stack plans b.first (so.done ++ one) so.failed ≡ lost_of stack plans b.first so.done so.failed
        same_lost one so is = ap (λ f. lost_of stack plans b.first (so.done ++ one) f) (sym (append-nil so.failed))
            ∙ lost_append stack plans b.first so.done one so.failed [] so.each
            ∙ ap (λ o. lost_of stack plans b.first so.done so.failed ++
            lost_of stack plans (following stack plans b.first so.done) o []) is
            ∙ append-nil (lost_of stack plans b.first so.done so.failed)

  -- what it then heard
  pub asked_heard : (m k borne borne' : ℕ) (rest other : List ℕ → List Heard → List Doing) (id : ℕ) (x : Heard)
      (g : Peopled) (d d' : NodeDesk) (a a' : Around)
      (clk : Option (List ℕ)) (is : (later : List ℕ) (more : List Heard) → rest later (x ∷ more) ≡ asks id x ∷
      other later more)
      (so : So m k rest borne (now g d a clk)) (more : borne' ≡ borne + failures (x ∷ []))
      (outputs : d'.outputs ≡ d.outputs)
      (events : d'.events ≡ d.events) (output : a'.output ≡ a.output) (sends : a'.sends ≡ a.sends)
      (faults : a'.faults ≡ count_on a.faults (failures (x ∷ [])))
      (told : Tells (λ n n'. (next_met id n ≡ met_as x) × (n' ≡ after_recv id n)) a.told a'.told) →
      (asked_so m k borne borne' rest other id x g d d' a a' clk is so more outputs events output sends faults
      told).heard ≡ so.heard ++ x ∷ []
  unfolding asked_so
  asked_heard m k borne borne' rest other id x g d d' a a' clk is so more outputs events output sends faults told = refl

  -- a failure was borne, and its line put
  pub borne_so : (m k borne : ℕ) (rest : List ℕ → List Heard → List Doing) (id : ℕ) (g : Peopled) (d d' : NodeDesk)
      (a a' : Around) (clk : Option (List ℕ)) →
      So m k (λ later more. bears id ∷ rest later more) borne (now g d a clk) → d'.outputs ≡ d.outputs →
      d'.events ≡ d.events →
      Gains a.output a'.output (deaf_line id ∷ []) → a'.faults ≡ a.faults → a'.sends ≡ a.sends → a'.told ≡ a.told →
      So m k rest borne (now g d' a' clk)
  borne_so m k borne rest id g d d' a a' clk so outputs events gained faults sends told =
      let w = b.first in
      let one = bears id ∷ [] in
      let written : written_of stack plans w (so.done ++ one) so.failed ≡ written_of stack plans w so.done so.failed ++
      deaf_line id ∷ [] =
      ap (λ f. written_of stack plans w (so.done ++ one) f) (sym (append-nil so.failed)) ∙
      written_append stack plans w so.done one so.failed [] so.each in
      let lost : lost_of stack plans w (so.done ++ one) so.failed ≡ lost_of stack plans w so.done so.failed =
      ap (λ f. lost_of stack plans w (so.done ++ one) f) (sym (append-nil so.failed)) ∙
      lost_append stack plans w so.done one so.failed [] so.each
      ∙ append-nil (lost_of stack plans w so.done so.failed) in record {
        clock = so.clock;
        heard = so.heard;
        done = so.done ++ one;
        failed = so.failed;
        world = so.world;
        goes = λ later more. so.goes later more ∙ sym (append_assoc so.done one (rest later more));
        moments_are = so.moments_are;
        answers_are = so.answers_are;
        asked = heard_append so.done one ∙ append-nil (heard_in so.done) ∙ so.asked;
        borne_are = so.borne_are;
        world_is = so.world_is ∙ sym (after_append stack plans w so.done one);
        rests = record { somewhere = so.rests.somewhere; places = ap (λ o. o.places) outputs ∙ so.rests.places };
        each = so.each ∙ sym (ap length (events_append so.done one ∙ append-nil (events_of so.done)));
        counted = events ∙ so.counted ∙ sym (ap length (events_append so.done one ∙ append-nil (events_of so.done)));
        gained = gains_then b.around.output a.output a'.output _ _ _ so.gained gained written;
        faults = faults ∙ so.faults;
        sends = sends ∙ so.sends ∙ ap (λ ls. count_on b.around.sends (length ls)) (sym lost);
        told = subst (Tells (Goes b.mode stack plans w (so.done ++ one) so.failed) b.around.told) (sym told)
            (tells_as b.around.told a.told so.told
            (λ n n' goes. subst (λ f. Goes b.mode stack plans w (so.done ++ one) f n n') (append-nil so.failed)
            (goes_append b.mode stack plans w so.done one so.failed [] n n' n' so.each goes refl)));
        clock_told = so.clock_told;
      }

  -- nothing was done that is told
  pub quiet_so : (m k borne : ℕ) (rest : List ℕ → List Heard → List Doing) (g : Peopled) (d : NodeDesk)
      (a a' : Around) (clk : Option (List ℕ)) → Quietly a a' → So m k rest borne (now g d a clk) →
      So m k rest borne (now g d a' clk)
  quiet_so m k borne rest g d a a' clk q so = record {
    clock = so.clock;
    heard = so.heard;
    done = so.done;
    failed = so.failed;
    world = so.world;
    goes = so.goes;
    moments_are = so.moments_are;
    answers_are = so.answers_are;
    asked = so.asked;
    borne_are = so.borne_are;
    world_is = so.world_is;
    rests = so.rests;
    each = so.each;
    counted = so.counted;
    gained = gains_then b.around.output a.output a'.output _ _ _ so.gained q.unwritten (sym (append-nil _));
    faults = q.unasked.faults ∙ so.faults;
    sends = q.unasked.sends ∙ so.sends;
    told = subst (Tells (Goes b.mode stack plans b.first so.done so.failed) b.around.told) (sym q.unasked.told) so.told;
    clock_told = so.clock_told;
  }

  -- A node that stops here could have gone on: after what was done come the first of some acts of what is left.
  module _ (m k borne : ℕ) (rest : List ℕ → List Heard → List Doing) (at : Now) (within : Within c b m k borne)
      (so : So m k rest borne at) where
    abbrev left : List Doing
    left = rest (clock_on c so.clock) (heard_on c so.heard)

    abbrev all : List Doing
    all = so.done ++ left

    abbrev last : List Act
    last = puts (end_line (length (events_of all))) ∷ []

    abbrev front : List Act
    front = acts_of b.mode stack plans b.first so.done so.failed

    -- The lines of what was done were put.
    gained_acts : Gains b.around.output at.around.output (lines_in front)
    gained_acts = subst (Gains b.around.output at.around.output)
        (sym (acts_lines_are b.mode stack plans b.first so.done so.failed)) so.gained

    -- The acts of what is left begin with those that were done, given which of their sendings failed, event by event.
    cut_by : (flags : List (List Bool)) (done after_them : List Act) (a' : Around) (e : SinkError) →
        acts_of b.mode stack plans so.world left flags ≡ done ++ after_them →
        Stops e (front ++ done) (after_them ++ last) b.around.output a'.output →
        a'.faults ≡ at.around.faults →
        a'.sends ≡ count_on at.around.sends (length (lost_of stack plans so.world left flags)) →
        Tells (WentOn [] (sends_in done) []) at.around.told a'.told → CutOff stack plans c b e a' at.clock
    cut_by flags done after_them a' e are stopped faults sendings told =
        let w = b.first in
        let f = so.failed ++ flags in
        let acts : acts_of b.mode stack plans w all f ≡ front ++ (done ++ after_them) =
        acts_append b.mode stack plans w so.done left so.failed flags so.each
        ∙ ap (λ v. front ++ acts_of b.mode stack plans v left flags) (sym so.world_is) ∙
        ap (λ acts. front ++ acts) are in
        let lost : length (lost_of stack plans w all f)
        ≡ length (lost_of stack plans w so.done so.failed) + length (lost_of stack plans so.world left flags) =
        ap length (lost_append stack plans w so.done left so.failed flags so.each
        ∙ ap (λ v. lost_of stack plans w so.done so.failed ++ lost_of stack plans v left flags) (sym so.world_is))
        ∙ length-append (lost_of stack plans w so.done so.failed) (lost_of stack plans so.world left flags) in
        let handed : sends_in (front ++ done) ≡ sends_of b.mode stack plans w so.done ++ sends_in done =
        sends_append front done ∙ ap (λ hs. hs ++ sends_in done) (acts_sends_are b.mode stack plans w so.done so.failed)
        in record {
          clock = so.clock;
          heard = so.heard;
          failed = f;
          done = front ++ done;
          rest = after_them ++ last;
          turns = (let n = so.moments_are in let l = within.turns in omega (arith, n, l));
          answers = subst (λ n. n ≤ c.turns * length (receiving c.me)) (sym so.answers_are) within.all;
          borne = (let n = so.borne_are in let l = within.patient in omega (arith, n, l));
          doings = all;
          doings_are = sym (so.goes (clock_on c so.clock) (heard_on c so.heard));
          are = ap (λ acts. acts ++ last) acts ∙ append_assoc front (done ++ after_them) last
              ∙ ap (λ acts. front ++ acts) (append_assoc done after_them last) ∙
              sym (append_assoc front done (after_them ++ last));
          stopped = stopped;
          faults = faults ∙ so.faults ∙ ap (count_on b.around.faults) (sym so.borne_are);
          sends = sendings ∙ ap (λ n. count_on n (length (lost_of stack plans so.world left flags))) so.sends
              ∙ sym (count_on_add b.around.sends (length (lost_of stack plans w so.done so.failed))
              (length (lost_of stack plans so.world left flags)))
              ∙ ap (count_on b.around.sends) (sym lost);
          told = tells_then b.around.told at.around.told a'.told so.told told (λ n n' n'' goes some. record {
            listened = some.listened ∙ append-nil n'.listened ∙ goes_listened b.mode stack plans w so.done so.failed n
                n' goes ∙ sym (append-nil n.listened);
            some = record {
              handed = some.some.handed ∙
                  ap (λ h. h ++ map sent_as (sends_in done))
                  (goes_handed b.mode stack plans w so.done so.failed n n' goes)
                  ∙ append_assoc n.handed (map sent_as (sends_of b.mode stack plans w so.done))
                  (map sent_as (sends_in done))
                  ∙ ap (λ h. n.handed ++ h)
                  (sym (map-append sent_as (sends_of b.mode stack plans w so.done) (sends_in done)) ∙
                  ap (map sent_as) (sym handed));
              met = some.some.met ∙ append-nil n'.met ∙ goes_met b.mode stack plans w so.done so.failed n n' goes ∙
                  ap (λ hs. n.met ++ map met_as hs) so.asked;
            };
          });
          clock_told = so.clock_told;
        }

    -- The acts that were done are the first of those of what is left.
    pub cut : (flags : List (List Bool)) (done after_them : List Act) (a' : Around) (e : SinkError) →
        acts_of b.mode stack plans so.world left flags ≡ done ++ after_them →
        Stops e done after_them at.around.output a'.output →
        a'.faults ≡ at.around.faults →
        a'.sends ≡ count_on at.around.sends (length (lost_of stack plans so.world left flags)) →
        Tells (WentOn [] (sends_in done) []) at.around.told a'.told → CutOff stack plans c b e a' at.clock
    cut flags done after_them a' e are stopped faults sendings told =
        cut_by flags done after_them a' e are
        (stops_longer b.around.output a'.output (front ++ done) after_them last e
        (stops_then b.around.output at.around.output a'.output front done after_them e gained_acts stopped))
        faults sendings told

    -- Where what was put couldn't be handed on between two things.
    pub cut_stopped : (a' : Around) → Stopped at.around a' → CutOff stack plans c b sink.Failed a' at.clock
    cut_stopped a' s =
        let following = first_put stack plans b.mode so.world left [] (end_line (length (events_of all))) in
        cut_by [] [] (acts_of b.mode stack plans so.world left []) a' sink.Failed refl
        (record {
          line = following.0;
          more = following.1;
          next = following.2;
          mid = at.around.output;
          put = subst (λ acts. Gains b.around.output at.around.output (lines_in acts)) (sym (append-nil front))
              gained_acts;
          fails = s.fails following.0;
        }) s.unasked.faults
        (s.unasked.sends ∙ ap (λ ls. count_on at.around.sends (length ls)) (sym (lost_none stack plans so.world left)))
        (subst (Tells (WentOn [] [] []) at.around.told) (sym s.unasked.told)
        (tells_same (WentOn [] [] []) at.around.told asked_nothing))

    -- Where memory ran out between two things.
    pub cut_none : (a' : Around) → a' ≡ at.around → CutOff stack plans c b sink.Memory a' at.clock
    cut_none a' same = subst (λ a. CutOff stack plans c b sink.Memory a at.clock) (sym same)
        (cut [] [] (acts_of b.mode stack plans so.world left []) at.around sink.Memory refl
        (memory_stops at.around.output (acts_of b.mode stack plans so.world left [])) refl
        (ap (λ ls. count_on at.around.sends (length ls)) (sym (lost_none stack plans so.world left)))
        (tells_same (WentOn [] [] []) at.around.told asked_nothing))

  -- Where an event was broken off.
  pub cut_so : (m k borne : ℕ) (rest : List ℕ → List Heard → List Doing) (g : Peopled) (d : NodeDesk) (a a' : Around)
      (clk : Option (List ℕ)) (e : SinkError)
      (event : ScriptEvent) → Within c b m k borne →
      (so : So m k (λ later more. does event ∷ rest later more) borne (now g d a clk)) →
      Breaks (event_acts b.mode stack plans so.world event) e a a' → CutOff stack plans c b e a' clk
  cut_so m k borne rest g d a a' clk e event within so q =
      let after_it = rest (clock_on c so.clock) (heard_on c so.heard) in
      let on = (happens stack plans so.world event).world in
      let later = acts_of b.mode stack plans on after_it [] in
      let few : length q.failed ≤ length (event_sends b.mode stack plans so.world event) =
      (let n = ap (λ acts. length (sends_in acts)) q.are in let i =
      ap length (event_sends_are b.mode stack plans so.world event q.failed) in
      let s = ap length (sends_append q.done q.rest) in let l = length-append (sends_in q.done) (sends_in q.rest) in
      let x = q.few in omega (arith, n, i, s, l, x)) in
      cut m k borne (λ later more. does event ∷ rest later more) (now g d a clk) within
      so (q.failed ∷ []) q.done (q.rest ++ later) a' e
      (ap (λ acts. acts ++ later) q.are ∙ append_assoc q.done q.rest later)
      (stops_longer a.output a'.output q.done q.rest later e q.stopped) q.faults
      (q.sendings ∙ ap (count_on a.sends)
      (sym (ap length (ap (λ ls. event_losses stack plans so.world event q.failed ++ ls)
      (lost_none stack plans on after_it) ∙ append-nil (event_losses stack plans so.world event q.failed))
      ∙ event_losses_are b.mode stack plans so.world event q.failed few)))
      q.told

  -- Where the line of a failure that is borne was cut short.
  pub cut_line : (m k borne : ℕ) (rest : List ℕ → List Heard → List Doing) (id : ℕ) (g : Peopled) (d : NodeDesk)
      (a a' : Around) (clk : Option (List ℕ))
      (e : SinkError) → Within c b m k borne →
      (so : So m k (λ later more. bears id ∷ rest later more) borne (now g d a clk)) →
      Wrote (deaf_line id ∷ []) a.output a'.output (Err e) → a'.faults ≡ a.faults → a'.sends ≡ a.sends →
      a'.told ≡ a.told → CutOff stack plans c b e a' clk
  cut_line m k borne rest id g d a a' clk e within so wrote faults sendings told =
      let after_it = rest (clock_on c so.clock) (heard_on c so.heard) in
      let later = acts_of b.mode stack plans so.world after_it [] in
      cut m k borne (λ later more. bears id ∷ rest later more) (now g d a clk) within
      so [] [] (puts (deaf_line id) ∷ later) a' e refl
      (line_stops a.output a'.output (deaf_line id) later e wrote) faults
      (sendings ∙ ap (λ ls. count_on a.sends (length ls)) (sym (lost_none stack plans so.world after_it)))
      (subst (Tells (WentOn [] [] []) a.told) (sym told) (tells_same (WentOn [] [] []) a.told asked_nothing))

  -- What follows from an event that was fed.
  pub feeds_so : (m k borne : ℕ) (rest : List ℕ → List Heard → List Doing) (event : ScriptEvent) (g g' : Peopled)
      (d d' : NodeDesk) (a a' : Around)
      (clk : Option (List ℕ)) (r : Result (Unit {0}) SinkError) → Within c b m k borne →
      (so : So m k (λ later more. does event ∷ rest later more) borne (now g d a clk)) →
      Feeds b.mode stack plans b.members so.world event g' d d' a a' r →
      Advances stack plans c b m k rest borne (now g' d' a' clk) r
  feeds_so m k borne rest event g g' d d' a a' clk (Ok done) within so fed =
      fed_so m k borne rest event g g' d d' a a' clk so fed
  feeds_so m k borne rest event g g' d d' a a' clk (Err e) within so q =
      cut_so m k borne rest g d a a' clk e event within so q
