-- How a node's run ends: all turns were made, the node went deaf, or it was broken off.
use Rattle.std.proofs.Common.{◌≡◌, ◌⊎◌, inl, inr, ℕ, zero, suc, ◌+◌, ◌*◌, ◌≤◌, Bool, true, false, List, [], ◌∷◌, ◌++◌}
use Rattle.std.proofs.Common.{length, map, take, refl, sym, ap, subst, ◌∙◌, append-nil, arith, Option, Some, None}
use Rattle.std.proofs.lemmas.Bool.{eqb-true}
use Rattle.std.specs.List.{filter_map}
use Rattle.std.specs.Prelude.{◌==◌, if◌then◌else◌, count_by, Err}
use Rattle.outside.specs.Count.{last_count, next_count}
use Rattle.outside.specs.Links.{Network}
use Rattle.outside.specs.declared.links.Peer.{Peer}
use Rattle.outside.specs.declared.sink.SinkError.{SinkError}
use Rattle.outside.specs.declared.sink.SinkError.TheVariants as sink
use Rattle.layer_mean.specs.Tree.{LayerTree}
use Rattle.script_mean.specs.declared.event.ScriptEvent.{ScriptEvent}
use Rattle.script_mean.specs.declared.plan.NodePlan.{NodePlan}
use Rattle.stack_mean.specs.Plan.{Plan}
use Rattle.stack_mean.specs.Plans.{plans_of}
use Rattle.run_mean.specs.Mode.{Mode}
use Rattle.run_mean.specs.Journal.{failure, handed_datagrams, node_lines, node_run, note_lines}
use Rattle.run_mean.specs.Report.{end_line, moments}
use Rattle.run_mean.specs.World.{World, happens}
use Rattle.group_mean.specs.Node.{node_words, receiving}
use Rattle.group_mean.specs.Node.{NodeWords, Surroundings, failures, handed_by, node_notes, node_moments}
use Rattle.outside.specs.Lines.{Gains, Wrote}
use Rattle.outside.specs.Tells as output
use Rattle.outside.proofs.Gaining.{gains_then}
use Rattle.node_laws.specs.Acts.{puts, acts_of, lines_in, sends_in}
use Rattle.node_laws.specs.Doings.{Doing, doings_of, events_of, note_in}
use Rattle.node_laws.specs.Losses.{lost_of, sends_of, written_of}
use Rattle.node_laws.specs.Network.{Goes, Tells, met_as, sent_as}
use Rattle.node_laws.specs.Stages.{Course, StoppedGoesOn, clock_on, heard_on}
use Rattle.node_laws.proofs.Acts.{acts_lines_are, acts_sends_are, lines_append, sends_append}
use Rattle.node_laws.proofs.Doings.{notes_are_of_doings}
use Rattle.node_laws.proofs.Losses.{sends_are_handed, written_is_of_notes}
use Rattle.node_laws.proofs.Parts.{goes_handed, goes_listened, goes_met, lost_none}
use Rattle.node_laws.proofs.Sendings.{tells_as, tells_same, tells_then}
use Rattle.node_loop.specs.Around.{Around, RoseBy, Told, count_on, surrounding}
use Rattle.node_loop.specs.Course.{Begun, CutOff, MadeAll, MadeSome, Now, SoFar, nothing_left}
use Rattle.node_loop.specs.Listening.{Listened, ListenedNot}
use Rattle.node_loop.specs.Passing.{Stops, WentOn}
use Rattle.node_loop.specs.Serve.{BrokenOff, CouldNotListen, IsTold, LeftOff, MadeAllTurns, RanOver, Task, WentDeaf}
use Rattle.node_loop.specs.Serve.{Whereabouts, after_listens, doings_in, first_of_plan, listens_of, told_on}
use Rattle.node_loop.specs.Serve.{whereabouts}
use Rattle.node_loop.proofs.Steps.{failures_append}
use Rattle.node_loop.proofs.Passing.{asked_nothing, line_stops, memory_stops, stops_then, stops_wrote}

-- Counts.

next_is : (n : ℕ) → (next_count n ≡ n + 1) ⊎ (n ≡ last_count)
next_is n = go (n == last_count) refl where
  go : (b : Bool) → (n == last_count) ≡ b → (next_count n ≡ n + 1) ⊎ (n ≡ last_count)
  go true is = inr (eqb-true n last_count is)
  go false is = inl (ap (λ b. if b then n else n + 1) is)

last_stays : (n : ℕ) → count_on last_count n ≡ last_count
last_stays zero = refl
last_stays (suc n) = last_stays n

pub rose : (a b n : ℕ) → b ≡ count_on a n → RoseBy a b n
rose a b zero is = inl (omega (arith, is))
rose a b (suc n) is = go (next_is a) (rose (next_count a) b n is) where
  go : (next_count a ≡ a + 1) ⊎ (a ≡ last_count) → RoseBy (next_count a) b n → RoseBy a b (suc n)
  go (inl next) (inl more) = inl (omega (arith, more, next))
  go (inl next) (inr last) = inr last
  go (inr last) more = inr (is ∙ ap (λ k. count_on k (suc n)) last ∙ last_stays (suc n))

run_length : (stack : List LayerTree) (plans : List Plan) (w : World) (events : List ScriptEvent) →
    length (moments stack plans w events) ≡ length events
run_length stack plans w [] = refl
run_length stack plans w (event ∷ events) = ap suc (run_length stack plans (happens stack plans w event).world events)

-- Surroundings of which the network alone may have changed, as `OverNetwork` says.
pub record Reaches (OverNetwork : Network → Network → Type 0) (a b : Around) : Type 0 where
  pub output : b.output ≡ a.output
  pub faults : b.faults ≡ a.faults
  pub sends : b.sends ≡ a.sends
  pub told : Tells OverNetwork a.told b.told

-- A network to which nothing was handed, and of which nothing was heard. Some members, `count`, were to listen: all of
-- them where there was a moment.
pub record IsUntouched (peers : List Peer) (me clock : List ℕ) (n n' : Network) : Type 0 where
  pub count : ℕ
  pub all : (count ≡ length me) ⊎ (clock ≡ [])
  pub listened : n'.listened ≡ n.listened ++ listens_of peers (take count me)
  pub handed : n'.handed ≡ n.handed
  pub met : n'.met ≡ n.met

pub untouched : (peers : List Peer) (me : List ℕ) (a : Around) → Reaches (IsUntouched peers me []) a a
untouched peers me a = record {
  output = refl;
  faults = refl;
  sends = refl;
  told = tells_same (IsUntouched peers me []) a.told
      (λ n. record { count = 0; all = inr refl; listened = sym (append-nil n.listened); handed = refl; met = refl });
}

-- Listens hand on nothing, and nothing is heard of them.
pub listens_untouched : (peers : List Peer) (me clock : List ℕ) (Over : Network → Network → Type 0) (a b : Around) →
    Reaches Over a b →
    ((n n' : Network) → Over n n' → (count : ℕ) × ((count ≡ length me) ⊎ (clock ≡ [])) ×
    (n' ≡ after_listens peers (take count me) n)) →
    Reaches (IsUntouched peers me clock) a b
listens_untouched peers me clock Over a b r listens = record {
  output = r.output;
  faults = r.faults;
  sends = r.sends;
  told = tells_as a.told b.told r.told (λ n n' over.
      let found = listens n n' over in
      let is = found.2 in record {
        count = found.0;
        all = found.1;
        listened = ap (λ m. m.listened) is;
        handed = ap (λ m. m.handed) is;
        met = ap (λ m. m.met) is;
      });
}

pub no_moments : (clock : Option (List ℕ)) → Told clock clock []
no_moments None = record { moments = tt; kept = refl }
no_moments (Some moments) = record { moments = refl; kept = refl }

module _ (stack : List LayerTree) (plan : NodePlan) (me : List ℕ) (turns patience : ℕ) (mode : Mode) where
  abbrev words : NodeWords
  words = node_words turns me patience mode

  abbrev task : Task
  task = record { stack = stack; plan = plan; words = words }

  abbrev course : Course
  course = record { plan = plan; me = me; turns = turns }

  abbrev plans : List Plan
  plans = plans_of stack

  abbrev first : World
  first = first_of_plan stack plan

  abbrev pub begun : Around → Option (List ℕ) → Begun
  begun at clock = record {
    mode = mode;
    first = first;
    members = length plan.peers;
    patience = patience;
    around =
        at;
    clock = clock;
  }

  -- A journal is of what was done.

  notes_are : (s : Surroundings) (doings : List Doing) → doings_in task s ≡ doings →
      node_notes plan words s ≡ filter_map note_in doings
  notes_are s doings is = sym (notes_are_of_doings plan me 0 turns patience s.clock s.heard) ∙
      ap (filter_map note_in) is

  lines_are : (s : Surroundings) (doings : List Doing) (flags : List (List Bool)) (lost : List ℕ) →
      doings_in task s ≡ doings →
      lost ≡ lost_of stack plans first doings flags →
      note_lines stack plans (λ k. count_by (λ l. l == k) lost) (node_notes plan words s)
      (node_moments stack plan words s) ≡
      written_of stack plans first doings flags
  lines_are s doings flags lost is lost_is =
      ap (λ lost. note_lines stack plans (λ k. count_by (λ l. l == k) lost) (node_notes plan words s)
      (node_moments stack plan words s)) lost_is
      ∙ ap (λ notes. note_lines stack plans (λ k. count_by (λ l. l == k) (lost_of stack plans first doings flags)) notes
      (node_run stack plans plan notes))
      (notes_are s doings is)
      ∙ written_is_of_notes stack plans first doings flags

  events_are : (s : Surroundings) (doings : List Doing) → doings_in task s ≡ doings →
      length (node_moments stack plan words s) ≡ length (events_of doings)
  events_are s doings is = ap (λ notes. length (node_run stack plans plan notes)) (notes_are s doings is) ∙
      run_length stack plans first (events_of doings)

  all_lines_are : (s : Surroundings) (doings : List Doing) (flags : List (List Bool)) (lost : List ℕ) →
      doings_in task s ≡ doings →
      lost ≡ lost_of stack plans first doings flags →
      node_lines stack plans (λ k. count_by (λ l. l == k) lost) (node_notes plan words s)
      (node_moments stack plan words s)
      ≡ written_of stack plans first doings flags ++ end_line (length (events_of doings)) ∷ []
  all_lines_are s doings flags lost is lost_is =
      ap (λ lines. lines ++ end_line (length (node_moments stack plan words s)) ∷ [])
      (lines_are s doings flags lost is lost_is)
      ∙ ap (λ n. written_of stack plans first doings flags ++ end_line n ∷ []) (events_are s doings is)

  handed_are : (s : Surroundings) (doings : List Doing) → doings_in task s ≡ doings → handed_by stack plan words s ≡
      sends_of mode stack plans first doings
  handed_are s doings is =
      ap (λ notes. handed_datagrams mode stack plans (node_run stack plans plan notes)) (notes_are s doings is) ∙
      sends_are_handed mode stack plans first doings

  told_so : (OverNetwork : Network → Network → Type 0) (Over : Network → Network → Type 0) (a b : Whereabouts)
      (at : Around) (s : Surroundings) →
      Reaches Over a.around at → b.around.faults ≡ count_on at.faults (failures s.heard) →
      b.around.sends ≡ count_on at.sends (length s.lost) →
      Told a.clock b.clock s.clock → Tells OverNetwork a.around.told b.around.told → IsTold task s a b OverNetwork
  told_so OverNetwork Over a b at s r faults sends clock network = record {
    faults = rose a.around.faults b.around.faults (failures s.heard)
        (faults ∙ ap (λ n. count_on n (failures s.heard)) r.faults);
    sends = rose a.around.sends b.around.sends (length s.lost) (sends ∙ ap (λ n. count_on n (length s.lost)) r.sends);
    clock = clock;
    network = network;
  }

  -- Where nothing is left.
  module _ (a : Whereabouts) (from : Around) (listened : Reaches (Listened plan.peers me) a.around from) (m k borne : ℕ)
      (at : Now)
      (so : SoFar stack plans course (begun from a.clock) m k nothing_left borne at) where
    abbrev s : Surroundings
    s = record { clock = so.clock; heard = so.heard; lost = lost_of stack plans first so.done so.failed }

    did : doings_in task s ≡ so.done
    did = ap (λ clock. doings_of plan me turns patience clock so.heard) (sym (append-nil so.clock))
        ∙ ap (doings_of plan me turns patience (so.clock ++ [])) (sym (append-nil so.heard)) ∙ so.goes [] [] ∙
        append-nil so.done

    gained : Gains a.around.output at.around.output (written_of stack plans first so.done so.failed)
    gained = subst (λ o. Gains o at.around.output (written_of stack plans first so.done so.failed)) listened.output
        so.gained

    ran : Tells (RanOver task s) a.around.told at.around.told
    ran = tells_then a.around.told from.told at.around.told listened.told so.told (λ n n' n'' l goes. record {
      listens = l.flags;
      flags = so.failed;
      lost = ap (λ doings. lost_of stack plans first doings so.failed) (sym did);
      goes = subst (λ doings. Goes mode stack plans first doings so.failed (after_listens plan.peers me n) n'')
          (sym did)
          (subst (λ n. Goes mode stack plans first so.done so.failed n n'') l.is goes);
    })

    run_told : (out : output.Tells) →
        IsTold task s a (whereabouts (surrounding out at.around.faults at.around.sends at.around.told) at.clock)
        (RanOver task s)
    run_told out = told_so (RanOver task s) (Listened plan.peers me) a
        (whereabouts (surrounding out at.around.faults at.around.sends at.around.told) at.clock) from s listened
        (so.faults ∙ ap (count_on from.faults) (sym so.borne_are)) so.sends so.clock_told ran

  -- All turns were made, and the last line put.
  pub made_all : (a : Whereabouts) (from : Around) → Reaches (Listened plan.peers me) a.around from → (at : Now) →
      MadeAll stack plans course (begun from a.clock) at → (out : output.Tells) →
      Gains at.around.output out (end_line at.desk.events ∷ []) →
      MadeAllTurns task a (whereabouts (surrounding out at.around.faults at.around.sends at.around.told) at.clock)
  made_all a from listened at all out put =
      let so = all.so in
      let t = turns in
      let k = turns * length (receiving me) in record {
        s = s a from listened t k all.borne at so;
        moments = so.moments_are;
        answers = so.answers_are;
        borne = (let n = so.borne_are in let few = all.few in omega (arith, n, few));
        written = gains_then a.around.output at.around.output out (written_of stack plans first so.done so.failed)
            (end_line at.desk.events ∷ []) _
            (gained a from listened t k all.borne at so) put
            (all_lines_are (s a from listened t k all.borne at so) so.done so.failed _
            (did a from listened t k all.borne at so) refl
            ∙ ap (λ n. written_of stack plans first so.done so.failed ++ end_line n ∷ []) (sym so.counted));
        told = run_told a from listened t k all.borne at so out;
      }

  -- The node went deaf.
  pub went_deaf : (a : Whereabouts) (from : Around) → Reaches (Listened plan.peers me) a.around from → (at : Now) →
      MadeSome stack plans course (begun from a.clock) at → WentDeaf task a (whereabouts at.around at.clock)
  went_deaf a from listened at some =
      let so = some.deaf.so in
      let product : length so.clock * length (receiving me) ≡ some.moments * length (receiving me) =
      ap (λ n. n * length (receiving me)) so.moments_are in
      record {
        s = s a from listened some.moments some.answers (patience + 1) at so;
        before = some.deaf.before;
        last = some.deaf.last;
        borne = (let n = sym (ap failures some.deaf.last) ∙ so.borne_are in let m =
            failures_append some.deaf.before (failure ∷ []) in omega (arith, n, m));
        turns = subst (λ n. n ≤ turns) (sym so.moments_are) some.turns;
        within = (let n = so.answers_are in let w = some.within in omega (arith, n, w, product));
        begun = (let n = so.answers_are in let w = some.begun in omega (arith, n, w, product));
        written = subst (Gains a.around.output at.around.output)
            (sym (lines_are (s a from listened some.moments some.answers (patience + 1) at so) so.done so.failed _
            (did a from listened some.moments some.answers (patience + 1) at so) refl))
            (gained a from listened some.moments some.answers (patience + 1) at so);
        told = run_told a from listened some.moments some.answers (patience + 1) at so at.around.output;
      }

  -- The put of the last line was cut short.
  pub last_cut : (from : Around) (clock : Option (List ℕ)) (at : Now) (out : output.Tells) (e : SinkError) →
      MadeAll stack plans course (begun from clock) at →
      Wrote (end_line at.desk.events ∷ []) at.around.output out (Err e) →
      CutOff stack plans course (begun from clock) e (surrounding out at.around.faults at.around.sends at.around.told)
      at.clock
  last_cut from clock at out e all wrote =
      let so = all.so in
      let front = acts_of mode stack plans first so.done so.failed in
      let put = subst (Gains from.output at.around.output)
      (sym (acts_lines_are mode stack plans first so.done so.failed)) so.gained in
      let handed : sends_in (front ++ []) ≡ sends_of mode stack plans first so.done = ap sends_in (append-nil front) ∙
      acts_sends_are mode stack plans first so.done so.failed in
      record {
        clock = so.clock;
        heard = so.heard;
        failed = so.failed;
        done = front ++ [];
        rest = puts (end_line at.desk.events) ∷ [];
        turns = (let n = so.moments_are in omega (arith, n));
        answers = (let n = so.answers_are in omega (arith, n));
        borne = (let n = so.borne_are in let few = all.few in omega (arith, n, few));
        doings = so.done;
        doings_are = sym (so.goes (clock_on course so.clock) (heard_on course so.heard) ∙ append-nil so.done);
        are = ap (λ n. front ++ puts (end_line n) ∷ []) (sym so.counted) ∙
            ap (λ acts. acts ++ puts (end_line at.desk.events) ∷ []) (sym (append-nil front));
        stopped = stops_then from.output at.around.output out front [] (puts (end_line at.desk.events) ∷ []) e put
            (line_stops at.around.output out (end_line at.desk.events) [] e wrote);
        faults = so.faults ∙ ap (count_on from.faults) (sym so.borne_are);
        sends = so.sends;
        told = tells_as from.told at.around.told so.told (λ n n' goes. record {
          listened = goes_listened mode stack plans first so.done so.failed n n' goes ∙ sym (append-nil n.listened);
          some = record {
            handed = goes_handed mode stack plans first so.done so.failed n n' goes ∙
                ap (λ hs. n.handed ++ map sent_as hs) (sym handed);
            met = goes_met mode stack plans first so.done so.failed n n' goes ∙
                ap (λ hs. n.met ++ map met_as hs) so.asked;
          };
        });
        clock_told = so.clock_told;
      }

  -- Memory ran out before anything was done, and before the first moment.
  pub nothing_done : (from : Around) (clock : Option (List ℕ)) →
      (cut : CutOff stack plans course (begun from clock) sink.Memory from clock) × (cut.clock ≡ [])
  nothing_done from clock =
      let doings = doings_of plan me turns patience ([] ++ clock_on course []) ([] ++ heard_on course []) in
      let rest = acts_of mode stack plans first doings [] ++ puts (end_line (length (events_of doings))) ∷ [] in (
        record {
          clock = [];
          heard = [];
          failed = [];
          done = [];
          rest = rest;
          turns = omega arith;
          answers = omega arith;
          borne = omega arith;
          doings = doings;
          doings_are = refl;
          are = refl;
          stopped = memory_stops from.output rest;
          faults = refl;
          sends = ap (λ ls. count_on from.sends (length ls)) (sym (lost_none stack plans first doings));
          told = tells_same (WentOn [] [] []) from.told asked_nothing;
          clock_told = no_moments clock;
        },
        refl,
      )

  -- A node that was broken off could have gone on.
  pub broken : StoppedGoesOn → (a : Whereabouts) (from : Around) (e : SinkError) (at : Around) (clock : Option (List ℕ))
      (cut : CutOff stack plans course (begun from a.clock) e at clock) →
      Reaches (IsUntouched plan.peers me cut.clock) a.around from →
      BrokenOff task e a (whereabouts at clock)
  broken goes_on a from e at clock cut listened =
      let s : Surroundings =
      record { clock = cut.clock; heard = cut.heard; lost = lost_of stack plans first cut.doings cut.failed } in
      let on : Surroundings = told_on s (clock_on course cut.clock) (heard_on course cut.heard) in
      let is : doings_in task on ≡ cut.doings = sym cut.doings_are in
      let whole = goes_on course patience cut.clock cut.heard cut.turns cut.answers cut.borne in
      let end = puts (end_line (length (events_of cut.doings))) ∷ [] in
      let stopped = subst (λ o. Stops e cut.done cut.rest o at.output) listened.output cut.stopped in record {
        s = s;
        sent = sends_in cut.done;
        clock_on = clock_on course cut.clock;
        heard_on = heard_on course cut.heard;
        sent_on = sends_in cut.rest;
        moments = whole.moments;
        answers = whole.answers;
        borne = whole.borne;
        handed_on = sym (sends_append cut.done cut.rest) ∙ ap sends_in (sym cut.are) ∙
            sends_append (acts_of mode stack plans first cut.doings cut.failed) end
            ∙ append-nil (sends_in (acts_of mode stack plans first cut.doings cut.failed))
            ∙ acts_sends_are mode stack plans first cut.doings cut.failed ∙ sym (handed_are on cut.doings is);
        written = subst (λ lines. Wrote lines a.around.output at.output (Err e))
            (ap lines_in (sym cut.are) ∙ lines_append (acts_of mode stack plans first cut.doings cut.failed) end
            ∙ ap (λ lines. lines ++ end_line (length (events_of cut.doings)) ∷ [])
            (acts_lines_are mode stack plans first cut.doings cut.failed)
            ∙ sym (all_lines_are on cut.doings cut.failed s.lost is refl))
            (stops_wrote a.around.output at.output cut.done cut.rest e stopped);
        performed = record {
          flags = cut.failed;
          lost = ap (λ doings. lost_of stack plans first doings cut.failed) (sym is);
          done = cut.done;
          rest = cut.rest;
          are = ap (λ doings. acts_of mode stack plans first doings cut.failed ++
              puts (end_line (length (events_of doings))) ∷ []) is ∙ cut.are;
          stopped = stopped;
          sent_are = refl;
        };
        told = told_so (LeftOff task s (sends_in cut.done)) (IsUntouched plan.peers me cut.clock) a
            (whereabouts at clock) from s listened cut.faults
            cut.sends cut.clock_told
            (tells_then a.around.told from.told at.told listened.told cut.told (λ n n' n'' still went. record {
              count = still.count;
              all = still.all;
              some = record {
                listened = went.listened ∙ append-nil n'.listened ∙ still.listened;
                some = record {
                  handed = went.some.handed ∙ ap (λ h. h ++ map sent_as (sends_in cut.done)) still.handed;
                  met = went.some.met ∙ ap (λ m. m ++ map met_as cut.heard) still.met;
                };
              };
            }));
      }

  -- A member couldn't listen.
  pub not_listened : (a b : Whereabouts) → b.around.output ≡ a.around.output →
      b.around.faults ≡ next_count a.around.faults →
      b.around.sends ≡ a.around.sends → b.clock ≡ a.clock →
      Tells (ListenedNot plan.peers me) a.around.told b.around.told → CouldNotListen task a b
  not_listened a b output faults sends clock told = record {
    untouched = output;
    faults = rose a.around.faults b.around.faults 1 faults;
    sends = sends;
    clock = clock;
    network = tells_as a.around.told b.around.told told
        (λ n n' l. record { count = l.some; within = l.within; listens = l.flags; is = l.is });
  }
