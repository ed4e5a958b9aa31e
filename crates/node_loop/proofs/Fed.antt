-- What follows from an event that a node feeds.
use Rattle.std.proofs.Common.{◌≡◌, ℕ, ◌+◌, Bool, List, [], ◌∷◌, ◌++◌, length, map, refl, sym, ap, subst, ◌∙◌}
use Rattle.std.proofs.Common.{append-nil, Option, Some}
use Rattle.std.specs.List.{AllByRecursion, flat_map}
use Rattle.std.specs.Prelude.{IsSomeAnd, Result, Ok, Err, option_to_list}
use Rattle.outside.specs.declared.sink.SinkError.{SinkError}
use Rattle.outside.specs.declared.sink.SinkError.TheVariants as sink
use Rattle.run_mean.specs.Mode.{Mode}
use Rattle.layer_mean.specs.Tree.{LayerTree}
use Rattle.chain_laws.specs.Runs.{TypedStack}
use Rattle.member_laws.specs.Members.{IsChainedWorld, IsGivenEvent}
use Rattle.member_laws.proofs.Members.{events_keep_chains}
use Rattle.packet_laws.specs.Lengths.{IsWithinLimits}
use Rattle.packet_laws.specs.Strays.{AreNumbered}
use Rattle.script_mean.specs.Event.{member_of}
use Rattle.script_mean.specs.declared.event.ScriptEvent.{ScriptEvent}
use Rattle.script_mean.specs.declared.event.ScriptEvent.TheVariants as script
use Rattle.stack_mean.specs.Plan.{Plan}
use Rattle.run_mean.specs.Journal.{handed_in, handed_output}
use Rattle.run_mean.specs.Lines.{refused_line}
use Rattle.run_mean.specs.Member as member
use Rattle.run_mean.specs.Member.{Input, Member, Output, inside, out, cast, send, leave, tick, datagram, Entered}
use Rattle.run_mean.specs.Member.{entered_input}
use Rattle.run_mean.specs.Report.{installed_line}
use Rattle.run_mean.specs.World as world
use Rattle.run_mean.specs.World.{World, here_of, happens, member_at, stepped_inside, stepped_of}
use Rattle.outside.specs.Lines.{Gains}
use Rattle.view_core.specs.Happenings.{DidIs}
use Rattle.view_core.specs.declared.step.Did.{Did}
use Rattle.view_core.specs.declared.step.Did.TheVariants as did
use Rattle.view_core.specs.declared.step.Stepped.{Stepped}
use Rattle.view_core.specs.declared.step.Stepped.TheVariants.{Taken, Refused}
use Rattle.report_text.specs.Told.{change_lines}
use Rattle.report_text.proofs.Moments.{changes_told}
use Rattle.group_feed.specs.Feeding.{IsFed}
use Rattle.group_feed.specs.Standing.{Peopled, Stands, Stays}
use Rattle.group_feed.proofs.Standing.{count_packets}
use Rattle.node_laws.specs.Acts.{Act, puts, did_acts, event_acts, outputs_acts}
use Rattle.node_laws.specs.Groups.{AreWithin, IsSendable}
use Rattle.node_laws.specs.Losses.{first_in, journal_line}
use Rattle.node_laws.proofs.Groups.{events_keep_within, sends_are_sendable}
use Rattle.node_loop.specs.Around.{Around}
use Rattle.node_loop.specs.Feeding.{IsOwn, Rests, Somewhere}
use Rattle.node_loop.specs.Passing.{Breaks, PassesAll}
use Rattle.node_loop.specs.Sending.{sends_of_outputs, stepped_acts}
use Rattle.node_loop.specs.declared.desk.NodeDesk.{NodeDesk}
use Rattle.node_loop.proofs.Passing.{breaks_first, breaks_then, memory_stops, passes_lines, passes_then}

-- An event happened in a mode: the world after it, and what is told of it.
pub record Happened (mode : Mode) (stack : List LayerTree) (plans : List Plan) (w : World) (event : ScriptEvent)
    (c : Peopled)
    (outs : List (Output × Option ℕ)) (before after : ℕ) (d : Did) : Type 0 where
  pub world : Stands c (happens stack plans w event).world
  pub told : DidIs mode stack plans (happens stack plans w event).did outs before after d

pub happened : (mode : Mode) (stack : List LayerTree) (plans : List Plan) (w : World) (event : ScriptEvent)
    (c c' : Peopled) (outs : List (Output × Option ℕ))
    (before after : ℕ) (d d' : Did) → c.mode ≡ mode → c.stack ≡ stack → c.plans ≡ plans → d ≡ d' →
    IsFed c (happens c.stack c.plans w event) c' outs before after d →
    Happened mode stack plans w event c' outs before after d'
happened mode stack plans w event c c' outs before after d d' mode_is stack_is plans_are d_is f =
    subst (Happened mode stack plans w event c' outs before after) d_is
    (subst {A = List LayerTree × List Plan} (λ x. Happened mode x.0 x.1 w event c' outs before after d)
    (λ k. (stack_is k, plans_are k))
    (record {
      world = f.world;
      told = subst (λ mode. DidIs mode c.stack c.plans (happens c.stack c.plans w event).did outs before after d)
          mode_is f.told;
    }))

-- An event of a node's own is a step.
abbrev IsStep : world.Did → Type 0
IsStep (world.taken s) = Unit {0}
IsStep (world.refused r) = Unit {0}
IsStep world.absent = ⊥
IsStep world.shown = ⊥

module _ (mode : Mode) (stack : List LayerTree) (plans : List Plan) (w : World) where
  steps_are : (id : ℕ) (input : Input) (m : Member) → IsStep (stepped_of stack plans w id input m).did
  steps_are id input out = tt
  steps_are id input (inside view states) = go (entered_input stack plans (here_of w view id) input) where
    go : (r : Result Entered member.Refusal) → IsStep (stepped_inside stack w id view states r).did
    go (Err refusal) = tt
    go (Ok what) = tt

  own_is_step : (event : ScriptEvent) → IsOwn event → IsStep (happens stack plans w event).did
  unfolding happens
  own_is_step (script.Cast id body) own = steps_are id (cast body) (member_at w id)
  own_is_step (script.Send id to body) own = steps_are id (send to body) (member_at w id)
  own_is_step (script.Leave id) own = steps_are id leave (member_at w id)
  own_is_step (script.Tick id moment) own = steps_are id (tick moment) (member_at w id)
  own_is_step (script.Raw id bytes) own = steps_are id (datagram bytes) (member_at w id)
  own_is_step (script.Give k id) own = absurd own
  own_is_step (script.Show id) own = absurd own

  never_absent : (d : world.Did) (outs : List (Output × Option ℕ)) (before after : ℕ) → IsStep d →
      DidIs mode stack plans d outs before after did.Absent → ⊥
  never_absent (world.taken s) outs before after step is = is
  never_absent (world.refused r) outs before after step is = is
  never_absent world.absent outs before after step is = step
  never_absent world.shown outs before after step is = step

  never_shown : (d : world.Did) (outs : List (Output × Option ℕ)) (before after : ℕ) → IsStep d →
      DidIs mode stack plans d outs before after did.Shown → ⊥
  never_shown (world.taken s) outs before after step is = is
  never_shown (world.refused r) outs before after step is = is
  never_shown world.absent outs before after step is = step
  never_shown world.shown outs before after step is = step

  pub own_never_absent : (event : ScriptEvent) (c : Peopled) (outs : List (Output × Option ℕ)) (before after : ℕ) →
      IsOwn event →
      Happened mode stack plans w event c outs before after did.Absent → ⊥
  own_never_absent event c outs before after own h = never_absent (happens stack plans w event).did outs before after
      (own_is_step event own) h.told

  pub own_never_shown : (event : ScriptEvent) (c : Peopled) (outs : List (Output × Option ℕ)) (before after : ℕ) →
      IsOwn event →
      Happened mode stack plans w event c outs before after did.Shown → ⊥
  own_never_shown event c outs before after own h = never_shown (happens stack plans w event).did outs before after
      (own_is_step event own) h.told

  -- The acts of a step as it is told are those of what happened.
  did_acts_are : (event : ScriptEvent) (d : world.Did) (outs : List (Output × Option ℕ)) (before after : ℕ)
      (stepped : Stepped) (failed : List Bool) →
      DidIs mode stack plans d outs before after (did.Stepped stepped) →
      did_acts mode stack plans w event d failed ≡ stepped_acts stack plans (member_of event) (first_in w) outs stepped
      failed
  did_acts_are event (world.taken s) outs before after (Taken common change) failed is =
      let id = member_of event in
      ap (λ o. outputs_acts stack plans id (first_in w) o failed ++
      map puts (map (installed_line id) (option_to_list s.installs))) (sym is.outs_are)
      ∙ ap (λ ls. outputs_acts stack plans id (first_in w) outs failed ++ map puts ls)
      (sym (changes_told id s.installs) ∙ ap (change_lines id) (sym is.change_is))
  did_acts_are event (world.refused r) outs before after (Refused told) failed is =
      ap (λ cause. puts (refused_line (member_of event) cause) ∷ []) is.cause_is
  did_acts_are event (world.taken s) outs before after (Refused told) failed is = absurd is
  did_acts_are event (world.refused r) outs before after (Taken common change) failed is = absurd is
  did_acts_are event world.absent outs before after (Taken common change) failed is = absurd is
  did_acts_are event world.absent outs before after (Refused told) failed is = absurd is
  did_acts_are event world.shown outs before after (Taken common change) failed is = absurd is
  did_acts_are event world.shown outs before after (Refused told) failed is = absurd is

  pub event_acts_are : (event : ScriptEvent) (c : Peopled) (outs : List (Output × Option ℕ)) (before after : ℕ)
      (stepped : Stepped) (id first : ℕ)
      (failed : List Bool) → Happened mode stack plans w event c outs before after (did.Stepped stepped) →
      id ≡ member_of event → first ≡ first_in w →
      event_acts mode stack plans w event failed ≡ puts (journal_line event) ∷
      stepped_acts stack plans id first outs stepped failed
  event_acts_are event c outs before after stepped id first failed h id_is first_is =
      ap (λ acts. puts (journal_line event) ∷ acts)
      (did_acts_are event (happens stack plans w event).did outs before after stepped failed h.told
      ∙ ap (λ i. stepped_acts stack plans i (first_in w) outs stepped failed) (sym id_is)
      ∙ ap (λ f. stepped_acts stack plans id f outs stepped failed) (sym first_is))

  -- What a step hands on may be handed on.
  did_sendable : (id n : ℕ) (d : world.Did) (outs : List (Output × Option ℕ)) (before after : ℕ) (stepped : Stepped) →
      DidIs mode stack plans d outs before after (did.Stepped stepped) →
      AllByRecursion (IsSendable n id) (handed_in mode stack plans id d) →
      AllByRecursion (IsSendable n id) (sends_of_outputs plans id outs)
  did_sendable id n (world.taken s) outs before after (Taken common change) is all =
      subst (λ o. AllByRecursion (IsSendable n id) (flat_map (handed_output plans id) o)) (sym is.outs_are) all
  did_sendable id n (world.refused r) outs before after (Refused told) is all =
      subst (λ o. AllByRecursion (IsSendable n id) (flat_map (handed_output plans id) o)) (sym is.quiet.outs_are) tt
  did_sendable id n (world.taken s) outs before after (Refused told) is all = absurd is
  did_sendable id n (world.refused r) outs before after (Taken common change) is all = absurd is
  did_sendable id n world.absent outs before after (Taken common change) is all = absurd is
  did_sendable id n world.absent outs before after (Refused told) is all = absurd is
  did_sendable id n world.shown outs before after (Taken common change) is all = absurd is
  did_sendable id n world.shown outs before after (Refused told) is all = absurd is

  pub own_sendable : (event : ScriptEvent) (n : ℕ) (c : Peopled) (outs : List (Output × Option ℕ)) (before after : ℕ)
      (stepped : Stepped) (id : ℕ)
      (listening : ℕ → Option ℕ) → IsWithinLimits stack → TypedStack stack → AreNumbered plans → IsGivenEvent event →
      IsChainedWorld stack w →
      AreWithin n w → Happened mode stack plans w event c outs before after (did.Stepped stepped) →
      id ≡ member_of event →
      listening (member_of event) ≡ Some n →
      IsSomeAnd (listening id) (λ peers. AllByRecursion (IsSendable peers id) (sends_of_outputs plans id outs))
  own_sendable event n c outs before after stepped id listening limits typed numbered given chained within
      h id_is listens =
      subst (λ i. IsSomeAnd (listening i)
      (λ peers. AllByRecursion (IsSendable peers i) (sends_of_outputs plans i outs))) (sym id_is)
      (subst (λ o. IsSomeAnd o
      (λ peers. AllByRecursion (IsSendable peers (member_of event))
      (sends_of_outputs plans (member_of event) outs))) (sym listens)
      (did_sendable (member_of event) n (happens stack plans w event).did outs before after stepped h.told
      (sends_are_sendable mode stack plans w event n limits
      (events_keep_chains stack plans w event typed numbered given chained) within)))

  -- Where a group stands after an event.
  pub rests_again : (event : ScriptEvent) (n : ℕ) (c c' : Peopled) (d d' : NodeDesk) (outs : List (Output × Option ℕ))
      (before after : ℕ) (told : Did) →
      TypedStack stack → AreNumbered plans → IsGivenEvent event → Rests mode stack plans n c d w → Stays c c' →
      Happened mode stack plans w event c' outs before after told → d'.outputs.places ≡ d.outputs.places →
      Rests mode stack plans n c' d' (happens stack plans w event).world
  rests_again event n c c' d d' outs before after told typed numbered given r stays h places = record {
    somewhere = record {
      mode_is = stays.mode ∙ r.somewhere.mode_is;
      stack_is = stays.stack ∙ r.somewhere.stack_is;
      plans_are = stays.plans ∙ r.somewhere.plans_are;
      count = stays.count ∙ r.somewhere.count;
      stands = h.world;
      chained = events_keep_chains stack plans w event typed numbered given r.somewhere.chained;
      within = events_keep_within stack plans w event n r.somewhere.within;
    };
    places = places ∙ r.places;
  }

  -- The number of the next packet, where a group stands.
  pub first_is : (c : Peopled) (n number : ℕ) → Somewhere mode stack plans n c w → number ≡ length c.spelled + 1 →
      number ≡ first_in w
  first_is c n number at is = is ∙ ap (λ k. k + 1) (count_packets c w at.stands)

  -- The line of an event, and then what it gave.
  pub journal_then : (event : ScriptEvent) (c : Peopled) (outs : List (Output × Option ℕ)) (before after : ℕ)
      (stepped : Stepped) (id first : ℕ)
      (a m b : Around) → Happened mode stack plans w event c outs before after (did.Stepped stepped) →
      id ≡ member_of event → first ≡ first_in w →
      Gains a.output m.output (journal_line event ∷ []) → m.faults ≡ a.faults → m.sends ≡ a.sends → m.told ≡ a.told →
      PassesAll (stepped_acts stack plans id first outs stepped) m b →
      PassesAll (event_acts mode stack plans w event) a b
  journal_then event c outs before after stepped id first a m b h id_is first_is gained faults sends told p = record {
    failed = p.failed;
    passed = passes_then a m b (puts (journal_line event) ∷ [])
        (stepped_acts stack plans id first outs stepped p.failed)
        (event_acts mode stack plans w event p.failed) [] p.failed
        (passes_lines a m (journal_line event ∷ []) gained faults sends told) p.passed
        (event_acts_are event c outs before after stepped id first p.failed h id_is first_is);
  }

  pub journal_cut : (event : ScriptEvent) (c : Peopled) (outs : List (Output × Option ℕ)) (before after : ℕ)
      (stepped : Stepped) (id first : ℕ)
      (a m b : Around) (e : SinkError) → Happened mode stack plans w event c outs before after (did.Stepped stepped) →
      id ≡ member_of event → first ≡ first_in w →
      Gains a.output m.output (journal_line event ∷ []) → m.faults ≡ a.faults → m.sends ≡ a.sends → m.told ≡ a.told →
      Breaks (stepped_acts stack plans id first outs stepped) e m b → Breaks (event_acts mode stack plans w event) e a b
  journal_cut event c outs before after stepped id first a m b e h id_is first_is gained faults sends told q =
      breaks_then a m b (puts (journal_line event) ∷ []) (stepped_acts stack plans id first outs stepped)
      (event_acts mode stack plans w event) [] e
      (passes_lines a m (journal_line event ∷ []) gained faults sends told) q
      (record {
        more = λ g. [];
        are = λ g few. event_acts_are event c outs before after stepped id first g h id_is first_is
            ∙ ap (λ acts. puts (journal_line event) ∷ acts)
            (sym (append-nil (stepped_acts stack plans id first outs stepped g)));
      })

  -- The line of an event, and then want of memory.
  pub journal_none : (event : ScriptEvent) (a m : Around) → Gains a.output m.output (journal_line event ∷ []) →
      m.faults ≡ a.faults →
      m.sends ≡ a.sends → m.told ≡ a.told → Breaks (event_acts mode stack plans w event) sink.Memory a m
  journal_none event a m gained faults sends told =
      breaks_then a m m (puts (journal_line event) ∷ []) rest (event_acts mode stack plans w event) [] sink.Memory
      (passes_lines a m (journal_line event ∷ []) gained faults sends told)
      (breaks_first m m rest sink.Memory (memory_stops m.output (rest [])) refl refl refl)
      (record {
        more = λ g. [];
        are = λ g few. ap (λ acts. puts (journal_line event) ∷ acts) (sym (append-nil (rest g)));
      }) where
        rest : List Bool → List Act
        rest failed = did_acts mode stack plans w event (happens stack plans w event).did failed
