-- How a node begins, and how it ends.
use Rattle.std.proofs.Common.{◌≡◌, inl, inr, ℕ, ◌-◌, ◌<◌, ◌≤◌, List, [], ◌∷◌, length, refl, sym, ap, subst, ◌∙◌, arith}
use Rattle.std.proofs.Common.{Option, Some}
use Rattle.std.proofs.lemmas.List.{length-map}
use Rattle.std.proofs.Math.Seq.{take-length}
use Rattle.std.proofs.lemmas.List.FromFn.{length-range_with_len}
use Rattle.std.specs.List.{AllByRecursion, range_with_len}
use Rattle.std.specs.Prelude.{Result, Ok, Err}
use Rattle.outside.specs.Links.{Network}
use Rattle.outside.specs.declared.links.Peer.{Peer}
use Rattle.outside.specs.declared.sink.SinkError.{SinkError}
use Rattle.outside.specs.declared.sink.SinkError.TheVariants as sink
use Rattle.run_mean.specs.Mode.{Mode}
use Rattle.layer_mean.specs.Tree.{LayerTree}
use Rattle.packet_mean.specs.ChainedState.{IsNumber}
use Rattle.chain_laws.specs.Runs.{TypedStack}
use Rattle.packet_laws.specs.Strays.{AreNumbered}
use Rattle.member_laws.proofs.Members.{first_world_is_chained}
use Rattle.script_mean.specs.declared.plan.NodePlan.{NodePlan}
use Rattle.stack_mean.specs.Acceptance.{largest_weight}
use Rattle.stack_mean.specs.Plan.{Plan}
use Rattle.stack_mean.specs.Plans.{plans_of}
use Rattle.run_mean.specs.Member.{opened_member}
use Rattle.run_mean.specs.Report.{end_line}
use Rattle.msg_core.specs.View.{first_view}
use Rattle.group_mean.specs.Node.{node_words}
use Rattle.outside.specs.Lines.{Wrote}
use Rattle.outside.specs.Tells as output
use Rattle.outside.proofs.Gaining.{gains_none}
use Rattle.group_feed.specs.Standing.{Peopled, Stands}
use Rattle.node_laws.specs.Doings.{doings_from}
use Rattle.node_laws.specs.Network.{Goes, Tells}
use Rattle.node_laws.specs.Stages.{Course, StoppedGoesOn, from_turn}
use Rattle.node_laws.proofs.Groups.{first_views_are_within}
use Rattle.node_laws.proofs.Sendings.{tells_same}
use Rattle.node_loop.specs.Around.{Around, surrounding}
use Rattle.node_loop.specs.Course.{Begun, Made, MadeAll, Now, SoFar, now}
use Rattle.node_loop.specs.Feeding.{IsUp, Rests}
use Rattle.node_loop.specs.Listening.{Listened, ListenedSome, ListensAll}
use Rattle.node_loop.specs.Serve.{Serves, Task, after_listens, Whereabouts, first_of_plan, whereabouts}
use Rattle.node_loop.specs.declared.desk.NodeDesk.{NodeDesk}
use Rattle.node_loop.specs.declared.error.NodeError.{NodeError}
use Rattle.node_loop.specs.declared.error.NodeError.TheVariants.{Link, Write, Memory}
use Rattle.node_loop.proofs.Asking.{cut_short}
use Rattle.node_loop.proofs.Served.{IsUntouched, Reaches, begun, broken, last_cut, listens_untouched, made_all}
use Rattle.node_loop.proofs.Served.{no_moments, not_listened, nothing_done, untouched, went_deaf}

-- Members are of the group, and listen.
all_listen : (listening : ℕ → Option ℕ) (n : ℕ) (ids : List ℕ) → AllByRecursion (λ id. id < n) ids →
    AllByRecursion (λ id. listening id ≡ Some n) ids → AllByRecursion (λ id. (id < n) × (listening id ≡ Some n)) ids
all_listen listening n [] few listen = tt
all_listen listening n (id ∷ ids) few listen = ((few.0, listen.0), all_listen listening n ids few.1 listen.1)

-- All members listened.
pub reached : (out : output.Tells) (peers : List Peer) (me : List ℕ) (faults after sends sends_after : ℕ)
    (told told_after : Option Network) →
    (after ≡ faults) × Tells (Listened peers me) told told_after → sends_after ≡ sends →
    Reaches (Listened peers me) (surrounding out faults sends told) (surrounding out after sends_after told_after)
reached out peers me faults after sends sends_after told told_after listened sent =
    record { output = refl; faults = listened.0; sends = sent; told = listened.1 }

module _ (stack : List LayerTree) (plan : NodePlan) (me : List ℕ) (turns patience : ℕ) (mode : Mode) where
  abbrev course : Course
  course = record { plan = plan; me = me; turns = turns }

  abbrev task : Task
  task = record { stack = stack; plan = plan; words = node_words turns me patience mode }

  -- A group rests at its first world, with a desk at which nothing was done.
  pub rests_first : (plans : List Plan) (c : Peopled) (d : NodeDesk) → TypedStack stack → IsNumber plan.group →
      IsNumber plan.stamp → length plan.peers ≤ 32 →
      c.mode ≡ mode → c.stack ≡ stack → c.plans ≡ plans → Stands c (first_of_plan stack plan) →
      d.outputs.places ≡ largest_weight stack →
      Rests mode stack plans (length plan.peers) c d (first_of_plan stack plan)
  rests_first plans c d typed group stamp few mode_is stack_is plans_are stands places = record {
    somewhere = record {
      mode_is = mode_is;
      stack_is = stack_is;
      plans_are = plans_are;
      count = ap length (sym stands.members) ∙
          length-map (range_with_len 0 (length plan.peers)) (opened_member stack (first_view (length plan.peers)))
          ∙ length-range_with_len 0 (length plan.peers);
      stands = stands;
      chained = first_world_is_chained stack plan.group plan.stamp (length plan.peers) typed group stamp few;
      within = first_views_are_within stack plan.group plan.stamp (length plan.peers) few;
    };
    places = places;
  }

  pub up_first : (plans : List Plan) (c : Peopled) (d : NodeDesk) (listening : ℕ → Option ℕ) → TypedStack stack →
      AreNumbered plans →
      Rests mode stack plans (length plan.peers) c d (first_of_plan stack plan) →
      AllByRecursion (λ id. id < length plan.peers) me →
      AllByRecursion (λ id. listening id ≡ Some (length plan.peers)) me → IsUp stack plans c d listening me
  up_first plans c d listening typed numbered rests few listen = record {
    typed = typed;
    numbered = numbered;
    mode = mode;
    members = length plan.peers;
    world = first_of_plan stack plan;
    rests = rests;
    listen = all_listen listening (length plan.peers) me few listen;
  }

  so_first : (plans : List Plan) (c : Peopled) (d : NodeDesk) →
      Rests mode stack plans (length plan.peers) c d (first_of_plan stack plan) → d.events ≡ 0 →
      (from : Around) (clock : Option (List ℕ)) →
      SoFar stack plans course (begun stack plan me turns patience mode from clock) 0 0 (from_turn course 0 patience) 0
      (now c d from clock)
  so_first plans c d rests none from clock = record {
    clock = [];
    heard = [];
    done = [];
    failed = [];
    world = first_of_plan stack plan;
    goes = λ later more. let all : turns ≡ turns - 0 = omega arith in
        ap (λ n. doings_from plan me 0 n patience later more) all;
    moments_are = refl;
    answers_are = refl;
    asked = refl;
    borne_are = refl;
    world_is = refl;
    rests = rests;
    each = refl;
    counted = none;
    gained = gains_none from.output;
    faults = refl;
    sends = refl;
    told = tells_same (Goes mode stack plans (first_of_plan stack plan) [] []) from.told (λ n. refl);
    clock_told = no_moments clock;
  }

  -- What the turns of a node that begins lead to.
  pub made_first : (plans : List Plan) (c : Peopled) (d : NodeDesk) →
      Rests mode stack plans (length plan.peers) c d (first_of_plan stack plan) → d.events ≡ 0 →
      plans ≡ plans_of stack → (from : Around) (clock : Option (List ℕ)) (at : Now) (r : Result (Unit {0}) NodeError) →
      ((b : Begun) → b.patience ≡ patience →
      SoFar stack plans course b 0 0 (from_turn course 0 patience) 0 (now c d from clock) →
      Made stack plans course b at r) →
      Made stack (plans_of stack) course (begun stack plan me turns patience mode from clock) at r
  made_first plans c d rests none is from clock at r told =
      subst (λ plans. Made stack plans course (begun stack plan me turns patience mode from clock) at r) is
      (told (begun stack plan me turns patience mode from clock) refl (so_first plans c d rests none from clock))

  module _ (goes_on : StoppedGoesOn) where
    -- Memory ran out before the members listened.
    pub not_begun : (a : Whereabouts) → Serves task a a (Err Memory)
    not_begun a =
        let nothing = nothing_done stack plan me turns patience mode a.around a.clock in
        broken stack plan me turns patience mode goes_on a a.around sink.Memory a.around a.clock nothing.0
        (subst (λ clock. Reaches (IsUntouched plan.peers me clock) a.around a.around) (sym nothing.1)
        (untouched plan.peers me a.around))

    -- They didn't all listen.
    pub not_all_listen : (out : output.Tells) (clock : Option (List ℕ)) (faults after sends sends_after : ℕ)
        (told told_after : Option Network)
        (e : NodeError) → ListensAll plan.peers me faults after told told_after (Err e) → sends_after ≡ sends →
        Serves task (whereabouts (surrounding out faults sends told) clock)
        (whereabouts (surrounding out after sends_after told_after) clock) (Err e)
    not_all_listen out clock faults after sends sends_after told told_after Link listened sent =
        inl (not_listened stack plan me turns patience mode (whereabouts (surrounding out faults sends told) clock)
        (whereabouts (surrounding out after sends_after told_after) clock) refl listened.0 sent refl listened.1)
    not_all_listen out clock faults after sends sends_after told told_after Write listened sent = absurd listened
    not_all_listen out clock faults after sends sends_after told told_after Memory listened sent =
        let b = surrounding out after sends_after told_after in
        let nothing = nothing_done stack plan me turns patience mode b clock in
        broken stack plan me turns patience mode goes_on (whereabouts (surrounding out faults sends told) clock) b
        sink.Memory b clock nothing.0
        (listens_untouched plan.peers me nothing.0.clock (ListenedSome plan.peers me)
        (surrounding out faults sends told) b
        record { output = refl; faults = listened.0; sends = sent; told = listened.1 }
        (λ n n' l. (l.some, inr nothing.1, l.is)))

    module _ (a : Whereabouts) (from : Around) (listened : Reaches (Listened plan.peers me) a.around from) where
      still : (clock : List ℕ) → Reaches (IsUntouched plan.peers me clock) a.around from
      still clock = listens_untouched plan.peers me clock (Listened plan.peers me) a.around from listened
          (λ n n' l. (length me, inl refl, l.is ∙ ap (λ ids. after_listens plan.peers ids n) (sym (take-length me))))

      -- Not all turns were made.
      pub not_all_made : (at : Now) (e : NodeError) →
          Made stack (plans_of stack) course (begun stack plan me turns patience mode from a.clock) at (Err e) →
          Serves task a (whereabouts at.around at.clock) (Err e)
      not_all_made at Link made = inr (went_deaf stack plan me turns patience mode a from listened at made)
      not_all_made at Write made = broken stack plan me turns patience mode goes_on a from sink.Failed at.around
          at.clock made (still made.clock)
      not_all_made at Memory made = broken stack plan me turns patience mode goes_on a from sink.Memory at.around
          at.clock made (still made.clock)

      -- All were, and the last line was put, or that was cut short.
      pub all_served : (at : Now) →
          MadeAll stack (plans_of stack) course (begun stack plan me turns patience mode from a.clock) at →
          (out : output.Tells) (r : Result (Unit {0}) SinkError) →
          Wrote (end_line at.desk.events ∷ []) at.around.output out r →
          Serves task a (whereabouts (surrounding out at.around.faults at.around.sends at.around.told) at.clock)
          (cut_short r)
      all_served at made out (Ok done) wrote = made_all stack plan me turns patience mode a from listened at made out
          wrote
      all_served at made out (Err sink.Failed) wrote =
          let cut = last_cut stack plan me turns patience mode from a.clock at out sink.Failed made wrote in
          broken stack plan me turns patience mode goes_on a from sink.Failed
          (surrounding out at.around.faults at.around.sends at.around.told) at.clock cut (still cut.clock)
      all_served at made out (Err sink.Memory) wrote =
          let cut = last_cut stack plan me turns patience mode from a.clock at out sink.Memory made wrote in
          broken stack plan me turns patience mode goes_on a from sink.Memory
          (surrounding out at.around.faults at.around.sends at.around.told) at.clock cut (still cut.clock)
