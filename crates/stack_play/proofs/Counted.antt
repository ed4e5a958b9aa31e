-- What holds between the events of a script whose lines are counted.
use Rattle.std.proofs.Common.{◌≡◌, ℕ, ◌+◌, ◌<◌, ◌≤◌, List, length, take, get_or, sym, ap, subst, ◌∙◌, arith}
use Rattle.std.specs.Prelude.{Option, Some, slice_get}
use Rattle.std.proofs.lemmas.List.{take_all, length-take-le}
use Rattle.std.proofs.lemmas.Option.{get_or_from_slice_get, slice_get_within}
use Rattle.run_mean.specs.Mode.{Mode}
use Rattle.layer_mean.specs.Tree.{LayerTree}
use Rattle.script_mean.specs.declared.event.ScriptEvent.{ScriptEvent}
use Rattle.script_mean.specs.declared.script.Script.{Script}
use Rattle.script_mean.specs.Event.{member_of}
use Rattle.script_text.specs.Course.{Course, IsNext, script_for}
use Rattle.script_text.specs.declared.generating.Workload.{Workload}
use Rattle.script_text.proofs.Made.{made_length}
use Rattle.stack_mean.specs.Plan.{Plan}
use Rattle.run_mean.specs.Member.{Output}
use Rattle.run_mean.specs.Report.{moments, run_of}
use Rattle.run_mean.specs.World.{World, first_world}
use Rattle.view_core.specs.declared.step.Did.{Did}
use Rattle.report_text.specs.Counts.{with_event_counted, counts_of, no_counts}
use Rattle.report_text.specs.declared.counts.Counts.{Counts}
use Rattle.report_text.proofs.Gained.{counted_moment}
use Rattle.group_feed.specs.Beginning.{IsAtFirst}
use Rattle.stack_play.specs.Turns.{Keeps, Playing, moment_at, IsCounted}
use Rattle.stack_play.proofs.Events.{Happened}
use Rattle.stack_play.proofs.Held.{StandsAt, stands_first, stands_next}
use Rattle.stack_play.proofs.Moments.{stands_at, front, front_more, moments_length}

-- After k events the lines of each are counted.
pub record Counted (mode : Mode) (stack : List LayerTree) (plans : List Plan) (s : Script) (k : ℕ) (r : Playing)
    (counts : Counts) : Type 0 where
  pub stands : StandsAt mode stack plans s k r
  pub counts_are : counts ≡ counts_of mode stack plans (front stack plans s k)

-- The lines of an event that happened are counted.
pub counted_event : (mode : Mode) (stack : List LayerTree) (plans : List Plan) (w : World) (event : ScriptEvent)
    (old new : Playing)
    (outs : List (Output × Option ℕ)) (did : Did) (before after : Counts) →
    Happened mode stack plans w event new.group outs old.visits new.visits did →
    after ≡ with_event_counted before did outs →
    IsCounted mode stack plans w event new before after
counted_event mode stack plans w event old new outs did before after h is = record {
  world = h.world;
  counts = λ run was. is ∙ ap (λ c. with_event_counted c did outs) was
      ∙ counted_moment mode stack plans run (moment_at stack plans w event) outs old.visits new.visits did h.told;
}

module _ (mode : Mode) (stack : List LayerTree) (plans : List Plan) (s : Script) where
  more : (k : ℕ) (event : ScriptEvent) (r next : Playing) (before after : Counts) →
      Counted mode stack plans s k r before →
      Keeps mode stack plans r next →
      IsCounted mode stack plans (stands_at stack plans s k) event next before after → k < length s.events →
      event ≡ get_or s.events k event →
      Counted mode stack plans s (k + 1) next after
  more k event r next before after held kept c lt is = record {
    stands = stands_next mode stack plans s k event r next held.stands kept c.world lt is;
    counts_are = c.counts (front stack plans s k) held.counts_are ∙
        ap (counts_of mode stack plans) (sym (front_more stack plans s k event lt is));
  }

  pub counted_more : (k : ℕ) (event : ScriptEvent) (r next : Playing) (before after : Counts) →
      Counted mode stack plans s k r before →
      Keeps r.group.mode stack plans r next →
      IsCounted r.group.mode stack plans (stands_at stack plans s k) event next before after → k < length s.events →
      event ≡ get_or s.events k event →
      Counted mode stack plans s (k + 1) next after
  counted_more k event r next before after held kept c =
      let is = held.stands.ready.mode_is in
      more k event r next before after held (subst (λ x. Keeps x stack plans r next) is kept)
      (subst (λ x. IsCounted x stack plans (stands_at stack plans s k) event next before after) is c)

  -- as many events are counted as were played
  pub events_counted : (k : ℕ) (r : Playing) (counts : Counts) → Counted mode stack plans s k r counts →
      k ≤ length s.events → counts.events ≡ k
  events_counted k r counts held le = ap (λ c. c.events) held.counts_are
      ∙ moments_length stack plans (first_world stack s.group s.stamp s.members) (take k s.events) ∙
      length-take-le k s.events le

  pub counted_last : (k : ℕ) (r : Playing) (counts : Counts) → Counted mode stack plans s k r counts →
      length s.events ≤ k →
      counts ≡ counts_of mode stack plans (run_of stack plans s)
  counted_last k r counts held all = held.counts_are
      ∙ ap (λ es. counts_of mode stack plans (moments stack plans (first_world stack s.group s.stamp s.members) es))
      (take_all k s.events all)

-- After k events of a workload's script they were made, too, and no more.
pub record CountedSoFar (mode : Mode) (stack : List LayerTree) (plans : List Plan) (w : Workload) (k : ℕ) (r : Playing)
    (counts : Counts) (script : Course)
    : Type 0 where
  pub counted : Counted mode stack plans (script_for w) k r counts
  pub course : script ≡ record { workload = w; made = k }

module _ (mode : Mode) (stack : List LayerTree) (plans : List Plan) (w : Workload) where
  -- the script has as many events as are wanted
  many : length (script_for w).events ≡ w.events
  many = made_length w.seed w.members w.raw w.events

  pub first_counted : (r : Playing) (counts : Counts) (script : Course) →
      IsAtFirst mode stack plans 1 1 w.members r.group r.places →
      r.visits ≡ 0 → counts ≡ no_counts → script ≡ record { workload = w; made = 0 } →
      CountedSoFar mode stack plans w 0 r counts script
  first_counted r counts script first still none course = record {
    counted = record { stands = stands_first mode stack plans (script_for w) r first still; counts_are = none };
    course = course;
  }

  module _ (k : ℕ) (r : Playing) (counts : Counts) (script : Course)
      (held : CountedSoFar mode stack plans w k r counts script) where
    pub few_counted : k < w.events → counts.events ≡ k
    few_counted lt = events_counted mode stack plans (script_for w) k r counts held.counted (omega (arith, lt, many))

    pub all_counted : w.events ≤ k → counts ≡ counts_of mode stack plans (run_of stack plans (script_for w))
    all_counted all = counted_last mode stack plans (script_for w) k r counts held.counted (omega (arith, all, many))

    module _ (following : Course) (event : ScriptEvent) (next : IsNext script following event) where
      -- it is the next event of the script
      next_is : slice_get (script_for w).events k ≡ Some event
      next_is = rw held.course at next.event_is

      pub one_of_them : member_of event < length r.group.members
      one_of_them = let of_member : member_of event < w.members = rw held.course at next.of_member in
          subst (λ n. member_of event < n) (sym held.counted.stands.count) of_member

      pub next_counted : (r' : Playing) (after : Counts) → Keeps r.group.mode stack plans r r' →
          IsCounted r.group.mode stack plans (stands_at stack plans (script_for w) k) event r' counts after →
          CountedSoFar mode stack plans w (k + 1) r' after following
      next_counted r' after kept c = record {
        counted = counted_more mode stack plans (script_for w) k event r r' counts after held.counted kept c
            (slice_get_within (script_for w).events k event next_is)
            (sym (get_or_from_slice_get (script_for w).events k event event next_is));
        course = next.course ∙ ap (λ c. record { workload = c.workload; made = c.made + 1 }) held.course;
      }
