-- What holds between the events of a script that is played.
use Rattle.std.proofs.Common.{◌≡◌, ℕ, ◌+◌, ◌*◌, ◌<◌, ◌≤◌, Bool, List, [], ◌∷◌, ◌++◌, length, get_or, sym, ap, subst}
use Rattle.std.proofs.Common.{◌∙◌, append-nil, arith}
use Rattle.std.proofs.lemmas.Grind.{flat_map-append}
use Rattle.std.proofs.lemmas.List.{take_all}
use Rattle.std.proofs.lemmas.List.Sums.{fold-append}
use Rattle.std.specs.List.{flat_map, sum_by}
use Rattle.std.specs.Prelude.{Err}
use Rattle.outside.specs.declared.sink.SinkError.{SinkError}
use Rattle.run_mean.specs.Mode.{Mode}
use Rattle.layer_mean.specs.Tree.{LayerTree}
use Rattle.script_mean.specs.declared.event.ScriptEvent.{ScriptEvent}
use Rattle.script_mean.specs.declared.script.Script.{Script}
use Rattle.stack_mean.specs.Plan.{Plan}
use Rattle.group_mean.specs.Told.{lines_with_events}
use Rattle.run_mean.specs.Report.{Moment, mode_if, run_of, visits_of}
use Rattle.outside.specs.Lines.{Gains, Wrote}
use Rattle.outside.specs.Tells.{Tells}
use Rattle.outside.proofs.Gaining.{gains_none, gains_then, cut_short}
use Rattle.run_mean.specs.World.{first_world, happens}
use Rattle.run_mean.specs.Report.{moments}
use Rattle.group_feed.specs.Standing.{Stands}
use Rattle.group_feed.specs.Beginning.{IsReady, IsAtFirst}
use Rattle.stack_play.specs.Turns.{Keeps, Playing, moment_at, IsTold}
use Rattle.stack_play.proofs.Moments.{stands_at, front, front_more, stands_more, rest, whole}

-- The lines of a moment, and its visits.
abbrev pub lines_at : Mode → List LayerTree → List Plan → (events wire : Bool) → Moment → List (List ℕ)
lines_at mode stack plans events wire = lines_with_events events stack plans (mode_if wire mode)

abbrev pub visits_at : Mode → List LayerTree → List Plan → Moment → ℕ
visits_at mode stack plans = visits_of mode stack plans

-- After k events a run stands at their world, with as many members as at first and their visits.
pub record StandsAt (mode : Mode) (stack : List LayerTree) (plans : List Plan) (s : Script) (k : ℕ) (r : Playing) : Type
    0 where
  pub ready : IsReady mode stack plans r.group r.places
  pub count : length r.group.members ≡ s.members
  pub world : Stands r.group (stands_at stack plans s k)
  pub few : r.visits ≤ k * 65536

-- The sink gained their lines.
pub record Held (mode : Mode) (stack : List LayerTree) (plans : List Plan) (events wire : Bool) (s : Script) (k : ℕ)
    (r : Playing) (a b : Tells) : Type 0 where
  pub stands : StandsAt mode stack plans s k r
  pub visits : r.visits ≡ sum_by (visits_at mode stack plans) (front stack plans s k)
  pub gained : Gains a b (flat_map (lines_at mode stack plans events wire) (front stack plans s k))

-- A run that is ready in a mode is so in its own.
pub ready_as_it_is : (mode : Mode) (stack : List LayerTree) (plans : List Plan) (r : Playing) →
    IsReady mode stack plans r.group r.places →
    IsReady r.group.mode stack plans r.group r.places
ready_as_it_is mode stack plans r ready = subst (λ x. IsReady x stack plans r.group r.places) (sym ready.mode_is) ready

module _ (mode : Mode) (stack : List LayerTree) (plans : List Plan) (s : Script) where
  pub stands_first : (r : Playing) → IsAtFirst mode stack plans s.group s.stamp s.members r.group r.places →
      r.visits ≡ 0 →
      StandsAt mode stack plans s 0 r
  stands_first r first none = record {
    ready = first.ready;
    count = first.count;
    world = first.world;
    few = omega (arith, none);
  }

  pub stands_next : (k : ℕ) (event : ScriptEvent) (r next : Playing) → StandsAt mode stack plans s k r →
      Keeps mode stack plans r next →
      Stands next.group (happens stack plans (stands_at stack plans s k) event).world → k < length s.events →
      event ≡ get_or s.events k event →
      StandsAt mode stack plans s (k + 1) next
  stands_next k event r next held kept world lt is = let few = held.few in let more = kept.few in record {
    ready = kept.ready;
    count = kept.count ∙ held.count;
    world = subst (Stands next.group) (sym (stands_more stack plans s k event lt is)) world;
    few = omega (arith, few, more);
  }

  module _ (events wire : Bool) where
    pub held_first : (r : Playing) (a : Tells) → IsAtFirst mode stack plans s.group s.stamp s.members r.group r.places →
        r.visits ≡ 0 →
        Held mode stack plans events wire s 0 r a a
    held_first r a first none = record { stands = stands_first r first none; visits = none; gained = gains_none a }

    module _ (k : ℕ) (event : ScriptEvent) (lt : k < length s.events) (is : event ≡ get_or s.events k event) where
      abbrev m : Moment
      m = moment_at stack plans (stands_at stack plans s k) event

      lines_more : flat_map (lines_at mode stack plans events wire) (front stack plans s (k + 1))
          ≡ flat_map (lines_at mode stack plans events wire) (front stack plans s k) ++
          lines_at mode stack plans events wire m
      lines_more = ap (flat_map (lines_at mode stack plans events wire)) (front_more stack plans s k event lt is)
          ∙ flat_map-append (lines_at mode stack plans events wire) (front stack plans s k) (m ∷ [])
          ∙ ap (λ ls. flat_map (lines_at mode stack plans events wire) (front stack plans s k) ++ ls)
          (append-nil (lines_at mode stack plans events wire m))

      visits_more : sum_by (visits_at mode stack plans) (front stack plans s (k + 1))
          ≡ sum_by (visits_at mode stack plans) (front stack plans s k) + visits_at mode stack plans m
      visits_more = ap (sum_by (visits_at mode stack plans)) (front_more stack plans s k event lt is)
          ∙ fold-append (λ n x. n + visits_at mode stack plans x) 0 (front stack plans s k) (m ∷ [])

      more : (r next : Playing) (a b c : Tells) → Held mode stack plans events wire s k r a b →
          Keeps mode stack plans r next →
          IsTold mode stack plans events wire (stands_at stack plans s k) event r next b c →
          Held mode stack plans events wire s (k + 1) next a c
      more r next a b c held kept told = record {
        stands = stands_next k event r next held.stands kept told.world lt is;
        visits = told.visits ∙ ap (λ n. n + visits_at mode stack plans m) held.visits ∙ sym visits_more;
        gained = gains_then a b c _ _ _ held.gained told.gained lines_more;
      }

      pub held_more : (r next : Playing) (a b c : Tells) → Held mode stack plans events wire s k r a b →
          Keeps r.group.mode stack plans r next →
          IsTold r.group.mode stack plans events wire (stands_at stack plans s k) event r next b c →
          Held mode stack plans events wire s (k + 1) next a c
      held_more r next a b c held kept told =
          let is = held.stands.ready.mode_is in
          more r next a b c held (subst (λ x. Keeps x stack plans r next) is kept)
          (subst (λ x. IsTold x stack plans events wire (stands_at stack plans s k) event r next b c) is told)

      cut_at : (r : Playing) (a b c : Tells) (e : SinkError) → Held mode stack plans events wire s k r a b →
          Wrote (lines_at mode stack plans events wire m) b c (Err e) →
          Wrote (flat_map (lines_at mode stack plans events wire) (run_of stack plans s)) a c (Err e)
      cut_at r a b c e held cut =
          cut_short a b c _ _ _ (flat_map (lines_at mode stack plans events wire) (rest stack plans s k event lt is)) e
          held.gained cut
          (ap (flat_map (lines_at mode stack plans events wire)) (whole stack plans s k event lt is)
          ∙ flat_map-append (lines_at mode stack plans events wire) (front stack plans s (k + 1))
          (rest stack plans s k event lt is)
          ∙ ap (λ ls. ls ++ flat_map (lines_at mode stack plans events wire) (rest stack plans s k event lt is))
          lines_more)

      pub held_cut : (r : Playing) (a b c : Tells) (e : SinkError) → Held mode stack plans events wire s k r a b →
          Wrote (lines_at r.group.mode stack plans events wire m) b c (Err e) →
          Wrote (flat_map (lines_at mode stack plans events wire) (run_of stack plans s)) a c (Err e)
      held_cut r a b c e held cut =
          cut_at r a b c e held
          (subst (λ x. Wrote (lines_at x stack plans events wire m) b c (Err e)) held.stands.ready.mode_is cut)

    pub held_last : (k : ℕ) (r : Playing) (a b : Tells) → Held mode stack plans events wire s k r a b →
        length s.events ≤ k →
        Gains a b (flat_map (lines_at mode stack plans events wire) (run_of stack plans s)) ×
        (r.visits ≡ sum_by (visits_at mode stack plans) (run_of stack plans s))
    held_last k r a b held all =
        let same : front stack plans s k ≡ run_of stack plans s =
        ap (moments stack plans (first_world stack s.group s.stamp s.members)) (take_all k s.events all) in (
          subst (λ ms. Gains a b (flat_map (lines_at mode stack plans events wire) ms)) same held.gained,
          held.visits ∙ ap (sum_by (visits_at mode stack plans)) same,
        )
