-- What holds between the events of a script that is explained.
use Rattle.std.proofs.Common.{◌≡◌, ℕ, suc, ◌+◌, ◌<◌, ◌≤◌, List, [], ◌∷◌, ◌++◌, length, drop, get_or, refl, sym, ap, ap₂}
use Rattle.std.proofs.Common.{subst, ◌∙◌, append_assoc, append-nil, arith}
use Rattle.std.proofs.Math.Seq.{drop-cons}
use Rattle.std.specs.Prelude.{Err}
use Rattle.file_scope.proofs.Lists.{drop_all}
use Rattle.group_feed.specs.Standing.{Peopled, Stands}
use Rattle.layer_ast.specs.Tree.{FileTree}
use Rattle.layer_mean.specs.Tree.{LayerTree}
use Rattle.miss_mean.specs.Text.{explained_lines}
use Rattle.outside.proofs.Gaining.{cut_short, gains_none, gains_then}
use Rattle.outside.specs.Lines.{Gains, Wrote}
use Rattle.outside.specs.Tells.{Tells}
use Rattle.outside.specs.declared.sink.SinkError.{SinkError}
use Rattle.run_mean.specs.Report.{end_line}
use Rattle.run_mean.specs.World.{World, first_world, happens}
use Rattle.script_mean.specs.declared.event.ScriptEvent.{ScriptEvent}
use Rattle.script_mean.specs.declared.script.Script.{Script}
use Rattle.stack_mean.specs.Plan.{Plan}
use Rattle.miss_explain.specs.Explaining.{IsAtFirst, IsExplained, IsReady, Keeps, lines_at, misses_from, script_misses}

module _ (file : FileTree) (stack : List LayerTree) (plans : List Plan) (s : Script) where
  -- After k events a group stands at a world, with as many members as at first, and the lines that are left are those
  -- of the other events from there on.
  pub record Held (k : ℕ) (c : Peopled) (places : ℕ) (a b : Tells) : Type 0 where
    pub ready : IsReady stack plans c places
    pub count : length c.members ≡ s.members
    pub world : World
    pub stands : Stands c world
    pub front : List (List ℕ)
    pub whole : script_misses file stack plans s ≡ front ++ misses_from file stack plans (k + 1) world (drop k s.events)
    pub gained : Gains a b front

  pub held_first : (c : Peopled) (places : ℕ) (a : Tells) → IsAtFirst stack plans s c places → Held 0 c places a a
  held_first c places a first = record {
    ready = first.ready;
    count = first.count;
    world = first_world stack s.group s.stamp s.members;
    stands = first.world;
    front = [];
    whole = refl;
    gained = gains_none a;
  }

  module _ (k : ℕ) (event : ScriptEvent) (lt : k < length s.events) (is : event ≡ get_or s.events k event) where
    -- the lines from one event on are its line and those after it
    from_here : (w : World) → misses_from file stack plans (k + 1) w (drop k s.events)
        ≡ lines_at file stack plans (k + 1) w event
        ++ misses_from file stack plans (k + 1 + 1) (happens stack plans w event).world (drop (k + 1) s.events)
    from_here w =
        let next : suc k ≡ k + 1 = omega arith in
        ap (misses_from file stack plans (k + 1) w)
        (drop-cons s.events k event lt ∙ ap₂ (λ e n. e ∷ drop n s.events) (sym is) next)

    whole_is : (c : Peopled) (places : ℕ) (a b : Tells) (held : Held k c places a b) →
        script_misses file stack plans s ≡ (held.front ++ lines_at file stack plans (k + 1) held.world event)
        ++ misses_from file stack plans (k + 1 + 1) (happens stack plans held.world event).world (drop (k + 1) s.events)
    whole_is c places a b held = held.whole ∙ ap (λ ls. held.front ++ ls) (from_here held.world) ∙
        sym (append_assoc held.front _ _)

    pub held_more : (c c' : Peopled) (places places' : ℕ) (a b d : Tells) (held : Held k c places a b) →
        Keeps stack plans c c' places' →
        IsExplained file stack plans (k + 1) held.world event c' b d → Held (k + 1) c' places' a d
    held_more c c' places places' a b d held kept told = record {
      ready = kept.ready;
      count = kept.count ∙ held.count;
      world = (happens stack plans held.world event).world;
      stands = told.world;
      front = held.front ++ lines_at file stack plans (k + 1) held.world event;
      whole = whole_is c places a b held;
      gained = gains_then a b d held.front (lines_at file stack plans (k + 1) held.world event) _ held.gained
          told.gained refl;
    }

    pub held_cut : (c : Peopled) (places : ℕ) (a b d : Tells) (e : SinkError) (held : Held k c places a b) →
        Wrote (lines_at file stack plans (k + 1) held.world event) b d (Err e) →
        Wrote (script_misses file stack plans s) a d (Err e)
    held_cut c places a b d e held cut =
        cut_short a b d held.front (lines_at file stack plans (k + 1) held.world event)
        (script_misses file stack plans s)
        (misses_from file stack plans (k + 1 + 1) (happens stack plans held.world event).world (drop (k + 1) s.events))
        e held.gained cut
        (whole_is c places a b held)

  pub held_last : (k : ℕ) (c : Peopled) (places : ℕ) (a b : Tells) → Held k c places a b → length s.events ≤ k →
      Gains a b (script_misses file stack plans s)
  held_last k c places a b held all =
      subst (Gains a b) (sym (held.whole
      ∙ ap (λ es. held.front ++ misses_from file stack plans (k + 1) held.world es) (drop_all s.events k all)
      ∙ append-nil held.front)) held.gained

  -- the lines of a script, and its last one
  pub explained_is : script_misses file stack plans s ++ end_line (length s.events) ∷ [] ≡
      explained_lines file stack plans s
  unfolding explained_lines
  explained_is = refl
