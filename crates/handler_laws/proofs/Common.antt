-- In which cases a step is common, by its entry's shape and by what its run decided.
use Rattle.std.proofs.Common.{◌≡◌, ◌∙◌, ℕ, ◌+◌, Bool, true, false, ◌&&◌, List, [], ◌∷◌, Option, Some, None, refl, sym}
use Rattle.std.proofs.Common.{ap}
use Rattle.std.specs.Prelude.{not, cond, is_none, nat_le, if◌then◌else◌, Result, Ok, Err}
use Rattle.std.specs.List.{list_all, position_from}
use Rattle.std.specs.Option.{option_map_or}
use Rattle.std.proofs.lemmas.Iterator.Adapters.{position_from-zero}
use Rattle.layer_mean.specs.declared.run.Case.{Case}
use Rattle.layer_mean.specs.Effect.{Decision, went_as, first_missed}
use Rattle.layer_mean.specs.Queue.{is_predicted, Work}
use Rattle.stack_mean.specs.NoShape.{NoShape, long}
use Rattle.stack_mean.specs.Shape.{Shape}
use Rattle.run_mean.specs.Common.{longest_shape, is_short}
use Rattle.trace_mean.specs.Follow.{reached, stopped}
use Rattle.trace_laws.specs.Right.{answer_for}
use Rattle.guard_mean.specs.Perform.{End, answer_end}
use Rattle.bypass_laws.specs.Stack.{lack_of}

-- a shape that lacks nothing is short, and one that lacks something isn't
pub nothing_lacks : (r : Result Shape NoShape) → lack_of r ≡ None → is_short r ≡ true
nothing_lacks (Err reason) is = absurd (cc is)
nothing_lacks (Ok s) is = go (nat_le s.length longest_shape) is where
  go : (b : Bool) → (if b then None else Some long) ≡ None → b ≡ true
  go true is = refl
  go false is = absurd (cc is)

pub something_lacks : (r : Result Shape NoShape) (reason : NoShape) → lack_of r ≡ Some reason → is_short r ≡ false
something_lacks (Err other) reason is = refl
something_lacks (Ok s) reason is = go (nat_le s.length longest_shape) is where
  go : (b : Bool) → (if b then None else Some long) ≡ Some reason → b ≡ false
  go true is = absurd (cc is)
  go false is = refl

-- all went as predicted where no decision is the first that didn't
none_from : (case : Case) (ds : List Decision) (n : ℕ) → list_all (went_as case) ds ≡
    is_none (position_from (λ d. not (went_as case d)) n ds)
none_from case [] n = refl
none_from case (d ∷ ds) n = one (went_as case d) (none_from case ds (n + 1)) where
  one : (b : Bool) → list_all (went_as case) ds ≡ is_none (position_from (λ d. not (went_as case d)) (n + 1) ds) →
      (b && list_all (went_as case) ds) ≡
      is_none (cond (not b) (Some n) (position_from (λ d. not (went_as case d)) (n + 1) ds))
  one true rest = rest
  one false rest = refl

none_missed : (case : Case) (ds : List Decision) → list_all (went_as case) ds ≡ is_none (first_missed case ds)
none_missed case ds = none_from case ds 0 ∙ ap is_none (sym (position_from-zero (λ d. not (went_as case d)) ds))

-- a run went as predicted exactly where its answer has an end, and that has the run's states and outputs
pub record Came (case : Case) (w : Work) (e : End) : Type 0 where
  pub predicted : is_predicted case w ≡ true
  pub states : e.states ≡ w.states
  pub outs : e.outs ≡ w.outs

pub came : (case : Case) (w : Work) (e : End) → answer_end (answer_for case w) ≡ Some e → Came case w e
came case w e is = go (first_missed case w.decided) refl is where
  go : (o : Option ℕ) → first_missed case w.decided ≡ o →
      answer_end (option_map_or stopped o (reached w.states w.outs)) ≡
      Some e → Came case w e
  go None none is =
      let same : record { states = w.states; outs = w.outs } ≡ e = cc in record {
        predicted = none_missed case w.decided ∙ ap is_none none;
        states = ap (λ (x : End). x.states) (sym same);
        outs = ap (λ (x : End). x.outs) (sym same);
      }
  go (Some n) missed is = absurd (cc is)

pub left : (case : Case) (w : Work) → answer_end (answer_for case w) ≡ None → is_predicted case w ≡ false
left case w is = go (first_missed case w.decided) refl is where
  go : (o : Option ℕ) → first_missed case w.decided ≡ o →
      answer_end (option_map_or stopped o (reached w.states w.outs)) ≡
      None →
      is_predicted case w ≡ false
  go None none is = absurd (cc is)
  go (Some n) missed is = none_missed case w.decided ∙ ap is_none missed
