-- What is made of traces that may be run in place of a stack's own is the stack's.
use Rattle.std.proofs.Common.{List, [], ◌∷◌, map, Option, Some, None, sym, ap, ◌∙◌, subst, arith}
use Rattle.std.specs.List.{AllZip}
use Rattle.layer_mean.specs.declared.run.Case.{Case}
use Rattle.layer_mean.specs.declared.run.Case.TheVariants.{First, Second}
use Rattle.layer_mean.specs.Tree.{LayerTree}
use Rattle.stack_mean.specs.Shape.{shape}
use Rattle.trace_mean.specs.Trace.{Operation}
use Rattle.guard_mean.specs.Prune.{hoist}
use Rattle.guard_laws.proofs.NoSimpler.{simplified_is_reduced}
use Rattle.bypass_mean.specs.Bypasses.{Entry, entries_of, Made, fused, absent}
use Rattle.bypass_laws.specs.Stack.{HasOutputs, IsTrace, IsFused, IsMade, IsSecond}
use Rattle.bypass_laws.specs.Making.{made_of, second_of, simplest}
use Rattle.bypass_laws.proofs.Guards.{hoisted_guards, simplified_guards}
use Rattle.bypass_laws.proofs.Making.{simplest_are_of_stack}
use Rattle.pack_laws.specs.Replacement.{Replaces, IsReplaced, IsSecondReplaced, FirstReplaces, SecondReplaces}
use Rattle.pack_laws.specs.Replacement.{ReplacedAreOfStack}
use Rattle.pack_laws.proofs.SameActs.{same_acts_follow_alike}
use Rattle.pack_laws.proofs.SafeActs.{same_acts_are_safe}
use Rattle.pack_laws.proofs.Counts.{same_writes, same_outputs}

module _ (stack : List LayerTree) (e : Entry) where
  -- it is a trace of the entry
  replaced_trace : (case : Case) (own trace : List Operation) → Replaces stack e own trace → IsTrace case stack e own →
      IsTrace case stack e trace
  replaced_trace case own trace r is = record {
    formed = record {
      closed = r.closed;
      there = r.there;
      safe = λ i states enters. same_acts_are_safe stack own trace (sym r.acts) i states
          (is.formed.safe i states enters);
    };
    right = λ i states enters. let own_right = is.right i states enters in record {
      answer = same_acts_follow_alike trace own r.acts i states ∙ own_right.answer;
      safe = same_acts_are_safe stack own trace (sym r.acts) i states own_right.safe;
    };
    writes = let same = same_writes trace own r.acts in let few = is.writes in omega (arith, same, few);
    outputs = subst (λ n. HasOutputs n (shape stack e.known case)) (same_outputs own trace (sym r.acts)) is.outputs;
    joins = let fewer = r.joins in let few = is.joins in omega (arith, fewer, few);
  }

  replaced_made : (case : Case) (own made : Made) → IsReplaced stack e own made → IsMade case stack e own →
      IsMade case stack e made
  replaced_made case (fused own guarded) (fused trace other) r is =
      let trace_is = replaced_trace case own trace r.0 is.trace_is in
      subst (λ g. IsFused case stack e trace g) (sym r.1) (record {
        within = is.within;
        trace_is = trace_is;
        guard_is = simplified_guards stack e trace (hoist trace) (hoisted_guards stack e trace trace_is.formed);
        reduced = simplified_is_reduced (hoist trace);
      })
  replaced_made case (fused own guarded) (absent other) r is = absurd r
  replaced_made case (absent reason) (fused trace other) r is = absurd r
  replaced_made case (absent reason) (absent other) r is = is ∙ ap Some (sym r)

  replaced_second : (own made : Option Made) → IsSecondReplaced stack e own made → IsSecond stack e own →
      IsSecond stack e made
  replaced_second None None r is = is
  replaced_second None (Some made) r is = absurd r
  replaced_second (Some own) None r is = absurd r
  replaced_second (Some own) (Some made) r is = (is.0, replaced_made Second own made r is.1)

module _ (stack : List LayerTree) where
  all_made : (es : List Entry) (made : List Made) → AllZip (FirstReplaces stack) es made →
      AllZip (IsMade First stack) es (map (made_of simplest First stack) es) → AllZip (IsMade First stack) es made
  all_made [] [] r is = tt
  all_made [] (x ∷ xs) r is = absurd r
  all_made (e ∷ es) [] r is = absurd r
  all_made (e ∷ es) (x ∷ xs) r is =
      (replaced_made stack e First (made_of simplest First stack e) x r.0 is.0, all_made es xs r.1 is.1)

  all_second : (es : List Entry) (made : List (Option Made)) → AllZip (SecondReplaces stack) es made →
      AllZip (IsSecond stack) es (map (second_of simplest stack) es) → AllZip (IsSecond stack) es made
  all_second [] [] r is = tt
  all_second [] (x ∷ xs) r is = absurd r
  all_second (e ∷ es) [] r is = absurd r
  all_second (e ∷ es) (x ∷ xs) r is =
      (replaced_second stack e (second_of simplest stack e) x r.0 is.0, all_second es xs r.1 is.1)

pub replaced_are_of_stack : ReplacedAreOfStack
replaced_are_of_stack stack b sound r = let own = simplest_are_of_stack stack sound in record {
  made = all_made stack (entries_of stack) b.made r.made own.made;
  second = all_second stack (entries_of stack) b.second r.second own.second;
}
