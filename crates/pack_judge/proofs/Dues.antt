-- What is due of a stack is what is due of the cases that are made of its entries.
use Rattle.std.proofs.Common.{◌≡◌, ℕ, suc, Bool, true, false, nat_le, List, [], ◌∷◌, ◌++◌, map, option_to_list, Option}
use Rattle.std.proofs.Common.{Some, None, option_map, Result, Ok, Err, refl, ◌∙◌}
use Rattle.std.specs.Prelude.{if◌then◌else◌}
use Rattle.std.proofs.lemmas.List.{map-append}
use Rattle.layer_mean.specs.declared.run.Case.{Case}
use Rattle.layer_mean.specs.declared.run.Case.TheVariants.{First, Second}
use Rattle.layer_mean.specs.Tree.{LayerTree}
use Rattle.stack_mean.specs.NoShape as no_shape
use Rattle.stack_mean.specs.NoShape.{NoShape}
use Rattle.stack_mean.specs.Shape.{Shape, shape, drawn_shape, has_second_case}
use Rattle.run_mean.specs.Common.{longest_shape}
use Rattle.trace_mean.specs.Trace.{Operation}
use Rattle.trace_mean.specs.Fuse.{made_trace, trace_of}
use Rattle.bypass_mean.specs.Bypasses.{Entry, Made, fused, absent}
use Rattle.bypass_laws.specs.Stack.{lack_of}
use Rattle.bypass_laws.specs.Making.{made_with, simplest}
use Rattle.pack_mean.specs.File.{Due, within_limit, due_in, due_from}
use Rattle.synth.specs.Cases.{MadeCases, cases_of}
use Rattle.pack_judge.specs.Due.{entry_varying, made_due, second_due, cases_due, all_due}
use Rattle.pack_judge.specs.Filling.{own_case, made_owned, second_owned, cases_owned, all_owned}

abbrev due_with : ℕ → Entry → Case → List Operation → Due
due_with n e case own = record { entry = n; case = case; fields = entry_varying e; own = own }

-- of a case
one_due : (n : ℕ) (e : Entry) (case : Case) (s : Result Shape NoShape) (r : Result (List Operation) NoShape) →
    option_to_list (option_map (due_with n e case) (within_limit s r)) ≡
    made_due n (entry_varying e) case (made_with simplest (lack_of s) r)
one_due n e case (Err reason) r = refl
one_due n e case (Ok s) (Err reason) = go (nat_le s.length longest_shape) where
  go : (b : Bool) → [] ≡
      made_due n (entry_varying e) case (made_with simplest (if b then None else Some no_shape.long) (Err reason))
  go true = refl
  go false = refl
one_due n e case (Ok s) (Ok own) = go (nat_le s.length longest_shape) where
  go : (b : Bool) → option_to_list (option_map (due_with n e case) (if b then Some own else None)) ≡
      made_due n (entry_varying e) case (made_with simplest (if b then None else Some no_shape.long) (Ok own))
  go true = refl
  go false = refl

module _ (stack : List LayerTree) where
  -- of a second case
  second_is_due : (n : ℕ) (e : Entry) (b : Bool) → option_to_list (option_map (due_with n e Second) (within_limit
      (if b then drawn_shape stack e.known Second else Err no_shape.same)
      (if b then made_trace stack e.known e.fields Second else Err no_shape.same))) ≡
      second_due n (entry_varying e) (if b then Some (made_with simplest
      (lack_of (if b then drawn_shape stack e.known Second else Err no_shape.same))
      (if b then made_trace stack e.known e.fields Second else Err no_shape.same)) else None)
  second_is_due n e true = one_due n e Second (drawn_shape stack e.known Second)
      (made_trace stack e.known e.fields Second)
  second_is_due n e false = refl

  -- of entries
  pub due_are : (n : ℕ) (es : List Entry) →
      due_from stack n es ≡ all_due n (map entry_varying es) (map (cases_of stack) es)
  due_are n [] = refl
  due_are n (e ∷ es) =
      let first : due_in stack n e First ≡ made_due n (entry_varying e) First (cases_of stack e).first =
      one_due n e First (shape stack e.known First) (trace_of First stack e.known e.fields) in
      let second : due_in stack n e Second ≡ second_due n (entry_varying e) (cases_of stack e).second =
      second_is_due n e (has_second_case stack e.known) in
      λ i. first i ++ second i ++ due_are (suc n) es i

-- what is due has the stack's own traces of the cases that are made
made_own : (n fields : ℕ) (case : Case) (own : Made) → map own_case (made_due n fields case own) ≡ made_owned n case own
made_own n fields case (fused own guarded) = refl
made_own n fields case (absent reason) = refl

second_own : (n fields : ℕ) (own : Option Made) → map own_case (second_due n fields own) ≡ second_owned n own
second_own n fields None = refl
second_own n fields (Some own) = made_own n fields Second own

cases_own : (n fields : ℕ) (c : MadeCases) → map own_case (cases_due n fields c) ≡ cases_owned n c
cases_own n fields c =
    map-append own_case (made_due n fields First c.first) (second_due n fields c.second)
    ∙ (λ i. made_own n fields First c.first i ++ second_own n fields c.second i)

pub all_own : {E : Type 0} (v : E → ℕ) (f : E → MadeCases) (n : ℕ) (es : List E) →
    map own_case (all_due n (map v es) (map f es)) ≡ all_owned n (map f es)
all_own v f n [] = refl
all_own v f n (e ∷ es) =
    map-append own_case (cases_due n (v e) (f e)) (all_due (suc n) (map v es) (map f es))
    ∙ (λ i. cases_own n (v e) (f e) i ++ all_own v f (suc n) es i)
