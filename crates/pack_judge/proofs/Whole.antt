-- What is made of all entries of a stack with the traces of a file.
use Rattle.std.proofs.Common.{◌≡◌, ℕ, ◌≤◌, List, [], ◌∷◌, map, length, drop, Bool, true, false, Option, Some, None}
use Rattle.std.proofs.Common.{Result, Ok, Err, refl, sym, ap, ◌∙◌, subst, arith}
use Rattle.std.specs.Prelude.{slice_index_or, if◌then◌else◌}
use Rattle.std.specs.List.{AllByRecursion}
use Rattle.std.proofs.lemmas.List.{length-map}
use Rattle.std.proofs.lemmas.Simd.{map-map}
use Rattle.layer_mean.specs.declared.run.Case.{Case}
use Rattle.layer_mean.specs.declared.run.Case.TheVariants.{First, Second}
use Rattle.layer_mean.specs.Tree.{LayerTree}
use Rattle.stack_mean.specs.NoShape.{NoShape}
use Rattle.stack_mean.specs.Plan.{Plan}
use Rattle.stack_mean.specs.Plans.{plans_of}
use Rattle.stack_mean.specs.Shape.{shape, has_second_case}
use Rattle.trace_mean.specs.Fuse.{trace_of}
use Rattle.trace_mean.specs.Trace.{Operation}
use Rattle.bypass_mean.specs.Bypasses.{Entry, Made, Bypasses, plan_entry, entries_of}
use Rattle.bypass_laws.specs.Stack.{AreOfStack, lack_of}
use Rattle.bypass_laws.specs.Making.{made_with, made_of, bypasses_of, simplest, IsSound}
use Rattle.pack_mean.specs.File.{due_of, traces_in}
use Rattle.pack_mean.specs.Accepted.{longest_file, IsFault, differs}
use Rattle.pack_laws.specs.Form.{InForm}
use Rattle.pack_laws.specs.Accepted.{with_entry, from_entries}
use Rattle.pack_laws.proofs.Reading.{what_is_read_is_in_form}
use Rattle.pack_laws.proofs.Accepted.{accepted_are_of_stack}
use Rattle.stack_shapes.specs.declared.types.Plan as code
use Rattle.stack_shapes.specs.Lists.{plan_tree}
use Rattle.synth.specs.Cases.{MadeCases, cases_of, cases_tree}
use Rattle.trace_core.specs.declared.bypass.Cases.{Cases}
use Rattle.trace_core.specs.declared.bypass.Bypasses as code_bypass
use Rattle.trace_core.specs.Bypasses.{first_tree, second_tree, bypasses_tree}
use Rattle.pack_judge.specs.Due.{entry_varying, plan_varying, all_due, all_cases}
use Rattle.pack_judge.specs.Filling.{own_case, all_owned, AreSame, FirstOther, cases_filled, all_filled, Filled}
use Rattle.pack_judge.specs.Filling.{IsSimple}
use Rattle.pack_judge.specs.Filling.{SecondIsSimple, AreSimple}
use Rattle.pack_judge.specs.Judged.{AreOfFile}
use Rattle.pack_judge.proofs.Dues.{due_are, all_own}
use Rattle.pack_judge.proofs.Walk.{Traces, all_same, differs_in}

abbrev first_of : MadeCases → Made
first_of c = c.first

abbrev second_in : MadeCases → Option Made
second_in c = c.second

abbrev with_all : List MadeCases → Bypasses
with_all cs = record { made = map first_of cs; second = map second_in cs }

-- it is what the definition has
from_all : (stack : List LayerTree) (es : List Entry) (ts : Traces) →
    from_entries stack es ts ≡ with_all (all_filled (map (cases_of stack) es) ts).0
from_all stack [] ts = refl
from_all stack (e ∷ es) ts =
    let one = cases_filled (cases_of stack e) ts in ap (with_entry one.0.first one.0.second) (from_all stack es one.1)

-- what is made of a stack's entries, entry by entry
heads : {A : Type 0} (x y : A) (xs ys : List A) → x ∷ xs ≡ y ∷ ys → x ≡ y
heads x y xs ys is = ap (λ zs. slice_index_or zs 0 x) is

tails : {A : Type 0} (x y : A) (xs ys : List A) → x ∷ xs ≡ y ∷ ys → xs ≡ ys
tails x y xs ys is = ap (drop 1) is

by_entry : {E : Type 0} (f : E → MadeCases) (xs : List Cases) (es : List E) →
    map first_tree xs ≡ map (λ e. (f e).first) es →
    map second_tree xs ≡ map (λ e. (f e).second) es → map cases_tree xs ≡ map f es
by_entry f [] [] firsts seconds = refl
by_entry f [] (e ∷ es) firsts seconds = let none = ap length firsts in absurd (omega (arith, none))
by_entry f (x ∷ xs) [] firsts seconds = let none = ap length firsts in absurd (omega (arith, none))
by_entry f (x ∷ xs) (e ∷ es) firsts seconds =
    let first = heads (first_tree x) (f e).first (map first_tree xs) (map (λ e. (f e).first) es) firsts in
    let second = heads (second_tree x) (f e).second (map second_tree xs) (map (λ e. (f e).second) es) seconds in
    let more = by_entry f xs es
    (tails (first_tree x) (f e).first (map first_tree xs) (map (λ e. (f e).first) es) firsts)
    (tails (second_tree x) (f e).second (map second_tree xs) (map (λ e. (f e).second) es) seconds) in
    λ i. record { first = first i; second = second i } ∷ more i

-- its checks are hoisted and simplified
made_simple : (lack : Option NoShape) (r : Result (List Operation) NoShape) → IsSimple (made_with simplest lack r)
made_simple (Some reason) r = tt
made_simple None (Ok trace) = refl
made_simple None (Err reason) = tt

all_simple : (stack : List LayerTree) (es : List Entry) → AllByRecursion AreSimple (map (cases_of stack) es)
all_simple stack [] = tt
all_simple stack (e ∷ es) = (
  record {
    first = made_simple (lack_of (shape stack e.known First)) (trace_of First stack e.known e.fields);
    second = go (has_second_case stack e.known);
  },
  all_simple stack es,
) where
  go : (b : Bool) → SecondIsSimple (if b then Some (made_of simplest Second stack e) else None)
  go true = made_simple (lack_of (shape stack e.known Second)) (trace_of Second stack e.known e.fields)
  go false = tt

module _ (stack : List LayerTree) (own : code_bypass.Bypasses) (own_is : bypasses_tree own ≡ bypasses_of simplest stack)
  where
    cases_known : all_cases own ≡ map (cases_of stack) (entries_of stack)
    cases_known = by_entry (cases_of stack) (own.cast ∷ own.send ∷ own.plans.items) (entries_of stack)
        (ap (λ b. b.made) own_is) (ap (λ b. b.second) own_is)

    pub simple_known : AllByRecursion AreSimple (all_cases own)
    simple_known = subst (AllByRecursion AreSimple) (sym cases_known) (all_simple stack (entries_of stack))

    -- these have the traces that are due
    owns_known : all_owned 0 (all_cases own) ≡ map own_case (due_of stack)
    owns_known =
        ap (all_owned 0) cases_known
        ∙ sym (all_own entry_varying (cases_of stack) 0 (entries_of stack))
        ∙ ap (map own_case) (sym (due_are stack 0 (entries_of stack)))

    module _ (plans : List code.Plan) (plans_are : map plan_tree plans ≡ plans_of stack) where
      pub as_many : length own.plans.items ≡ length plans
      as_many =
          let cases = ap length cases_known in
          let entries = ap length plans_are in
          let one = length-map own.plans.items cases_tree in
          let two = length-map (map plan_entry (plans_of stack)) (cases_of stack) in
          let three = length-map (plans_of stack) plan_entry in
          let four = length-map plans plan_tree in
          omega (arith, cases, entries, one, two, three, four)

      vary_known : 0 ∷ 0 ∷ map plan_varying plans ≡ map entry_varying (entries_of stack)
      vary_known = ap (λ xs. 0 ∷ 0 ∷ xs) (
          sym (map-map (λ (p : Plan). entry_varying (plan_entry p)) plan_tree plans)
          ∙ ap (map (λ (p : Plan). entry_varying (plan_entry p))) plans_are
          ∙ sym (map-map entry_varying plan_entry (plans_of stack))
          )

      pub due_known : all_due 0 (0 ∷ 0 ∷ map plan_varying plans) (all_cases own) ≡ due_of stack
      due_known = (λ i. all_due 0 (vary_known i) (cases_known i)) ∙ sym (due_are stack 0 (entries_of stack))

    module _ (text : List ℕ) (short : length text ≤ longest_file) (ts : Traces) (read : traces_in stack text ≡ Ok ts)
      where
        -- what was made
        pub of_file : (made : code_bypass.Bypasses) (now : Traces) →
            Filled (all_owned 0 (all_cases own)) (all_filled (all_cases own) ts) ts (all_cases made) now →
            AreOfFile stack text (bypasses_tree made)
        of_file made now h =
            let xs = made.cast ∷ made.send ∷ made.plans.items in
            let is : map cases_tree xs ≡ (all_filled (map (cases_of stack) (entries_of stack)) ts).0 =
            sym h.made_is ∙ ap (λ cs. (all_filled cs ts).0) cases_known in
            let firsts : map first_tree xs ≡ map first_of (all_filled (map (cases_of stack) (entries_of stack)) ts).0 =
            sym (map-map first_of cases_tree xs) ∙ ap (map first_of) is in
            let seconds : map second_tree xs ≡ map second_in
            (all_filled (map (cases_of stack) (entries_of stack)) ts).0 =
            sym (map-map second_in cases_tree xs) ∙ ap (map second_in) is in
            record {
              file = record {
                short = short;
                traces = ts;
                read = read;
                same = all_same (InForm stack) (due_of stack) ts (what_is_read_is_in_form stack text ts read)
                    (subst (λ os. AreSame os ts) owns_known h.same);
              };
              are = (λ i. record { made = firsts i; second = seconds i }) ∙ sym (from_all stack (entries_of stack) ts);
            }

        -- the first trace that does something else
        pub other_of_file : (entry : ℕ) (case : Case) (act : ℕ) →
            FirstOther (all_owned 0 (all_cases own)) ts entry case act →
            IsFault stack text (differs entry case act)
        other_of_file entry case act h = record {
          short = short;
          traces = ts;
          read = read;
          differs = differs_in (due_of stack) ts entry case act
              (subst (λ os. FirstOther os ts entry case act) owns_known h);
        }

-- so they are the stack's
pub of_stack : (stack : List LayerTree) (text : List ℕ) (b : Bypasses) → IsSound stack → AreOfFile stack text b →
    AreOfStack stack b
of_stack stack text b sound h = subst (AreOfStack stack) (sym h.are) (accepted_are_of_stack stack text sound h.file)
