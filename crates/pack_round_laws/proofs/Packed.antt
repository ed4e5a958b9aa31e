-- What is packed is a file of own traces.
use Rattle.std.proofs.Common.{◌≡◌, ℕ, zero, suc, ◌+◌, ◌≤◌, Bool, true, false, not, nat_le, is_some, List, [], ◌∷◌, ◌++◌}
use Rattle.std.proofs.Common.{length, map, flat_map, count_by, slice_get, Some, None, option_map, option_to_list, codes}
use Rattle.std.proofs.Common.{refl, sym, ap, ap₂, ◌∙◌, arith, append_assoc}
use Rattle.std.specs.Prelude.{if◌then◌else◌, Result, Ok, Err}
use Rattle.std.specs.Fmt.{digits}
use Rattle.std.specs.List.{AllByRecursion, AllZip, concat}
use Rattle.std.specs.Option.{option_flatten}
use Rattle.std.proofs.lemmas.List.{length-append}
use Rattle.audit_mean.specs.Text.{lines_of}
use Rattle.layer_mean.specs.declared.run.Case.{Case}
use Rattle.layer_mean.specs.declared.run.Case.TheVariants.{First, Second}
use Rattle.layer_mean.specs.Tree.{LayerTree}
use Rattle.stack_mean.specs.NoShape as no_shape
use Rattle.stack_mean.specs.NoShape.{NoShape}
use Rattle.stack_mean.specs.Plan.{Plan}
use Rattle.stack_mean.specs.Plans.{plans_of}
use Rattle.stack_mean.specs.Shape.{Shape, shape, has_second_case}
use Rattle.run_mean.specs.Common.{longest_shape}
use Rattle.trace_mean.specs.Trace.{Operation}
use Rattle.trace_mean.specs.Fuse.{made_trace, trace_of}
use Rattle.bypass_mean.specs.Text.{operation_lines}
use Rattle.bypass_mean.specs.Bypasses.{Entry, plan_entry, cast_entry, send_entry, entries_of, Bypasses}
use Rattle.bypass_mean.specs.Lines.{ended_line, plan_name, first_made, second_made, trace_lines, entry_traces}
use Rattle.bypass_mean.specs.Lines.{plans_traces, file_lines}
use Rattle.bypass_laws.specs.Stack.{lack_of}
use Rattle.bypass_laws.specs.Making.{made_with, made_of, second_of, bypasses_of, simplest}
use Rattle.pack_mean.specs.File.{Due, within_limit, due_in, due_from, due_of, entry_name, heading, begun, traces_from}
use Rattle.pack_mean.specs.File.{traces_in}
use Rattle.pack_mean.specs.Accepted.{longest_file, SameActs, Accepts}
use Rattle.pack_laws.specs.Files.{case_lines}
use Rattle.pack_round_laws.proofs.Packable.{CanBePacked}
use Rattle.pack_round_laws.specs.Packed.{packed_text}
use Rattle.pack_round_laws.proofs.Due.{due_can_be_read}
use Rattle.pack_round_laws.proofs.Files.{file_back, cases_plain}
use Rattle.pack_round_laws.proofs.Texts.{lines_back}
use Rattle.pack_round_laws.proofs.Plain.{IsPlain}

abbrev owns : List Due → List (List Operation)
owns due = map (λ d. d.own) due

abbrev due_with : ℕ → Entry → Case → List Operation → Due
due_with n e case own =
    record { entry = n; case = case; fields = count_by (λ field. not (is_some field)) e.fields; own = own }

case_one : (n : ℕ) (name : List ℕ) → entry_name n ≡ name → codes "entry " ++ name ++ codes " case 1" ≡ heading n First
unfolding digits
case_one n name is = ap (λ l. codes "entry " ++ l ++ codes " case 1") (sym is) ∙
    sym (append_assoc (codes "entry " ++ entry_name n) (codes " case ") (codes "1"))

case_two : (n : ℕ) (name : List ℕ) → entry_name n ≡ name → codes "entry " ++ name ++ codes " case 2" ≡ heading n Second
unfolding digits
case_two n name is = ap (λ l. codes "entry " ++ l ++ codes " case 2") (sym is) ∙
    sym (append_assoc (codes "entry " ++ entry_name n) (codes " case ") (codes "2"))

module _ (stack : List LayerTree) where
  -- the lines of own traces
  abbrev own_lines : List Due → List (List ℕ)
  own_lines due = case_lines stack due (owns due)

  both_lines : (a b : List Due) → own_lines (a ++ b) ≡ own_lines a ++ own_lines b
  both_lines [] b = refl
  both_lines (d ∷ a) b = ap (λ l. heading d.entry d.case ∷ l) (
      ap (λ ls. operation_lines true stack d.own ++ ls) (both_lines a b) ∙
      sym (append_assoc (operation_lines true stack d.own) (own_lines a) (own_lines b)))

  -- those of a case, where it is due
  made_lines : (n : ℕ) (e : Entry) (case : Case) (name : List ℕ) → name ≡ heading n case →
      (s : Result Shape NoShape) (r : Result (List Operation) NoShape) →
      trace_lines stack name (made_with simplest (lack_of s) r) ++ [] ≡
      own_lines (option_to_list (option_map (due_with n e case) (within_limit s r)))
  made_lines n e case name is (Err reason) r = refl
  made_lines n e case name is (Ok s) (Err reason) = go (nat_le s.length longest_shape) where
    go : (b : Bool) → trace_lines stack name (made_with simplest (if b then None else Some no_shape.long) (Err reason))
        ++ [] ≡ []
    go true = refl
    go false = refl
  made_lines n e case name is (Ok s) (Ok own) = go (nat_le s.length longest_shape) where
    go : (b : Bool) → trace_lines stack name (made_with simplest (if b then None else Some no_shape.long) (Ok own)) ++
        [] ≡
        own_lines (option_to_list (option_map (due_with n e case) (if b then Some own else None)))
    go true = ap (λ l. l ∷ operation_lines true stack own ++ []) is
    go false = refl

  second_lines : (n : ℕ) (e : Entry) (name : List ℕ) → name ≡ heading n Second → (b : Bool) →
      has_second_case stack e.known ≡ b →
      flat_map (trace_lines stack name) (option_to_list (if b then Some (made_of simplest Second stack e) else None)) ≡
      own_lines (due_in stack n e Second)
  second_lines n e name is true forks = made_lines n e Second name is (shape stack e.known Second)
      (trace_of Second stack e.known e.fields)
  second_lines n e name is false forks = none (shape stack e.known Second) (trace_of Second stack e.known e.fields)
      (ap (λ b. if b then made_trace stack e.known e.fields Second else Err no_shape.same) forks) where
        none : (s : Result Shape NoShape) (r : Result (List Operation) NoShape) → r ≡ Err no_shape.same →
            [] ≡ own_lines (option_to_list (option_map (due_with n e Second) (within_limit s r)))
        none (Err reason) r k = refl
        none (Ok s) (Err reason) k = refl
        none (Ok s) (Ok own) k = absurd (cc k)

  abbrev own : Bypasses
  own = bypasses_of simplest stack

  get_mapped : {A B : Type 0} (f : A → B) (xs : List A) (n : ℕ) (x : A) → slice_get xs n ≡ Some x →
      slice_get (map f xs) n ≡ Some (f x)
  get_mapped f [] n x is = absurd (cc is)
  get_mapped f (y ∷ xs) zero x is = ap (option_map f) is
  get_mapped f (y ∷ xs) (suc n) x is = get_mapped f xs n x is

  entry_lines : (n : ℕ) (e : Entry) (name : List ℕ) → entry_name n ≡ name → slice_get (entries_of stack) n ≡ Some e →
      entry_traces stack own n name ≡ own_lines (due_in stack n e First ++ due_in stack n e Second)
  entry_lines n e name is at =
      let firsts = flat_map (trace_lines stack (codes "entry " ++ name ++ codes " case 1")) (first_made own n) in
      let seconds = flat_map (trace_lines stack (codes "entry " ++ name ++ codes " case 2")) (second_made own n) in
      let first_at = get_mapped (made_of simplest First stack) (entries_of stack) n e at in
      let second_at = get_mapped (second_of simplest stack) (entries_of stack) n e at in
      let first_is : firsts ≡ own_lines (due_in stack n e First) =
      ap (λ o. flat_map (trace_lines stack (codes "entry " ++ name ++ codes " case 1")) (option_to_list o)) first_at ∙
      made_lines n e First (codes "entry " ++ name ++ codes " case 1") (case_one n name is) (shape stack e.known First)
      (trace_of First stack e.known e.fields) in
      let second_is : seconds ≡ own_lines (due_in stack n e Second) =
      ap (λ o. flat_map (trace_lines stack (codes "entry " ++ name ++ codes " case 2"))
      (option_to_list (option_flatten o))) second_at ∙
      second_lines n e (codes "entry " ++ name ++ codes " case 2") (case_two n name is) (has_second_case stack e.known)
      refl in
      ap₂ (λ a b. a ++ b) first_is second_is ∙ sym (both_lines (due_in stack n e First) (due_in stack n e Second))

  plan_at : (front : List Plan) (plan : Plan) (plans : List Plan) → plans_of stack ≡ front ++ plan ∷ plans →
      slice_get (entries_of stack) (length front + 2) ≡ Some (plan_entry plan)
  plan_at front plan plans is =
      let two : length front + 2 ≡ suc (suc (length front)) = omega arith in
      ap (λ n. slice_get (entries_of stack) n) two ∙ ap (λ ps. slice_get (map plan_entry ps) (length front)) is ∙
      here front where
        here : (front : List Plan) → slice_get (map plan_entry (front ++ plan ∷ plans)) (length front) ≡
            Some (plan_entry plan)
        here [] = refl
        here (x ∷ front) = here front

  plan_called : (k : ℕ) → entry_name (k + 2) ≡ plan_name k
  plan_called k = let two : k + 2 ≡ suc (suc k) = omega arith in ap entry_name two

  plans_lines : (front plans : List Plan) → plans_of stack ≡ front ++ plans →
      plans_traces stack own (length front) plans ≡ own_lines (due_from stack (length front + 2) (map plan_entry plans))
  plans_lines front [] is = refl
  plans_lines front (plan ∷ plans) is =
      let n = length front + 2 in
      let e = plan_entry plan in
      let size = length-append front (plan ∷ []) in
      let one : length (front ++ plan ∷ []) ≡ suc (length front) = omega (arith, size) in
      let next : length (front ++ plan ∷ []) + 2 ≡ suc (length front + 2) = omega (arith, size) in
      let more = plans_lines (front ++ plan ∷ []) plans (is ∙ sym (append_assoc front (plan ∷ []) plans)) in
      let rest : plans_traces stack own (suc (length front)) plans ≡
      own_lines (due_from stack (suc (length front + 2)) (map plan_entry plans)) =
      ap (λ k. plans_traces stack own k plans) (sym one) ∙ more ∙
      ap (λ k. own_lines (due_from stack k (map plan_entry plans))) next in
      ap₂ (λ a b. a ++ b) (entry_lines n e (plan_name (length front)) (plan_called (length front))
      (plan_at front plan plans is)) rest ∙
      sym (both_lines (due_in stack n e First ++ due_in stack n e Second)
      (due_from stack (suc n) (map plan_entry plans)))

  abbrev ending : List (List ℕ)
  ending = codes "end" ∷ []

  file_is : file_lines stack (plans_of stack) own ≡ codes "bypasses 1" ∷ own_lines (due_of stack) ++ ending
  file_is =
      let casts = due_in stack 0 cast_entry First ++ due_in stack 0 cast_entry Second in
      let sends = due_in stack 1 send_entry First ++ due_in stack 1 send_entry Second in
      let plans = due_from stack 2 (map plan_entry (plans_of stack)) in
      let cast_is : entry_traces stack own 0 (codes "cast") ≡ own_lines casts =
      entry_lines 0 cast_entry (codes "cast") refl refl in
      let send_is : entry_traces stack own 1 (codes "send") ≡ own_lines sends =
      entry_lines 1 send_entry (codes "send") refl refl in
      let plans_are : plans_traces stack own 0 (plans_of stack) ≡ own_lines plans =
      plans_lines [] (plans_of stack) refl in
      let all : own_lines casts ++ own_lines sends ++ own_lines plans ≡ own_lines (casts ++ (sends ++ plans)) =
      append_assoc (own_lines casts) (own_lines sends) (own_lines plans) ∙
      ap (λ l. own_lines casts ++ l) (sym (both_lines sends plans)) ∙
      sym (both_lines casts (sends ++ plans)) in
      ap (λ l. codes "bypasses 1" ∷ l ++ ending) (ap₂ (λ a b. a ++ b) (ap₂ (λ a b. a ++ b) cast_is send_is) plans_are ∙
      all)

  ending_plain : AllByRecursion IsPlain (own_lines (due_of stack)) →
      AllByRecursion IsPlain (own_lines (due_of stack) ++ ending)
  ending_plain h = go (own_lines (due_of stack)) h where
    go : (lines : List (List ℕ)) → AllByRecursion IsPlain lines → AllByRecursion IsPlain (lines ++ ending)
    go [] h = (refl, tt)
    go (l ∷ ls) h = (h.0, go ls h.1)

pub packed_is_read : (stack : List LayerTree) → CanBePacked stack → traces_in stack (packed_text stack) ≡
    Ok (owns (due_of stack))
packed_is_read stack can =
    let lines = own_lines stack (due_of stack) ++ codes "end" ∷ [] in
    ap (λ ls. traces_from stack (begun (due_of stack)) 1 (lines_of (concat (map ended_line ls)))) (file_is stack) ∙
    ap (λ ls. traces_from stack (begun (due_of stack)) 1 ls)
    (lines_back (codes "bypasses 1") lines refl
    (ending_plain stack (cases_plain stack can.told can.few (due_of stack) (due_can_be_read stack can)))) ∙
    file_back stack can.told can.few (due_of stack) (due_can_be_read stack can)

own_acts : (due : List Due) → AllZip SameActs due (owns due)
own_acts [] = tt
own_acts (d ∷ due) = (refl, own_acts due)

pub packed_is_accepted : (stack : List LayerTree) → CanBePacked stack → length (packed_text stack) ≤ longest_file →
    Accepts stack (packed_text stack)
packed_is_accepted stack can short = record {
  short = short;
  traces = owns (due_of stack);
  read = packed_is_read stack can;
  same = own_acts (due_of stack);
}
