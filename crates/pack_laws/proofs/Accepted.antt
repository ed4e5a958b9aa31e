-- The bypasses of an accepted file are the stack's.
use Rattle.std.proofs.Common.{◌≡◌, ℕ, suc, Bool, true, false, cond, not, nat_le, is_some, List, [], ◌∷◌, ◌++◌, map}
use Rattle.std.proofs.Common.{count_by, option_to_list, Option, Some, None, option_map, Result, Ok, Err, refl, sym, ap}
use Rattle.std.proofs.Common.{◌∙◌, subst, arith, leb-true, le_refl, append_assoc, length, slice_get, length-append}
use Rattle.std.specs.Prelude.{if◌then◌else◌}
use Rattle.std.specs.List.{AllZip, AllByRecursion}
use Rattle.std.proofs.lemmas.List.Sums.{sum_by-cons}
use Rattle.std.proofs.lemmas.List.{map-append}
use Rattle.layer_mean.specs.declared.run.Case.{Case}
use Rattle.layer_mean.specs.declared.run.Case.TheVariants.{First, Second}
use Rattle.layer_mean.specs.Tree.{LayerTree}
use Rattle.stack_mean.specs.NoShape as no_shape
use Rattle.stack_mean.specs.NoShape.{NoShape}
use Rattle.stack_mean.specs.Shape.{Shape, shape, drawn_shape, has_second_case}
use Rattle.run_mean.specs.Common.{longest_shape}
use Rattle.trace_mean.specs.Trace.{Operation}
use Rattle.trace_mean.specs.Counts.{trace_joins}
use Rattle.trace_mean.specs.Fuse.{made_trace, trace_of}
use Rattle.trace_form_laws.specs.Closed.{Closed, varying}
use Rattle.trace_form_laws.proofs.Closed.{traces_are_closed}
use Rattle.trace_form_laws.proofs.There.{traces_name_well}
use Rattle.bypass_mean.specs.Bypasses.{Entry, entries_of, Made, fused, Bypasses}
use Rattle.bypass_laws.specs.Stack.{lack_of}
use Rattle.bypass_laws.specs.Making.{made_with, made_of, second_of, IsSound, simplest}
use Rattle.pack_laws.specs.Replacement.{Replaces, IsReplaced, IsSecondReplaced, FirstReplaces, SecondReplaces}
use Rattle.pack_laws.proofs.Replacement.{replaced_are_of_stack}
use Rattle.pack_mean.specs.File.{Due, within_limit, due_from, due_of}
use Rattle.pack_mean.specs.Accepted.{SameActs}
use Rattle.pack_laws.specs.Form.{at_first, InForm}
use Rattle.pack_laws.specs.Accepted.{chosen_trace, filled_case, second_filled, with_entry, from_entries, from_file}
use Rattle.pack_laws.specs.Accepted.{AcceptedAreOfStack, OwnTracesGiveOwn, MayReplace, AcceptedMayReplace}
use Rattle.pack_laws.proofs.Readers.{some_same}
use Rattle.pack_laws.proofs.Reading.{what_is_read_is_in_form}

-- the fields that vary are counted alike
pub fields_vary : (fields : List (Option ℕ)) → count_by (λ field. not (is_some field)) fields ≡ varying fields
fields_vary [] = refl
fields_vary (Some v ∷ fields) =
    omega (arith, sum_by-cons (λ field. cond (not (is_some field)) 1 0) (Some v) fields, fields_vary fields)
fields_vary (None ∷ fields) =
    omega (arith, sum_by-cons (λ field. cond (not (is_some field)) 1 0) None fields, fields_vary fields)

zip_both : {A B : Type 0} (P Q : A → B → Type 0) (xs : List A) (ys : List B) → AllZip P xs ys → AllZip Q xs ys →
    AllZip (λ x y. P x y × Q x y) xs ys
zip_both P Q [] [] h k = tt
zip_both P Q [] (y ∷ ys) h k = absurd h
zip_both P Q (x ∷ xs) [] h k = absurd h
zip_both P Q (x ∷ xs) (y ∷ ys) h k = ((h.0, k.0), zip_both P Q xs ys h.1 k.1)

abbrev pub due_with : ℕ → Entry → Case → List Operation → Due
due_with n e case own =
    record { entry = n; case = case; fields = count_by (λ field. not (is_some field)) e.fields; own = own }

module _ (stack : List LayerTree) (sound : IsSound stack) where
  -- a trace of a file for a case that is due
  abbrev Fits : Due → List Operation → Type 0
  Fits d trace = InForm stack d trace × SameActs d trace

  module _ (n : ℕ) (e : Entry) (case : Case) where
    chosen_replaces : (own trace : List Operation) → trace_of case stack e.known e.fields ≡ Ok own →
        Fits (due_with n e case own) trace →
        Replaces stack e own (chosen_trace own trace)
    chosen_replaces own trace made fits = go (nat_le (trace_joins trace) (trace_joins own)) refl where
      go : (b : Bool) → nat_le (trace_joins trace) (trace_joins own) ≡ b →
          Replaces stack e own (if b then trace else own)
      go true few = record {
        acts = fits.1;
        closed = subst (λ k. Closed stack (at_first k) trace) (fields_vary e.fields) fits.0.closed;
        there = fits.0.there;
        joins = leb-true (trace_joins trace) (trace_joins own) few;
      }
      go false few = record {
        acts = refl;
        closed = traces_are_closed case stack e.known e.fields own made;
        there = traces_name_well case stack e.known e.fields own sound.named made;
        joins = le_refl (trace_joins own);
      }

    -- what is made of a case, and the traces that are left for those that are due after it
    record IsFilled (more : List Due) (traces : List (List Operation)) (own : Made) : Type 0 where
      made : IsReplaced stack e own (filled_case own traces).0
      rest : AllZip Fits more (filled_case own traces).1

    fill : (more : List Due) (traces : List (List Operation)) (s : Result Shape NoShape)
        (r : Result (List Operation) NoShape) →
        ((own : List Operation) → r ≡ Ok own → trace_of case stack e.known e.fields ≡ Ok own) →
        AllZip Fits (option_to_list (option_map (due_with n e case) (within_limit s r)) ++ more) traces →
        IsFilled more traces (made_with simplest (lack_of s) r)
    fill more traces (Err reason) r same h = record { made = refl; rest = h }
    fill more traces (Ok s) (Err reason) same h = go (nat_le s.length longest_shape) where
      go : (b : Bool) → IsFilled more traces (made_with simplest (if b then None else Some no_shape.long) (Err reason))
      go true = record { made = refl; rest = h }
      go false = record { made = refl; rest = h }
    fill more traces (Ok s) (Ok own) same h = go (nat_le s.length longest_shape) traces h where
      go : (b : Bool) (ts : List (List Operation)) →
          AllZip Fits (option_to_list (option_map (due_with n e case) (if b then Some own else None)) ++ more) ts →
          IsFilled more ts (made_with simplest (if b then None else Some no_shape.long) (Ok own))
      go false ts k = record { made = refl; rest = k }
      go true [] k = absurd k
      go true (t ∷ ts) k = record { made = (chosen_replaces own t (same own refl) k.0, refl); rest = k.1 }

  -- what is made of a second case, if it is made, and the traces that are left for those that are due after it
  record IsSecondFilled (e : Entry) (more : List Due) (traces : List (List Operation)) (own : Option Made) : Type 0
    where
      made : IsSecondReplaced stack e own (second_filled own traces).0
      rest : AllZip Fits more (second_filled own traces).1

  fill_second : (n : ℕ) (e : Entry) (more : List Due) (traces : List (List Operation)) (b : Bool) →
      has_second_case stack e.known ≡ b →
      AllZip Fits (option_to_list (option_map (due_with n e Second) (within_limit
      (if b then drawn_shape stack e.known Second else Err no_shape.same)
      (if b then made_trace stack e.known e.fields Second else Err no_shape.same))) ++ more) traces →
      IsSecondFilled e more traces (if b then Some (made_with simplest
      (lack_of (if b then drawn_shape stack e.known Second else Err no_shape.same))
      (if b then made_trace stack e.known e.fields Second else Err no_shape.same)) else None)
  fill_second n e more traces true forks h =
      let x = fill n e Second more traces (drawn_shape stack e.known Second) (made_trace stack e.known e.fields Second)
      (λ own is. subst (λ b. (if b then made_trace stack e.known e.fields Second else Err no_shape.same) ≡ Ok own)
      (sym forks) is) h in
      record { made = x.made; rest = x.rest }
  fill_second n e more traces false forks h = record { made = tt; rest = h }

  record AreFilled (es : List Entry) (b : Bypasses) : Type 0 where
    made : AllZip (FirstReplaces stack) es b.made
    second : AllZip (SecondReplaces stack) es b.second

  fill_all : (n : ℕ) (es : List Entry) (traces : List (List Operation)) → AllZip Fits (due_from stack n es) traces →
      AreFilled es (from_entries stack es traces)
  fill_all n [] traces h = record { made = tt; second = tt }
  fill_all n (e ∷ es) traces h =
      let firsts = option_to_list
      (option_map (due_with n e First)
      (within_limit (shape stack e.known First) (trace_of First stack e.known e.fields))) in
      let seconds = option_to_list
      (option_map (due_with n e Second)
      (within_limit (shape stack e.known Second) (trace_of Second stack e.known e.fields))) in
      let x = fill n e First (seconds ++ due_from stack (suc n) es) traces (shape stack e.known First)
      (trace_of First stack e.known e.fields)
      (λ own is. is) (subst (λ ds. AllZip Fits ds traces) (append_assoc firsts seconds (due_from stack (suc n) es)) h)
      in
      let y = fill_second n e (due_from stack (suc n) es) (filled_case (made_of simplest First stack e) traces).1
      (has_second_case stack e.known) refl x.rest in
      let more = fill_all (suc n) es
      (second_filled (second_of simplest stack e) (filled_case (made_of simplest First stack e) traces).1).1 y.rest in
      record { made = (x.made, more.made); second = (y.made, more.second) }

pub accepted_are_of_stack : AcceptedAreOfStack
accepted_are_of_stack stack text sound file =
    let fits = zip_both (InForm stack) SameActs (due_of stack) file.traces
    (what_is_read_is_in_form stack text file.traces file.read) file.same in
    let filled = fill_all stack sound 0 (entries_of stack) file.traces fits in
    replaced_are_of_stack stack (from_file stack file.traces) sound record
    { made = filled.made; second = filled.second }

-- what is due tells of its entry how many fields vary
entry_at : (front : List Entry) (e : Entry) (es : List Entry) → slice_get (front ++ e ∷ es) (length front) ≡ Some e
entry_at [] e es = refl
entry_at (x ∷ front) e es = entry_at front e es

abbrev TellsEntry : List Entry → Due → Type 0
TellsEntry all d = (e : Entry) → slice_get all d.entry ≡ Some e → d.fields ≡ varying e.fields

all_join : {A : Type 0} (P : A → Type 0) (xs ys : List A) → AllByRecursion P xs → AllByRecursion P ys →
    AllByRecursion P (xs ++ ys)
all_join P [] ys h k = k
all_join P (x ∷ xs) ys h k = (h.0, all_join P xs ys h.1 k)

one_tells : (front : List Entry) (e : Entry) (es : List Entry) (case : Case) (o : Option (List Operation)) →
    AllByRecursion (TellsEntry (front ++ e ∷ es)) (option_to_list (option_map (due_with (length front) e case) o))
one_tells front e es case None = tt
one_tells front e es case (Some own) = (
  λ other is. some_same (λ x. count_by (λ field. not (is_some field)) e.fields ≡ varying x.fields)
      (sym (entry_at front e es) ∙ is)
      (fields_vary e.fields),
  tt,
)

all_tell : (stack : List LayerTree) (front es : List Entry) →
    AllByRecursion (TellsEntry (front ++ es)) (due_from stack (length front) es)
all_tell stack front [] = tt
all_tell stack front (e ∷ es) =
    let firsts = option_to_list (option_map (due_with (length front) e First)
    (within_limit (shape stack e.known First) (trace_of First stack e.known e.fields))) in
    let seconds = option_to_list (option_map (due_with (length front) e Second)
    (within_limit (shape stack e.known Second) (trace_of Second stack e.known e.fields))) in
    let count : length (front ++ e ∷ []) ≡ suc (length front) =
    let both = length-append front (e ∷ []) in both ∙ (omega arith) in
    let more : AllByRecursion (TellsEntry (front ++ e ∷ es)) (due_from stack (suc (length front)) es) =
    subst (λ n. AllByRecursion (TellsEntry (front ++ e ∷ es)) (due_from stack n es)) count
    (subst (λ all. AllByRecursion (TellsEntry all) (due_from stack (length (front ++ e ∷ [])) es))
    (append_assoc front (e ∷ []) es)
    (all_tell stack (front ++ e ∷ []) es)) in
    all_join (TellsEntry (front ++ e ∷ es)) (firsts ++ seconds) (due_from stack (suc (length front)) es)
    (all_join (TellsEntry (front ++ e ∷ es)) firsts seconds (one_tells front e es First _)
    (one_tells front e es Second _)) more

may_replace : (stack : List LayerTree) (due : List Due) (traces : List (List Operation)) →
    AllByRecursion (TellsEntry (entries_of stack)) due →
    AllZip (InForm stack) due traces → AllZip SameActs due traces → AllZip (MayReplace stack) due traces
may_replace stack [] [] tells form same = tt
may_replace stack [] (t ∷ ts) tells form same = absurd form
may_replace stack (d ∷ due) [] tells form same = absurd form
may_replace stack (d ∷ due) (t ∷ ts) tells form same = (
  λ e is few. record {
    acts = same.0;
    closed = subst (λ k. Closed stack (at_first k) t) (tells.0 e is) form.0.closed;
    there = form.0.there;
    joins = few;
  },
  may_replace stack due ts tells.1 form.1 same.1,
)

pub accepted_may_replace : AcceptedMayReplace
accepted_may_replace stack text file =
    may_replace stack (due_of stack) file.traces (all_tell stack [] (entries_of stack))
    (what_is_read_is_in_form stack text file.traces file.read) file.same

-- the own traces in their own place
chosen_own : (trace : List Operation) → chosen_trace trace trace ≡ trace
chosen_own trace = go (nat_le (trace_joins trace) (trace_joins trace)) where
  go : (b : Bool) → (if b then trace else trace) ≡ trace
  go true = refl
  go false = refl

abbrev pub owns : List Due → List (List Operation)
owns due = map (λ d. d.own) due

refilled : (n : ℕ) (e : Entry) (case : Case) (s : Result Shape NoShape) (r : Result (List Operation) NoShape)
    (rest : List (List Operation)) →
    filled_case (made_with simplest (lack_of s) r)
    (owns (option_to_list (option_map (due_with n e case) (within_limit s r))) ++ rest) ≡
    (made_with simplest (lack_of s) r, rest)
refilled n e case (Err reason) r rest = refl
refilled n e case (Ok s) (Err reason) rest = go (nat_le s.length longest_shape) where
  go : (b : Bool) → filled_case (made_with simplest (if b then None else Some no_shape.long) (Err reason)) rest ≡
      (made_with simplest (if b then None else Some no_shape.long) (Err reason), rest)
  go true = refl
  go false = refl
refilled n e case (Ok s) (Ok own) rest = go (nat_le s.length longest_shape) where
  go : (b : Bool) → filled_case (made_with simplest (if b then None else Some no_shape.long) (Ok own))
      (owns (option_to_list (option_map (due_with n e case) (if b then Some own else None))) ++ rest) ≡
      (made_with simplest (if b then None else Some no_shape.long) (Ok own), rest)
  go true = ap (λ t. (fused t (simplest t), rest)) (chosen_own own)
  go false = refl

module _ (stack : List LayerTree) where
  second_refilled : (n : ℕ) (e : Entry) (rest : List (List Operation)) (b : Bool) →
      second_filled (if b then Some (made_with simplest
      (lack_of (if b then drawn_shape stack e.known Second else Err no_shape.same))
      (if b then made_trace stack e.known e.fields Second else Err no_shape.same)) else None)
      (owns (option_to_list (option_map (due_with n e Second) (within_limit
      (if b then drawn_shape stack e.known Second else Err no_shape.same)
      (if b then made_trace stack e.known e.fields Second else Err no_shape.same)))) ++ rest) ≡ (
        if b then Some (made_with simplest
            (lack_of (if b then drawn_shape stack e.known Second else Err no_shape.same))
            (if b then made_trace stack e.known e.fields Second else Err no_shape.same)) else None,
        rest,
      )
  second_refilled n e rest true = ap (λ q. (Some q.0, q.1))
      (refilled n e Second (drawn_shape stack e.known Second) (made_trace stack e.known e.fields Second) rest)
  second_refilled n e rest false = refl

  abbrev with_filled : List Entry → Made → Option Made × List (List Operation) → Bypasses
  with_filled es first second = with_entry first second.0 (from_entries stack es second.1)

  entries_refilled : (n : ℕ) (es : List Entry) → from_entries stack es (owns (due_from stack n es)) ≡
      record { made = map (made_of simplest First stack) es; second = map (second_of simplest stack) es }
  entries_refilled n [] = refl
  entries_refilled n (e ∷ es) =
      let firsts = option_to_list
      (option_map (due_with n e First)
      (within_limit (shape stack e.known First) (trace_of First stack e.known e.fields))) in
      let seconds = option_to_list
      (option_map (due_with n e Second)
      (within_limit (shape stack e.known Second) (trace_of Second stack e.known e.fields))) in
      let more = due_from stack (suc n) es in
      let split : owns (firsts ++ seconds ++ more) ≡ owns firsts ++ (owns seconds ++ owns more) =
      map-append (λ (d : Due). d.own) (firsts ++ seconds) more ∙
      ap (λ l. l ++ owns more) (map-append (λ (d : Due). d.own) firsts seconds) ∙
      append_assoc (owns firsts) (owns seconds) (owns more) in
      let first_is = refilled n e First (shape stack e.known First) (trace_of First stack e.known e.fields)
      (owns seconds ++ owns more) in
      let second_is = second_refilled n e (owns more) (has_second_case stack e.known) in
      ap (λ ts. from_entries stack (e ∷ es) ts) split ∙
      ap (λ (q : Made × List (List Operation)). with_filled es q.0 (second_filled (second_of simplest stack e) q.1))
      first_is ∙
      ap (λ (q : Option Made × List (List Operation)). with_filled es (made_of simplest First stack e) q) second_is ∙
      ap (λ b. with_entry (made_of simplest First stack e) (second_of simplest stack e) b) (entries_refilled (suc n) es)

pub own_traces_give_own : OwnTracesGiveOwn
own_traces_give_own stack = entries_refilled stack 0 (entries_of stack)
