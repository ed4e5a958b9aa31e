-- What is read of a file is in form, line by line.
use Rattle.std.proofs.Common.{◌≡◌, ℕ, zero, suc, Bool, true, false, List, [], ◌∷◌, ◌++◌, fold, Option, Some, None}
use Rattle.std.proofs.Common.{Result, Ok, Err, codes, bytes_eq, refl, sym, ap, ◌∙◌, subst, append_assoc, append-nil}
use Rattle.std.specs.Prelude.{if◌then◌else◌}
use Rattle.std.specs.List.{AllZip, AllByRecursion}
use Rattle.audit_mean.specs.Report.{◌>>=◌, in_form}
use Rattle.audit_mean.specs.Text.{lines_of}
use Rattle.layer_mean.specs.Tree.{LayerTree}
use Rattle.trace_mean.specs.Trace.{Operation, note}
use Rattle.trace_form_laws.specs.Names.{OperationNames}
use Rattle.trace_form_laws.specs.Closed.{Reach, Closed, IsMade, reaching}
use Rattle.trace_form_laws.specs.There.{IsThere}
use Rattle.pack_mean.specs.Named.{Named, nothing_named, naming}
use Rattle.pack_mean.specs.Operation.{operation_said}
use Rattle.pack_mean.specs.File.{Due, due_of, heading, most_operations, Stage, opening, idle, within, ended, Reading}
use Rattle.pack_mean.specs.File.{begun, next_case, with_operation, operation_line, case_line, line_read, traces_at_end}
use Rattle.pack_mean.specs.File.{traces_from}
use Rattle.pack_laws.specs.Form.{at_first, InForm, WhatIsReadIsInForm}
use Rattle.pack_laws.proofs.Readers.{some_same}
use Rattle.pack_laws.proofs.Operations.{said_is}
use Rattle.pack_laws.proofs.Spelled.{reach_of, spelled_is_made, spelled_is_there, reach_after}

all_push : {A : Type 0} (P : A → Type 0) (xs : List A) (x : A) → AllByRecursion P xs → P x →
    AllByRecursion P (xs ++ x ∷ [])
all_push P [] x h k = (k, tt)
all_push P (y ∷ ys) x h k = (h.0, all_push P ys x h.1 k)

pub through_form : {A B C : Type 0} (more : A → Result B ℕ) (number : ℕ) (b : B) (o : Option A) →
    (in_form number o >>= more) ≡ Ok b →
    ((a : A) → o ≡ Some a → more a ≡ Ok b → C) → C
through_form more number b None h k = absurd (cc h)
through_form more number b (Some a) h k = k a refl h

abbrev pub value_or : {A : Type 0} → A → Result A ℕ → A
value_or a (Ok b) = b
value_or a (Err n) = a

pub ok_same : {A : Type 0} (P : A → Type 0) {x y : A} → ◌≡◌ {A = Result A ℕ} (Ok x) (Ok y) → P x → P y
ok_same P {x = x} {y = y} is h = subst P (ap (value_or x) is) h

zip_push : {A B : Type 0} (R : A → B → Type 0) (xs : List A) (ys : List B) (x : A) (y : B) → AllZip R xs ys → R x y →
    AllZip R (xs ++ x ∷ []) (ys ++ y ∷ [])
zip_push R [] [] x y h k = (k, tt)
zip_push R [] (b ∷ bs) x y h k = absurd h
zip_push R (a ∷ more) [] x y h k = absurd h
zip_push R (a ∷ more) (b ∷ bs) x y h k = (h.0, zip_push R more bs x y h.1 k)

module _ (stack : List LayerTree) where
  closed_push : (r : Reach) (os : List Operation) (o : Operation) → Closed stack r os →
      OperationNames (IsMade stack (fold (reaching stack) r os)) o →
      Closed stack r (os ++ o ∷ [])
  closed_push r [] o h k = (k, tt)
  closed_push r (x ∷ os) o h k = (h.0, closed_push (reaching stack r x) os o h.1 k)

  reach_push : (r : Reach) (os : List Operation) (o : Operation) →
      fold (reaching stack) r (os ++ o ∷ []) ≡ reaching stack (fold (reaching stack) r os) o
  reach_push r [] o = refl
  reach_push r (x ∷ os) o = reach_push (reaching stack r x) os o

  -- the operations of a case that is open, and what may be named after them
  record Held (d : Due) (s : Named) (held : List Operation) : Type 0 where
    form : InForm stack d held
    reach : fold (reaching stack) (at_first d.fields) held ≡ reach_of s

  held_more : (d : Due) (s : Named) (held : List Operation) (line : List ℕ) (o : Operation) → Held d s held →
      operation_said stack s line ≡ Some o →
      Held d (naming stack s o) (held ++ o ∷ [])
  held_more d s held line o h is = record {
    form = record {
      closed = closed_push (at_first d.fields) held o h.form.closed
          (subst (λ r. OperationNames (IsMade stack r) o) (sym h.reach)
          (said_is stack s (IsMade stack (reach_of s)) (spelled_is_made stack s) line o is));
      there = all_push (OperationNames (IsThere stack)) held o h.form.there
          (said_is stack s (IsThere stack) (spelled_is_there stack s) line o is);
    };
    reach = reach_push (at_first d.fields) held o ∙ ap (λ r. reaching stack r o) h.reach ∙ sym (reach_after stack s o);
  }

  module _ (all : List Due) where
    -- the traces so far are of the cases before those that are due
    record Front (due : List Due) (traces : List (List Operation)) : Type 0 where
      before : List Due
      split : before ++ due ≡ all
      form : AllZip (InForm stack) before traces

    record Open (due : List Due) (s : Named) (held : List Operation) (traces : List (List Operation)) : Type 0 where
      here : Due
      front : Front (here ∷ due) traces
      now : Held here s held

    abbrev IsAt : Stage → List Operation → List (List Operation) → Type 0
    IsAt (opening due) held traces = (due ≡ all) × (traces ≡ [])
    IsAt (idle due) held traces = Front due traces
    IsAt (within due s left) held traces = Open due s held traces
    IsAt ended held traces = AllZip (InForm stack) all traces

    abbrev IsRead : Reading → Type 0
    IsRead r = IsAt r.stage r.held r.traces

    next_is : (due : List Due) (traces : List (List Operation)) (line : List ℕ) (next : Reading) → Front due traces →
        next_case due traces line ≡ Some next → IsRead next
    next_is [] traces line next h is = go (bytes_eq line (codes "end")) is where
      go : (b : Bool) → (if b then Some (record { stage = ended; held = []; traces = traces }) else None) ≡ Some next →
          IsRead next
      go true e = some_same IsRead e
          (subst (λ ds. AllZip (InForm stack) ds traces) (sym (append-nil h.before) ∙ h.split) h.form)
      go false e = absurd (cc e)
    next_is (d ∷ due) traces line next h is = go (bytes_eq line (heading d.entry d.case)) is where
      go : (b : Bool) → (if b then Some
          (record { stage = within due (nothing_named d.fields) most_operations; held = []; traces = traces }) else
          None)
          ≡ Some next → IsRead next
      go true e = some_same IsRead e record
          { here = d; front = h; now = record { form = record { closed = tt; there = tt }; reach = refl } }
      go false e = absurd (cc e)

    more_is : (due : List Due) (s : Named) (left : ℕ) (r : Reading) (line : List ℕ) (o : Operation) (next : Reading) →
        Open due s r.held r.traces →
        operation_said stack s line ≡ Some o → with_operation stack due s left r o ≡ Some next → IsRead next
    more_is due s left r line (note m) next h said is = some_same IsRead is
        record { here = h.here; front = h.front; now = held_more h.here s r.held line (note m) h.now said }
    more_is due s zero r line o next h said is = absurd (cc is)
    more_is due s (suc left) r line o next h said is = some_same IsRead is
        record { here = h.here; front = h.front; now = held_more h.here s r.held line o h.now said }

    closed_front : (due : List Due) (s : Named) (held : List Operation) (traces : List (List Operation)) →
        Open due s held traces →
        Front due (traces ++ held ∷ [])
    closed_front due s held traces h = record {
      before = h.front.before ++ h.here ∷ [];
      split = append_assoc h.front.before (h.here ∷ []) due ∙ h.front.split;
      form = zip_push (InForm stack) h.front.before traces h.here held h.front.form h.now.form;
    }

    line_is : (r : Reading) (line : List ℕ) (next : Reading) → IsRead r → line_read stack r r.stage line ≡ Some next →
        IsRead next
    line_is r line next = go r.stage where
      operation : (due : List Due) (s : Named) (left : ℕ) (o : Option Operation) → operation_said stack s line ≡ o →
          Open due s r.held r.traces →
          operation_line stack due s left r o ≡ Some next → IsRead next
      operation due s left None said h is = absurd (cc is)
      operation due s left (Some o) said h is = more_is due s left r line o next h said is

      either : (due : List Due) (s : Named) (left : ℕ) (o : Option Reading) →
          next_case due (r.traces ++ r.held ∷ []) line ≡ o →
          Open due s r.held r.traces → case_line stack due s left r line o ≡ Some next → IsRead next
      either due s left (Some other) said h is =
          some_same IsRead is (next_is due (r.traces ++ r.held ∷ []) line other (closed_front due s r.held r.traces h)
          said)
      either due s left None said h is = operation due s left (operation_said stack s line) refl h is

      first : (due : List Due) (b : Bool) → due ≡ all →
          (if b then Some (record { stage = idle due; held = []; traces = [] }) else None) ≡ Some next → IsRead next
      first due true same is = some_same IsRead is record { before = []; split = same; form = tt }
      first due false same is = absurd (cc is)

      go : (stage : Stage) → IsAt stage r.held r.traces → line_read stack r stage line ≡ Some next → IsRead next
      go (opening due) h is = first due (bytes_eq line (codes "bypasses 1")) h.0 is
      go (idle due) h is = next_is due r.traces line next h is
      go (within due s left) h is = either due s left (next_case due (r.traces ++ r.held ∷ []) line) refl h is
      go ended h is = absurd (cc is)

    lines_are : (lines : List (List ℕ)) (r : Reading) (number : ℕ) (traces : List (List Operation)) → IsRead r →
        traces_from stack r number lines ≡ Ok traces → AllZip (InForm stack) all traces
    lines_are [] r number traces h is = go r.stage h is where
      go : (stage : Stage) → IsAt stage r.held r.traces → traces_at_end stage number r.traces ≡ Ok traces →
          AllZip (InForm stack) all traces
      go (opening due) k e = absurd (cc e)
      go (idle due) k e = absurd (cc e)
      go (within due s left) k e = absurd (cc e)
      go ended k e = ok_same (λ ts. AllZip (InForm stack) all ts) e k
    lines_are (line ∷ lines) r number traces h is =
        through_form (λ next. traces_from stack next (suc number) lines) number traces (line_read stack r r.stage line)
        is
        (λ next next_is is1. lines_are lines next (suc number) traces (line_is r line next h next_is) is1)

pub what_is_read_is_in_form : WhatIsReadIsInForm
what_is_read_is_in_form stack text traces is =
    lines_are stack (due_of stack) (lines_of text) (begun (due_of stack)) 1 traces (refl, refl) is
