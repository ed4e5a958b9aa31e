-- A file of own traces is read as these.
use Rattle.std.proofs.Common.{◌≡◌, ℕ, zero, suc, ◌+◌, ◌≤◌, true, List, [], ◌∷◌, ◌++◌, length, map, fold, Some, None, Ok}
use Rattle.std.proofs.Common.{codes, decimal, refl, sym, ap, ◌∙◌, subst, arith, append_assoc, append-nil}
use Rattle.std.specs.Prelude.{if◌then◌else◌}
use Rattle.std.specs.List.{AllByRecursion}
use Rattle.std.proofs.lemmas.List.{length-append}
use Rattle.std.proofs.lemmas.List.Sums.{sum_by-cons}
use Rattle.std.proofs.lemmas.Slice.Eq.{bytes_eq-Decides}
use Rattle.audit_mean.specs.Report.{◌>>=◌, in_form}
use Rattle.layer_mean.specs.Tree.{ItemsTree, LayerTree}
use Rattle.chain_laws.proofs.Lists.{each_append}
use Rattle.trace_mean.specs.Trace.{Operation, bind, note, check, set, set_square, push, take, output}
use Rattle.trace_mean.specs.Counts.{operation_length, trace_length}
use Rattle.trace_form_laws.specs.Names.{OperationNames}
use Rattle.trace_form_laws.specs.Closed.{IsMade, Closed}
use Rattle.trace_form_laws.specs.There.{AreThere}
use Rattle.bypass_mean.specs.Text.{writes, operation_lines}
use Rattle.pack_mean.specs.Named.{Named, nothing_named, items_at, naming}
use Rattle.pack_mean.specs.File.{Due, heading, entry_name, case_number, most_operations, idle, within, ended, Reading}
use Rattle.pack_mean.specs.File.{begun, next_case, with_operation, operation_line, case_line, line_read, traces_from}
use Rattle.pack_laws.specs.Files.{case_lines}
use Rattle.pack_laws.specs.Written.{written_with, line_with}
use Rattle.pack_laws.proofs.Files.{writes_one}
use Rattle.pack_laws.proofs.Spelled.{reach_of, reach_after}
use Rattle.pack_round_laws.specs.Told.{AreTold, AreToldApart}
use Rattle.pack_round_laws.proofs.Fits.{largest_number}
use Rattle.pack_round_laws.proofs.Packable.{taken_after, TraceFits, CanBeRead}
use Rattle.pack_round_laws.proofs.Names.{IsSmall, rows_told}
use Rattle.pack_round_laws.proofs.Operations.{operation_back}
use Rattle.pack_round_laws.proofs.Plain.{IsPlain, line_plain, plain_both, decimal_plain}

module _ (stack : List LayerTree) where
  -- the lines of operations, after lines and what may be named
  abbrev pub lines_from : List (List ℕ) → Named → List Operation → List (List ℕ)
  lines_from before s [] = []
  lines_from before s (o ∷ os) = line_with stack before s o ∷ lines_from (before ++ line_with stack before s o ∷ [])
      (naming stack s o) os

  written : (before : List (List ℕ)) (s : Named) (os : List Operation) →
      (fold (writes true stack) (written_with before s) os).lines ≡ before ++ lines_from before s os
  written before s [] = sym (append-nil before)
  written before s (o ∷ os) = ap (λ w. (fold (writes true stack) w os).lines) (writes_one stack before s o) ∙
      written (before ++ line_with stack before s o ∷ []) (naming stack s o) os ∙
      append_assoc before (line_with stack before s o ∷ []) _

  pub lines_are : (fields : ℕ) (os : List Operation) → operation_lines true stack os ≡
      lines_from [] (nothing_named fields) os
  lines_are fields os = written [] (nothing_named fields) os

  -- a line read, and the others after it
  then_back : (r next : Reading) (number : ℕ) (line : List ℕ) (lines : List (List ℕ)) (all : List (List Operation)) →
      line_read stack r r.stage line ≡ Some next → traces_from stack next (suc number) lines ≡ Ok all →
      traces_from stack r number (line ∷ lines) ≡ Ok all
  then_back r next number line lines all is h =
      ap (λ o. in_form number o >>= λ n. traces_from stack n (suc number) lines) is ∙ h

  -- no operation's line begins a case or ends the file
  no_case : (due : List Due) (traces : List (List Operation)) (before : List (List ℕ)) (s : Named) (o : Operation) →
      next_case due traces (line_with stack before s o) ≡ None
  no_case [] traces before s (bind e) = refl
  no_case [] traces before s (note m) = refl
  no_case [] traces before s (check e) = refl
  no_case [] traces before s (set p c e x) = refl
  no_case [] traces before s (set_square p c row column x) = refl
  no_case [] traces before s (push p c e ns message) = refl
  no_case [] traces before s (take p c e) = refl
  no_case [] traces before s (output dir kind ns message) = refl
  no_case (d ∷ due) traces before s (bind e) = refl
  no_case (d ∷ due) traces before s (note m) = refl
  no_case (d ∷ due) traces before s (check e) = refl
  no_case (d ∷ due) traces before s (set p c e x) = refl
  no_case (d ∷ due) traces before s (set_square p c row column x) = refl
  no_case (d ∷ due) traces before s (push p c e ns message) = refl
  no_case (d ∷ due) traces before s (take p c e) = refl
  no_case (d ∷ due) traces before s (output dir kind ns message) = refl

  -- the room that an operation takes in its case
  record Took (due : List Due) (s : Named) (left : ℕ) (r : Reading) (o : Operation) (os : List Operation) : Type 0 where
    following : ℕ
    is : with_operation stack due s left r o ≡
        Some (record { stage = within due (naming stack s o) following; held = r.held ++ o ∷ []; traces = r.traces })
    more : trace_length os ≤ following

  counts : (o : Operation) (os : List Operation) (left : ℕ) → trace_length (o ∷ os) ≤ left →
      operation_length o + trace_length os ≤ left
  counts o os left h = let both = sum_by-cons operation_length o os in omega (arith, both, h)

  other : (due : List Due) (s : Named) (left : ℕ) (r : Reading) (o : Operation) (os : List Operation) →
      operation_length o + trace_length os ≤ left → operation_length o ≡ 1 →
      ((n : ℕ) → with_operation stack due s (suc n) r o ≡
      Some (record { stage = within due (naming stack s o) n; held = r.held ++ o ∷ []; traces = r.traces })) →
      Took due s left r o os
  other due s zero r o os h one is = absurd (omega (arith, h, one))
  other due s (suc n) r o os h one is = record { following = n; is = is n; more = omega (arith, h, one) }

  took : (due : List Due) (s : Named) (left : ℕ) (r : Reading) (o : Operation) (os : List Operation) →
      operation_length o + trace_length os ≤ left →
      Took due s left r o os
  took due s left r (note m) os h = record { following = left; is = refl; more = omega (arith, h) }
  took due s left r (bind e) os h = other due s left r (bind e) os h refl (λ n. refl)
  took due s left r (check e) os h = other due s left r (check e) os h refl (λ n. refl)
  took due s left r (set p c e x) os h = other due s left r (set p c e x) os h refl (λ n. refl)
  took due s left r (set_square p c row column x) os h = other due s left r (set_square p c row column x) os h refl
      (λ n. refl)
  took due s left r (push p c e ns message) os h = other due s left r (push p c e ns message) os h refl (λ n. refl)
  took due s left r (take p c e) os h = other due s left r (take p c e) os h refl (λ n. refl)
  took due s left r (output dir kind ns message) os h = other due s left r (output dir kind ns message) os h refl
      (λ n. refl)

  taken_is : (s : Named) (o : Operation) → taken_after stack s.rows o ≡ (naming stack s o).rows
  taken_is s (bind e) = refl
  taken_is s (note m) = refl
  taken_is s (check e) = refl
  taken_is s (set p c e x) = refl
  taken_is s (set_square p c row column x) = refl
  taken_is s (push p c e ns message) = refl
  taken_is s (take p c e) = refl
  taken_is s (output dir kind ns message) = refl

  -- what may be named stays countable while n operations are to come
  record Room (s : Named) (n : ℕ) : Type 0 where
    fields : s.fields ≤ largest_number
    binds : s.binds + n ≤ largest_number
    notes : s.notes + n ≤ largest_number
    rows : length s.rows + n ≤ largest_number
    told : AllByRecursion (λ (items : ItemsTree). AreTold items.numbers) s.rows

  small : (s : Named) (n : ℕ) → Room s n → IsSmall s
  small s n room = record {
    fields = room.fields;
    binds = let h = room.binds in omega (arith, h);
    notes = let h = room.notes in omega (arith, h);
    rows = let h = room.rows in omega (arith, h);
    told = room.told;
  }

  module _ (told : AreToldApart stack) (few : length stack ≤ largest_number) where
    less : (s : Named) (n : ℕ) → Room s (suc n) → Room s n
    less s n room = record {
      fields = room.fields;
      binds = let h = room.binds in omega (arith, h);
      notes = let h = room.notes in omega (arith, h);
      rows = let h = room.rows in omega (arith, h);
      told = room.told;
    }

    room_after : (s : Named) (n : ℕ) (o : Operation) → OperationNames (IsMade stack (reach_of s)) o → Room s (suc n) →
        Room (naming stack s o) n
    room_after s n (bind e) made room = record {
      fields = room.fields;
      binds = let h = room.binds in omega (arith, h);
      notes = let h = room.notes in omega (arith, h);
      rows = let h = room.rows in omega (arith, h);
      told = room.told;
    }
    room_after s n (note m) made room = record {
      fields = room.fields;
      binds = let h = room.binds in omega (arith, h);
      notes = let h = room.notes in omega (arith, h);
      rows = let h = room.rows in omega (arith, h);
      told = room.told;
    }
    room_after s n (check e) made room = less s n room
    room_after s n (set p c e x) made room = less s n room
    room_after s n (set_square p c row column x) made room = less s n room
    room_after s n (push p c e ns message) made room = less s n room
    room_after s n (output dir kind ns message) made room = less s n room
    room_after s n (take p c e) made room = record {
      fields = room.fields;
      binds = let h = room.binds in omega (arith, h);
      notes = let h = room.notes in omega (arith, h);
      rows = let h = room.rows in let size = length-append s.rows (items_at stack p c ∷ []) in omega (arith, h, size);
      told = each_append _ s.rows (items_at stack p c ∷ []) room.told (rows_told stack told few p c made.0, tt);
    }

    -- operations before what is read after any of them
    operations_back : (os : List Operation) (before : List (List ℕ)) (s : Named) (left : ℕ) (due : List Due)
        (held : List Operation)
        (traces all : List (List Operation)) (rest : List (List ℕ)) (number : ℕ) → Closed stack (reach_of s) os →
        AreThere stack os →
        TraceFits stack s.rows os → trace_length os ≤ left → Room s (length os) →
        ((s' : Named) (left' number' : ℕ) →
        traces_from stack (record { stage = within due s' left'; held = held ++ os; traces = traces }) number' rest ≡
        Ok all) →
        traces_from stack (record { stage = within due s left; held = held; traces = traces }) number
        (lines_from before s os ++ rest) ≡ Ok all
    operations_back [] before s left due held traces all rest number closed there fits most room more =
        subst (λ os. traces_from stack (record { stage = within due s left; held = os; traces = traces }) number rest ≡
        Ok all) (append-nil held)
        (more s left number)
    operations_back (o ∷ os) before s left due held traces all rest number closed there fits most room more =
        let r : Reading = record { stage = within due s left; held = held; traces = traces } in
        let line = line_with stack before s o in
        let t = took due s left r o os (counts o os left most) in
        let next : Reading = record {
          stage = within due (naming stack s o) t.following;
          held = held ++ o ∷ [];
          traces =
              traces;
        } in
        let said = operation_back stack told few before s (small s (length (o ∷ os)) room) o closed.0 there.0 fits.0 in
        then_back r next number line (lines_from (before ++ line ∷ []) (naming stack s o) os ++ rest) all
        (ap (case_line stack due s left r line) (no_case due (traces ++ held ∷ []) before s o) ∙
        ap (operation_line stack due s left r) said ∙ t.is)
        (operations_back os (before ++ line ∷ []) (naming stack s o) t.following due (held ++ o ∷ []) traces all rest
        (suc number)
        (subst (λ reach. Closed stack reach os) (sym (reach_after stack s o)) closed.1) there.1
        (subst (λ taken. TraceFits stack taken os) (taken_is s o) fits.1) t.more
        (room_after s (length os) o closed.0 room)
        (λ s' left' number'. subst
        (λ l. traces_from stack (record { stage = within due s' left'; held = l; traces = traces }) number' rest ≡
        Ok all)
        (sym (append_assoc held (o ∷ []) os)) (more s' left' number')))

    abbrev owns : List Due → List (List Operation)
    owns due = map (λ d. d.own) due

    abbrev ending : List (List ℕ)
    ending = codes "end" ∷ []

    first_room : (d : Due) → CanBeRead stack d → Room (nothing_named d.fields) (length d.own)
    first_room d can =
        let long = can.long in
        let none : 0 + length d.own ≤ largest_number = omega (arith, long) in
        record { fields = can.fields; binds = none; notes = none; rows = none; told = tt }

    -- the cases that are due, before which others were read
    cases_back : (due : List Due) (traces : List (List Operation)) (r : Reading) (number : ℕ) →
        AllByRecursion (CanBeRead stack) due →
        ((line : List ℕ) (next : Reading) → next_case due traces line ≡ Some next → line_read stack r r.stage line ≡
        Some next) →
        traces_from stack r number (case_lines stack due (owns due) ++ ending) ≡ Ok (traces ++ owns due)
    cases_back [] traces r number can next = then_back r (record { stage = ended; held = []; traces = traces }) number
        (codes "end") [] (traces ++ [])
        (next (codes "end") _ refl) (ap Ok (sym (append-nil traces)))
    cases_back (d ∷ due) traces r number can next =
        let first : Reading =
        record { stage = within due (nothing_named d.fields) most_operations; held = []; traces = traces } in
        let rest = case_lines stack due (owns due) ++ ending in
        let opened : next_case (d ∷ due) traces (heading d.entry d.case) ≡ Some first =
        ap (λ b. if b then Some first else None)
        ((bytes_eq-Decides (heading d.entry d.case) (heading d.entry d.case)).1 refl) in
        ap (λ ls. traces_from stack r number (heading d.entry d.case ∷ ls))
        (append_assoc (operation_lines true stack d.own) (case_lines stack due (owns due)) ending ∙
        ap (λ ls. ls ++ rest) (lines_are d.fields d.own)) ∙
        then_back r first number (heading d.entry d.case) (lines_from [] (nothing_named d.fields) d.own ++ rest)
        (traces ++ d.own ∷ owns due)
        (next (heading d.entry d.case) first opened)
        (operations_back d.own [] (nothing_named d.fields) most_operations due [] traces (traces ++ d.own ∷ owns due)
        rest (suc number)
        can.0.closed can.0.there can.0.fits can.0.few (first_room d can.0)
        (λ s left n. subst (λ all.
        traces_from stack (record { stage = within due s left; held = d.own; traces = traces }) n rest ≡ Ok all)
        (append_assoc traces (d.own ∷ []) (owns due))
        (cases_back due (traces ++ d.own ∷ []) (record { stage = within due s left; held = d.own; traces = traces }) n
        can.1
        (λ line other is. ap (case_line stack due s left
        (record { stage = within due s left; held = d.own; traces = traces }) line) is))))

    pub file_back : (due : List Due) → AllByRecursion (CanBeRead stack) due →
        traces_from stack (begun due) 1 (codes "bypasses 1" ∷ case_lines stack due (owns due) ++ ending) ≡ Ok (owns due)
    file_back due can = then_back (begun due) (record { stage = idle due; held = []; traces = [] }) 1
        (codes "bypasses 1")
        (case_lines stack due (owns due) ++ ending)
        (owns due) refl (cases_back due [] (record { stage = idle due; held = []; traces = [] }) 2 can
        (λ line next is. is))

    -- and none of its lines has a line feed
    operations_plain : (os : List Operation) (before : List (List ℕ)) (s : Named) → Closed stack (reach_of s) os →
        AreThere stack os →
        TraceFits stack s.rows os → Room s (length os) → AllByRecursion IsPlain (lines_from before s os)
    operations_plain [] before s closed there fits room = tt
    operations_plain (o ∷ os) before s closed there fits room = (
      line_plain stack told few before s (small s (length (o ∷ os)) room) o closed.0 there.0 fits.0,
      operations_plain os (before ++ line_with stack before s o ∷ []) (naming stack s o)
          (subst (λ reach. Closed stack reach os) (sym (reach_after stack s o)) closed.1) there.1
          (subst (λ taken. TraceFits stack taken os) (taken_is s o) fits.1) (room_after s (length os) o closed.0 room),
    )

    entry_plain : (n : ℕ) → IsPlain (entry_name n)
    entry_plain zero = refl
    entry_plain (suc zero) = refl
    entry_plain (suc (suc k)) = plain_both (codes "plan ") (decimal k) refl (decimal_plain k)

    heading_plain : (d : Due) → IsPlain (heading d.entry d.case)
    heading_plain d = plain_both (codes "entry " ++ entry_name d.entry ++ codes " case ") (decimal (case_number d.case))
        (plain_both (codes "entry " ++ entry_name d.entry) (codes " case ")
        (plain_both (codes "entry ") (entry_name d.entry) refl (entry_plain d.entry)) refl)
        (decimal_plain (case_number d.case))

    pub cases_plain : (due : List Due) → AllByRecursion (CanBeRead stack) due →
        AllByRecursion IsPlain (case_lines stack due (owns due))
    cases_plain [] can = tt
    cases_plain (d ∷ due) can = (
      heading_plain d,
      each_append IsPlain (operation_lines true stack d.own) (case_lines stack due (owns due))
          (subst (AllByRecursion IsPlain) (sym (lines_are d.fields d.own))
          (operations_plain d.own [] (nothing_named d.fields) can.0.closed can.0.there can.0.fits (first_room d can.0)))
          (cases_plain due can.1),
    )
