-- The code of a guarded handler passes its tests where that holds, and does what that does.
use Rattle.std.proofs.Common.{◌≡◌, ℕ, suc, ◌+◌, ◌<◌, nat_lt, Bool, true, false, ◌&&◌, ◌⊎◌, inl, inr, if◌then◌else◌}
use Rattle.std.proofs.Common.{List, [], ◌∷◌, ◌++◌, map, min, length, drop, slice_get, slice_index, slice_index_or}
use Rattle.std.proofs.Common.{slice_set, Option, option_map, Some, None, fold, refl, sym, ap, ap₂, ◌∙◌, subst, arith}
use Rattle.std.proofs.Common.{append-nil, append_assoc}
use Rattle.std.proofs.lemmas.Bool.{ltb-true, ltb-false, cases_order}
use Rattle.std.proofs.lemmas.List.{length-append, length-take, length-drop, get_or_past, get_or_at, get_or_append_left}
use Rattle.std.proofs.lemmas.List.Sums.{fold-append}
use Rattle.std.specs.List.{list_all}
use Rattle.msg_core.specs.Chain.{Content, plain}
use Rattle.msg_core.specs.Parts as message_parts
use Rattle.layer_words.specs.declared.operators.Operator.TheVariants.{And}
use Rattle.layer_mean.specs.declared.run.Row.{Row}
use Rattle.layer_mean.specs.Tree.{Carried, part, whole}
use Rattle.layer_mean.specs.State.{State, number_at, flat_index, rows_at, row_at, with_number, with_row, without_front}
use Rattle.layer_mean.specs.Value.{is_true, applied, function_of, number_in, message_in, missing}
use Rattle.layer_mean.specs.Event.{event_of}
use Rattle.layer_mean.specs.declared.run.Event.{Event}
use Rattle.layer_words.specs.declared.events.Dir.{Dir}
use Rattle.trace_mean.specs.Trace.{Atom, number, peer, field, bound, taken_number, value, Core, body, noted}
use Rattle.trace_mean.specs.Trace.{taken_message, nothing, TraceNumber, atom, me, count, ltime, element, square, rows}
use Rattle.trace_mean.specs.Trace.{item, size, binary, apply, pick, TraceMessage, core, held, cut, tail, join, Link}
use Rattle.trace_mean.specs.Trace.{Chained, Operation, bind, note, check, set, set_square, push, take, output, Guarded}
use Rattle.trace_mean.specs.Worth.{Input, Kept, only_values, state_of, atom_at, core_at, number_of, message_of}
use Rattle.trace_mean.specs.Worth.{header_at, content_at}
use Rattle.trace_mean.specs.Follow.{Trail, with_bound, with_noted, does, before, perform}
use Rattle.guard_mean.specs.Perform.{with_value, values_of, holds_at, holds}
use Rattle.guard_mean.specs.Code as code
use Rattle.guard_mean.specs.Code.{Operand, Reading, Making, Test, prepare, require}
use Rattle.guard_mean.specs.Code.{require_operand, Step, make, keep, Code}
use Rattle.guard_mean.specs.Same.{same_reading}
use Rattle.guard_mean.specs.Machine.{operand_at, source_at, cut_bytes, tail_bytes, join_bytes, reading_of, making_of}
use Rattle.guard_mean.specs.Machine.{heading_at, sent_at, reads, Tested, tests, untested, tested, begun, steps}
use Rattle.guard_mean.specs.Straight.{Names, zero_operand, operand_for, Registers, made_count, Line, Top, given}
use Rattle.guard_mean.specs.Straight.{reading, Topped, Spot, reads_line, place_from, read_at, settled_top, top_spot}
use Rattle.guard_mean.specs.Straight.{reading_on_top, given_at, core_parts, parts, size_parts, straight, Spots}
use Rattle.guard_mean.specs.Straight.{all_straight}
use Rattle.guard_mean.specs.Straight.{line_at, Guarding, value_tests, top_test, one_test, conjunct_tests, unguarded}
use Rattle.guard_mean.specs.Straight.{guarding, Sheet, sheet_line, makes, adds, changes, Placed, keeps_message}
use Rattle.guard_mean.specs.Straight.{placed_core, placed_message, Sending, heading_for, sending, writes, first_sheet}
use Rattle.guard_mean.specs.Straight.{code_of}
use Rattle.guard_laws.proofs.SameReading.{same_worth}
use Rattle.guard_laws.specs.Code.{CodeIsSame}
use Rattle.guard_laws.proofs.Grows.{Grown, grown_same, grown_one, grown_then}
use Rattle.guard_laws.proofs.Alike.{held_bytes, join_size_is}
use Rattle.guard_laws.proofs.Same.{chosen_end}
use Rattle.guard_laws.proofs.Steps.{get_push}
use Rattle.guard_laws.proofs.Lines.{true_of}

-- a message that stands in for a missing one has no bytes
no_bytes : (carried : Carried) → length (missing carried).body ≡ 0
no_bytes part = refl
no_bytes (whole blank) = refl

-- a list of names with one more
more_names : {N A : Type 0} (worth : N → A) (names : List N) (vs : List A) (a d : N) (w z : A) →
    length names ≡ length vs → worth d ≡ z →
    ((k : ℕ) → worth (slice_index_or names k d) ≡ slice_index_or vs k z) → worth a ≡ w →
    (k : ℕ) → worth (slice_index_or (names ++ a ∷ []) k d) ≡ slice_index_or (vs ++ w ∷ []) k z
more_names worth names vs a d w z same none old new k = go (cases_order k (length names)) where
  one : length (names ++ a ∷ []) ≡ length names + 1
  one = length-append names (a ∷ [])

  one' : length (vs ++ w ∷ []) ≡ length vs + 1
  one' = length-append vs (w ∷ [])

  go : (k ≡ length names) ⊎ ((k < length names) ⊎ (length names < k)) → worth (slice_index_or (names ++ a ∷ []) k d) ≡
      slice_index_or (vs ++ w ∷ []) k z
  go (inl at) = ap worth (get_or_at names a [] d k (sym at)) ∙ new ∙ sym (get_or_at vs w [] z k (sym (at ∙ same)))
  go (inr (inl less)) = ap worth (get_or_append_left names (a ∷ []) d k less) ∙ old k
      ∙ sym (get_or_append_left vs (w ∷ []) z k (omega (arith, less, same)))
  go (inr (inr more)) = ap worth (get_or_past (names ++ a ∷ []) k d (omega (arith, one, more))) ∙ none
      ∙ sym (get_or_past (vs ++ w ∷ []) k z (omega (arith, one', more, same)))

one_longer : {A B : Type 0} (xs : List A) (ys : List B) (x : A) (y : B) → length xs ≡ length ys →
    length (xs ++ x ∷ []) ≡ length (ys ++ y ∷ [])
one_longer xs ys x y same = length-append xs (x ∷ []) ∙ ap (λ n. n + 1) same ∙ sym (length-append ys (y ∷ []))

and-true : (b : Bool) → (b && true) ≡ b
and-true true = refl
and-true false = refl

and_assoc : (a b c : Bool) → ((a && b) && c) ≡ (a && (b && c))
and_assoc true b c = refl
and_assoc false b c = refl

-- where a reading was found
found_reading : (xs : List Reading) (r : Reading) (k place : ℕ) {C : Type 0} → place_from k xs r ≡ Some place →
    ((j : ℕ) (x : Reading) → place ≡ k + j → slice_get xs j ≡ Some x → same_reading x r ≡ true → C) → C
found_reading [] r k place is so = absurd (cc is)
found_reading (x ∷ xs) r k place {C = C} is so =
    go (same_reading x r) refl is
    (λ later. found_reading xs r (suc k) place later (λ j y at got same. so (suc j) y (omega (arith, at)) got same))
  where
    go : (t : Bool) → same_reading x r ≡ t → (if t then Some k else place_from (suc k) xs r) ≡ Some place →
        (place_from (suc k) xs r ≡ Some place → C) → C
    go true same is rest = so 0 x (let at : k ≡ place = cc is in omega (arith, at)) refl same
    go false other is rest = rest is

-- what is kept later: more numbers, messages and rows after those that there are
record Later (k u : Kept) : Type 0 where
  numbers : Grown k.numbers u.numbers
  messages : Grown k.messages u.messages
  rows : Grown k.rows u.rows

later_same : (k : Kept) → Later k k
later_same k = record { numbers = grown_same k.numbers; messages = grown_same k.messages; rows = grown_same k.rows }

later_then : (k u v : Kept) → Later k u → Later u v → Later k v
later_then k u v a b = record {
  numbers = grown_then k.numbers u.numbers v.numbers a.numbers b.numbers;
  messages = grown_then k.messages u.messages v.messages a.messages b.messages;
  rows = grown_then k.rows u.rows v.rows a.rows b.rows;
}

module _ (i : Input) (ss : List State) where
  -- the numbers from a first one on are those of these readings, now and later
  abbrev Known : Kept → Registers → Type 0
  Known k known = (j : ℕ) (r : Reading) → slice_get known.readings j ≡ Some r → (u : Kept) → Later k u →
      reading_of i u ss r ≡ slice_index u.numbers (known.first + j)

  -- names stand for what the trace keeps, as long as what the code keeps only grows
  pub record Stand (t : Kept) (n : Names) (k : Kept) (known : Registers) : Type 0 where
    rows : k.rows ≡ t.rows
    many : length k.numbers ≡ made_count known
    read : Known k known
    taken : n.rows ≡ length t.rows
    same_values : length n.values ≡ length t.values
    same_numbers : length n.numbers ≡ length t.numbers
    same_messages : length n.messages ≡ length t.messages
    value_names : (u : Kept) → Later k u → (j : ℕ) → operand_at i u (slice_index_or n.values j zero_operand) ≡
        slice_index t.values j
    number_names : (u : Kept) → Later k u → (j : ℕ) → operand_at i u (slice_index_or n.numbers j zero_operand) ≡
        slice_index t.numbers j
    message_names : (u : Kept) → Later k u → (j : ℕ) → source_at i u (slice_index_or n.messages j code.nothing) ≡
        slice_index_or t.messages j (plain [])

  known_later : (k k' : Kept) (known : Registers) → Later k k' → Known k known → Known k' known
  known_later k k' known later is j r at u g = is j r at u (later_then k k' u later g)

  -- readings in order
  abbrev read_all : Kept → List Reading → Kept
  read_all k rs = fold (reads i ss) k rs

  read_more : (k : Kept) (rs : List Reading) (r : Reading) → read_all k (rs ++ r ∷ []) ≡ reads i ss (read_all k rs) r
  read_more k rs r = fold-append (reads i ss) k rs (r ∷ [])

  module _ (start : Kept) where
    abbrev at_line : Line → Kept
    at_line l = read_all start l.readings

    -- only numbers were made
    record Quiet (k u : Kept) : Type 0 where
      values : u.values ≡ k.values
      messages : u.messages ≡ k.messages
      rows : u.rows ≡ k.rows
      numbers : Grown k.numbers u.numbers

    quiet_same : (k : Kept) → Quiet k k
    quiet_same k = record { values = refl; messages = refl; rows = refl; numbers = grown_same k.numbers }

    quiet_then : (k u v : Kept) → Quiet k u → Quiet u v → Quiet k v
    quiet_then k u v a b = record {
      values = b.values ∙ a.values;
      messages = b.messages ∙ a.messages;
      rows = b.rows ∙ a.rows;
      numbers = grown_then k.numbers u.numbers v.numbers a.numbers b.numbers;
    }

    quiet_later : (k u : Kept) → Quiet k u → Later k u
    quiet_later k u q = record {
      numbers = q.numbers;
      messages = ([], q.messages ∙ sym (append-nil k.messages));
      rows = ([], q.rows ∙ sym (append-nil k.rows));
    }

    -- an operand that stands for a number, from this line on
    record SpotIs (l : Line) (x : Spot) (w : ℕ) : Type 0 where
      quiet : Quiet (at_line l) (at_line x.line)
      many : length (at_line x.line).numbers ≡ made_count x.line.registers
      read : Known (at_line x.line) x.line.registers
      worth : (u : Kept) → Later (at_line x.line) u → operand_at i u x.at ≡ w

    -- what a top stands for, at this line
    abbrev Tops : Kept → Top → ℕ → Type 0
    Tops k (given a) w = (u : Kept) → Later k u → operand_at i u a ≡ w
    Tops k (reading r) w = (u : Kept) → Later k u → reading_of i u ss r ≡ w

    record Parted (l : Line) (x : Topped) (w : ℕ) : Type 0 where
      quiet : Quiet (at_line l) (at_line x.line)
      many : length (at_line x.line).numbers ≡ made_count x.line.registers
      read : Known (at_line x.line) x.line.registers
      top : Tops (at_line x.line) x.top w

    -- a reading that is made
    reads_new : (l m : Line) (r : Reading) (w : ℕ) → Quiet (at_line l) (at_line m) → length (at_line m).numbers ≡
        made_count m.registers →
        Known (at_line m) m.registers → ((u : Kept) → Later (at_line m) u → reading_of i u ss r ≡ w) →
        SpotIs l (read_at m r None) w
    reads_new l m r w q many read is = record {
      quiet = subst (Quiet (at_line l)) (sym (read_more start m.readings r))
          (quiet_then (at_line l) k (reads i ss k r) q here);
      many = ap (λ u. length u.numbers) (read_more start m.readings r) ∙ length-append k.numbers _
          ∙ (let more = length-append m.registers.readings (r ∷ []) in let just : length (r ∷ []) ≡ 1 = refl in
          let one : length k.numbers + 1 ≡ m.registers.first + length (m.registers.readings ++ r ∷ []) =
          omega (arith, many, more, just) in one);
      read = λ j x at u later.
          known_more j x at u (sooner u later)
          (newest u (subst (λ v. Later v u) (read_more start m.readings r) later).numbers);
      worth = λ u later. newest u (subst (λ v. Later v u) (read_more start m.readings r) later).numbers;
    } where
      k : Kept
      k = at_line m

      here : Quiet k (reads i ss k r)
      here = record { values = refl; messages = refl; rows = refl; numbers = grown_one k.numbers (reading_of i k ss r) }

      sooner : (u : Kept) → Later (at_line (reads_line m r)) u → Later k u
      sooner u later = later_then k (reads i ss k r) u (quiet_later k (reads i ss k r) here)
          (subst (λ v. Later v u) (read_more start m.readings r) later)

      newest : (u : Kept) → Grown (k.numbers ++ reading_of i k ss r ∷ []) u.numbers →
          slice_index u.numbers (made_count m.registers) ≡ w
      newest u g = ap (λ xs. slice_index xs (made_count m.registers))
          (g.1 ∙ append_assoc k.numbers (reading_of i k ss r ∷ []) g.0)
          ∙ get_or_at k.numbers (reading_of i k ss r) g.0 0 (made_count m.registers) many ∙ is k (later_same k)

      known_more : (j : ℕ) (x : Reading) → slice_get (m.registers.readings ++ r ∷ []) j ≡ Some x → (u : Kept) →
          Later k u →
          slice_index u.numbers (made_count m.registers) ≡ w →
          reading_of i u ss x ≡ slice_index u.numbers (m.registers.first + j)
      known_more j x at u later new = go (get_push m.registers.readings r j) where
        go : ((slice_get (m.registers.readings ++ r ∷ []) j ≡ slice_get m.registers.readings j) ×
            (j ≡ length m.registers.readings → ⊥)) ⊎
            ((j ≡ length m.registers.readings) × (slice_get (m.registers.readings ++ r ∷ []) j ≡ Some r)) →
            reading_of i u ss x ≡ slice_index u.numbers (m.registers.first + j)
        go (inl old) = read j x (sym old.0 ∙ at) u later
        go (inr last) = let same : r ≡ x = cc (last.1, at) in
            ap (reading_of i u ss) (sym same) ∙ is u later ∙ sym new ∙
            ap (λ n. slice_index u.numbers (m.registers.first + n)) (sym last.0)

    -- or was made already
    reads_known : (l m : Line) (r : Reading) (w : ℕ) → Quiet (at_line l) (at_line m) → length (at_line m).numbers ≡
        made_count m.registers →
        Known (at_line m) m.registers → ((u : Kept) → Later (at_line m) u → reading_of i u ss r ≡ w) → (o : Option ℕ) →
        place_from m.registers.first m.registers.readings r ≡ o →
        SpotIs l (read_at m r o) w
    reads_known l m r w q many read is None at = reads_new l m r w q many read is
    reads_known l m r w q many read is (Some place) at = record {
      quiet = q;
      many = many;
      read = read;
      worth = λ u later. found_reading m.registers.readings r m.registers.first place at (λ j x where_is got same.
          ap (slice_index u.numbers) where_is ∙ sym (read j x got u later) ∙ same_worth i u ss x r same ∙ is u later);
    }

    settles : (l m : Line) (t : Top) (w : ℕ) → Quiet (at_line l) (at_line m) → length (at_line m).numbers ≡
        made_count m.registers →
        Known (at_line m) m.registers → Tops (at_line m) t w → SpotIs l (settled_top m t) w
    settles l m (given a) w q many read is = record { quiet = q; many = many; read = read; worth = is }
    settles l m (reading r) w q many read is =
        reads_known l m r w q many read is (place_from m.registers.first m.registers.readings r) refl

    settle : (l : Line) (x : Topped) (w : ℕ) → Parted l x w → SpotIs l (top_spot x) w
    settle l x w p = settles l x.line x.top w p.quiet p.many p.read p.top

    module _ (t : Kept) (n : Names) where
      abbrev Stands : Line → Type 0
      Stands l = Stand t n (at_line l) l.registers

      further : (l m : Line) → Stands l → Quiet (at_line l) (at_line m) → length (at_line m).numbers ≡
          made_count m.registers →
          Known (at_line m) m.registers → Stands m
      further l m s q many read = record {
        rows = q.rows ∙ s.rows;
        many = many;
        read = read;
        taken = s.taken;
        same_values = s.same_values;
        same_numbers = s.same_numbers;
        same_messages = s.same_messages;
        value_names = λ u g. s.value_names u
            (later_then (at_line l) (at_line m) u (quiet_later (at_line l) (at_line m) q) g);
        number_names = λ u g.
            s.number_names u (later_then (at_line l) (at_line m) u (quiet_later (at_line l) (at_line m) q) g);
        message_names = λ u g.
            s.message_names u (later_then (at_line l) (at_line m) u (quiet_later (at_line l) (at_line m) q) g);
      }

      after : (l : Line) (x : Spot) (w : ℕ) → Stands l → SpotIs l x w → Stands x.line
      after l x w s f = further l x.line s f.quiet f.many f.read

      -- what the names of atoms stand for
      atom_same : (a : Atom) (k : Kept) (known : Registers) → Stand t n k known → (u : Kept) → Later k u →
          operand_at i u (operand_for n a) ≡ atom_at i t a
      atom_same (number j) k known s u g = refl
      atom_same peer k known s u g = refl
      atom_same (field j) k known s u g = refl
      atom_same (bound j) k known s u g = s.number_names u g j
      atom_same (taken_number r j) k known s u g = go (nat_lt r n.rows) refl where
        go : (b : Bool) → nat_lt r n.rows ≡ b → operand_at i u (if b then code.taken r j else zero_operand) ≡ number_in
            j (slice_index_or t.rows r None)
        go true is = let less = ltb-true r n.rows is in let e = s.taken in let f = ap length s.rows in
            ap (number_in j) (ap (λ rs. slice_index_or rs r None) g.rows.1
            ∙ get_or_append_left k.rows g.rows.0 None r (omega (arith, less, e, f))
            ∙ ap (λ rs. slice_index_or rs r None) s.rows)
        go false is = let past = ltb-false r n.rows is in let e = s.taken in
            sym (ap (number_in j) (get_or_past t.rows r None (omega (arith, past, e))))
      atom_same (value j) k known s u g = s.value_names u g j

      atoms_same : (xs : List Atom) (k : Kept) (known : Registers) → Stand t n k known → (u : Kept) → Later k u →
          map (operand_at i u) (map (operand_for n) xs) ≡ map (atom_at i t) xs
      atoms_same [] k known s u g = refl
      atoms_same (a ∷ xs) k known s u g = ap₂ (λ y ys. y ∷ ys) (atom_same a k known s u g) (atoms_same xs k known s u g)

      links_same : (links : List Link) (k : Kept) (known : Registers) → Stand t n k known → (u : Kept) → Later k u →
          map (heading_at i u) (map (heading_for n) links) ≡ map (header_at i t) links
      links_same [] k known s u g = refl
      links_same (x ∷ links) k known s u g = ap₂ (λ y ys. y ∷ ys)
          (ap (λ fields. record { layer = x.place; tag = x.tag; fields = fields }) (atoms_same x.fields k known s u g))
          (links_same links k known s u g)

      -- one, two and three operands before an operator
      one : (l : Line) (x : Spot) (w : ℕ) → SpotIs l x w → (r : Reading) (v : ℕ) →
          ((u : Kept) → operand_at i u x.at ≡ w → reading_of i u ss r ≡ v) → Parted l (reading_on_top x.line r) v
      one l x w f r v is = record { quiet = f.quiet; many = f.many; read = f.read; top = λ u g. is u (f.worth u g) }

      two : (l : Line) (x y : Spot) (w z : ℕ) → SpotIs l x w → SpotIs x.line y z → (r : Reading) (v : ℕ) →
          ((u : Kept) → operand_at i u x.at ≡ w → operand_at i u y.at ≡ z → reading_of i u ss r ≡ v) →
          Parted l (reading_on_top y.line r) v
      two l x y w z f g r v is = record {
        quiet = quiet_then (at_line l) (at_line x.line) (at_line y.line) f.quiet g.quiet;
        many = g.many;
        read = g.read;
        top = λ u h. is u (f.worth u
            (later_then (at_line x.line) (at_line y.line) u (quiet_later (at_line x.line) (at_line y.line) g.quiet) h))
            (g.worth u h);
      }

      three : (l : Line) (x y q : Spot) (w z a : ℕ) → SpotIs l x w → SpotIs x.line y z → SpotIs y.line q a →
          (r : Reading) (v : ℕ) →
          ((u : Kept) → operand_at i u x.at ≡ w → operand_at i u y.at ≡ z → operand_at i u q.at ≡ a →
          reading_of i u ss r ≡ v) → Parted l (reading_on_top q.line r) v
      three l x y q w z a f g h r v is = record {
        quiet = quiet_then (at_line l) (at_line x.line) (at_line q.line) f.quiet both;
        many = h.many;
        read = h.read;
        top = λ u later. is u
            (f.worth u (later_then (at_line x.line) (at_line q.line) u
            (quiet_later (at_line x.line) (at_line q.line) both) later))
            (g.worth u (later_then (at_line y.line) (at_line q.line) u
            (quiet_later (at_line y.line) (at_line q.line) h.quiet) later)) (h.worth u later);
      } where
        both : Quiet (at_line x.line) (at_line q.line)
        both = quiet_then (at_line x.line) (at_line y.line) (at_line q.line) g.quiet h.quiet

      given_here : (l : Line) (a : Operand) (w : ℕ) → Stands l →
          ((u : Kept) → Later (at_line l) u → operand_at i u a ≡ w) → Parted l (given_at l a) w
      given_here l a w s is = record { quiet = quiet_same (at_line l); many = s.many; read = s.read; top = is }

      read_here : (l : Line) (r : Reading) (w : ℕ) → Stands l →
          ((u : Kept) → Later (at_line l) u → reading_of i u ss r ≡ w) → Parted l (reading_on_top l r) w
      read_here l r w s is = record { quiet = quiet_same (at_line l); many = s.many; read = s.read; top = is }

      core_parted : (c : Core) (l : Line) → Stands l → Parted l (core_parts n c l) (length (core_at i t c).body)
      core_parted body l s = read_here l (code.size code.body) _ s (λ u g. refl)
      core_parted (noted k) l s = read_here l (code.size (slice_index_or n.messages k code.nothing)) _ s
          (λ u g. ap (λ (m : Content). length m.body) (s.message_names u g k))
      core_parted (taken_message r carried) l s = go (nat_lt r n.rows) refl where
        go : (b : Bool) → nat_lt r n.rows ≡ b →
            Parted l (if b then reading_on_top l (code.taken_size r) else given_at l zero_operand)
            (length (core_at i t (taken_message r carried)).body)
        go true is = let less = ltb-true r n.rows is in let e = s.taken in let f = ap length s.rows in
            read_here l (code.taken_size r) _ s (λ u g.
            ap (λ o. length (message_in part o).body)
            (ap (λ rs. slice_index_or rs r None) g.rows.1
            ∙ get_or_append_left (at_line l).rows g.rows.0 None r (omega (arith, less, e, f))
            ∙ ap (λ rs. slice_index_or rs r None) s.rows)
            ∙ held_bytes i t ss part carried (slice_index_or t.rows r None))
        go false is = let past = ltb-false r n.rows is in let e = s.taken in
            given_here l zero_operand _ s
            (λ u g. sym (ap (λ o. length (message_in carried o).body)
            (get_or_past t.rows r None (omega (arith, past, e)))
            ∙ no_bytes carried))
      core_parted nothing l s = given_here l zero_operand 0 s (λ u g. refl)

      mutual
        parted : (e : TraceNumber) (l : Line) → Stands l → Parted l (parts n e l) (number_of i t ss e)
        parted (atom a) l s = given_here l (operand_for n a) _ s (atom_same a (at_line l) l.registers s)
        parted me l s = given_here l code.me i.me s (λ u g. refl)
        parted count l s = given_here l code.count i.count s (λ u g. refl)
        parted ltime l s = given_here l code.ltime i.ltime s (λ u g. refl)
        parted (element p c e) l s =
            let x = straight n e l in let f = settle l (parts n e l) (number_of i t ss e) (parted e l s) in
            one l x _ f (code.element p c x.at) _ (λ u is. ap (number_at (state_of ss p) c) is)
        parted (square p c r k) l s =
            let x = straight n r l in let f = settle l (parts n r l) (number_of i t ss r) (parted r l s) in
            let y = straight n k x.line in let g = settle x.line (parts n k x.line) (number_of i t ss k)
            (parted k x.line (after l x _ s f)) in
            two l x y _ _ f g (code.square p c x.at y.at) _
            (λ u is too. ap₂ (λ a b. number_at (state_of ss p) c (flat_index i.count a b)) is too)
        parted (rows p c e) l s =
            let x = straight n e l in let f = settle l (parts n e l) (number_of i t ss e) (parted e l s) in
            one l x _ f (code.rows p c x.at) _ (λ u is. ap (λ j. length (rows_at (state_of ss p) c j)) is)
        parted (item p c e r k) l s =
            let x = straight n e l in let f = settle l (parts n e l) (number_of i t ss e) (parted e l s) in
            let y = straight n r x.line in let g = settle x.line (parts n r x.line) (number_of i t ss r)
            (parted r x.line (after l x _ s f)) in
            two l x y _ _ f g (code.item p c x.at y.at k) _
            (λ u is too. ap₂ (λ a b. number_in k (row_at (state_of ss p) c a b)) is too)
        parted (size m) l s = size_parted m l s
        parted (binary o a b) l s =
            let x = straight n a l in let f = settle l (parts n a l) (number_of i t ss a) (parted a l s) in
            let y = straight n b x.line in let g = settle x.line (parts n b x.line) (number_of i t ss b)
            (parted b x.line (after l x _ s f)) in
            two l x y _ _ f g (code.binary o x.at y.at) _ (λ u is too. ap₂ (applied o) is too)
        parted (apply o a) l s =
            let x = straight n a l in let f = settle l (parts n a l) (number_of i t ss a) (parted a l s) in
            one l x _ f (code.apply o x.at) _ (λ u is. ap (function_of o) is)
        parted (pick c a b) l s =
            let x = straight n c l in let f = settle l (parts n c l) (number_of i t ss c) (parted c l s) in let sx =
            after l x _ s f in
            let y = straight n a x.line in let g = settle x.line (parts n a x.line) (number_of i t ss a)
            (parted a x.line sx) in
            let z = straight n b y.line in let h = settle y.line (parts n b y.line) (number_of i t ss b)
            (parted b y.line (after x.line y _ sx g)) in
            three l x y z _ _ _ f g h (code.pick x.at y.at z.at) _
            (λ u is too more. λ w. if is_true (is w) then too w else more w)

        size_parted : (m : TraceMessage) (l : Line) → Stands l →
            Parted l (size_parts n m l) (length (message_of i t ss m).body)
        size_parted (core c) l s = core_parted c l s
        size_parted (held p c e r carried) l s =
            let x = straight n e l in let f = settle l (parts n e l) (number_of i t ss e) (parted e l s) in
            let y = straight n r x.line in let g = settle x.line (parts n r x.line) (number_of i t ss r)
            (parted r x.line (after l x _ s f)) in
            two l x y _ _ f g (code.held_size p c x.at y.at) _ (λ u is too.
            ap₂ (λ a b. length (message_in part (row_at (state_of ss p) c a b)).body) is too
            ∙ held_bytes i t ss part carried (row_at (state_of ss p) c (number_of i t ss e) (number_of i t ss r)))
        size_parted (cut m e k) l s =
            let x = top_spot (size_parts n m l) in let f = settle l (size_parts n m l) _ (size_parted m l s) in let sx =
            after l x _ s f in
            let y = straight n e x.line in let g = settle x.line (parts n e x.line) (number_of i t ss e)
            (parted e x.line sx) in
            let z = straight n k y.line in let h = settle y.line (parts n k y.line) (number_of i t ss k)
            (parted k y.line (after x.line y _ sx g)) in
            three l x y z _ _ _ f g h (code.cut_size x.at y.at z.at) _ (λ u is too more.
            (λ w. cut_bytes (is w) (too w) (more w))
            ∙ sym (length-take (number_of i t ss k) (drop (number_of i t ss e) (message_of i t ss m).body)
            ∙ ap (min (number_of i t ss k)) (length-drop (number_of i t ss e) (message_of i t ss m).body)))
        size_parted (tail m e) l s =
            let x = top_spot (size_parts n m l) in let f = settle l (size_parts n m l) _ (size_parted m l s) in
            let y = straight n e x.line in let g = settle x.line (parts n e x.line) (number_of i t ss e)
            (parted e x.line (after l x _ s f)) in
            two l x y _ _ f g (code.tail_size x.at y.at) _ (λ u is too.
            ap₂ tail_bytes is too ∙ sym (length-drop (number_of i t ss e) (message_of i t ss m).body))
        size_parted (join a b) l s =
            let x = top_spot (size_parts n a l) in let f = settle l (size_parts n a l) _ (size_parted a l s) in
            let y = top_spot (size_parts n b x.line) in let g =
            settle x.line (size_parts n b x.line) _ (size_parted b x.line (after l x _ s f)) in
            two l x y _ _ f g (code.join_size x.at y.at) _ (λ u is too.
            ap₂ join_bytes is too ∙ sym (join_size_is i t ss (message_of i t ss a) (message_of i t ss b)))

      spotted : (e : TraceNumber) (l : Line) → Stands l → SpotIs l (straight n e l) (number_of i t ss e)
      spotted e l s = settle l (parts n e l) (number_of i t ss e) (parted e l s)

      record SpotsAre (l : Line) (x : Spots) (ws : List ℕ) : Type 0 where
        quiet : Quiet (at_line l) (at_line x.line)
        many : length (at_line x.line).numbers ≡ made_count x.line.registers
        read : Known (at_line x.line) x.line.registers
        worth : (u : Kept) → Later (at_line x.line) u → map (operand_at i u) x.at ≡ ws

      all_spotted : (es : List TraceNumber) (l : Line) → Stands l →
          SpotsAre l (all_straight n es l) (map (number_of i t ss) es)
      all_spotted [] l s = record { quiet = quiet_same (at_line l); many = s.many; read = s.read; worth = λ u g. refl }
      all_spotted (e ∷ es) l s =
          let x = straight n e l in let f = spotted e l s in
          let y = all_straight n es x.line in let g = all_spotted es x.line (after l x _ s f) in
          record {
            quiet = quiet_then (at_line l) (at_line x.line) (at_line y.line) f.quiet g.quiet;
            many = g.many;
            read = g.read;
            worth = λ u h. ap₂ (λ a rest. a ∷ rest)
                (f.worth u (later_then (at_line x.line) (at_line y.line) u
                (quiet_later (at_line x.line) (at_line y.line) g.quiet) h)) (g.worth u h);
          }

-- tests
module _ (i : Input) (ss : List State) where
  prepared : (d : Tested) (rs : List Reading) → fold (tests i ss) d (map prepare rs) ≡
      record d { kept = read_all i ss d.kept rs }
  prepared d [] = refl
  prepared d (r ∷ rs) = prepared (record d { kept = reads i ss d.kept r }) rs

  -- tests that have come as far as these entry values
  record Guards (p : Bool) (vs : List ℕ) (g : Guarding) : Type 0 where
    stand : Stand i ss (only_values vs) g.names (tested i g.tests ss).kept g.registers
    passing : (tested i g.tests ss).passes ≡ p

  tests_more : (g : Guarding) (l : Line) → tested i (g.tests ++ map prepare l.readings) ss ≡
      record (tested i g.tests ss) { kept = read_all i ss (tested i g.tests ss).kept l.readings }
  tests_more g l = fold-append (tests i ss) untested g.tests (map prepare l.readings) ∙
      prepared (tested i g.tests ss) l.readings

  stand_value : (vs : List ℕ) (n : Names) (k : Kept) (known : Registers) (a : Operand) (w : ℕ) →
      Stand i ss (only_values vs) n k known →
      ((u : Kept) → Later k u → operand_at i u a ≡ w) →
      Stand i ss (only_values (vs ++ w ∷ [])) (record n { values = n.values ++ a ∷ [] }) k known
  stand_value vs n k known a w s is = record {
    rows = s.rows;
    many = s.many;
    read = s.read;
    taken = s.taken;
    same_numbers = s.same_numbers;
    same_messages = s.same_messages;
    same_values = one_longer n.values vs a w s.same_values;
    value_names = λ u g. more_names (operand_at i u) n.values vs a zero_operand w 0 s.same_values refl
        (s.value_names u g) (is u g);
    number_names = s.number_names;
    message_names = s.message_names;
  }

  value_step : (p : Bool) (vs : List ℕ) (g : Guarding) (e : TraceNumber) → Guards p vs g →
      Guards p (with_value i ss vs e) (value_tests g e)
  value_step p vs g e so = record {
    stand = subst (λ d. Stand i ss (only_values (vs ++ w ∷ []))
        (record g.names { values = g.names.values ++ x.at ∷ [] }) d.kept x.line.registers)
        (sym (tests_more g x.line))
        (stand_value vs g.names (read_all i ss start x.line.readings) x.line.registers x.at w
        (after i ss start (only_values vs) g.names (line_at g.registers) x w so.stand f) f.worth);
    passing = ap (λ (d : Tested). d.passes) (tests_more g x.line) ∙ so.passing;
  } where
    start : Kept
    start = (tested i g.tests ss).kept

    w : ℕ
    w = number_of i (only_values vs) ss e

    x : Spot
    x = straight g.names e (line_at g.registers)

    f : SpotIs i ss start (line_at g.registers) x w
    f = spotted i ss start (only_values vs) g.names e (line_at g.registers) so.stand

  values_all : (p : Bool) (es : List TraceNumber) (vs : List ℕ) (g : Guarding) → Guards p vs g →
      Guards p (fold (with_value i ss) vs es) (fold value_tests g es)
  values_all p [] vs g so = so
  values_all p (e ∷ es) vs g so = values_all p es (with_value i ss vs e) (value_tests g e) (value_step p vs g e so)

  -- what is asked of a conjunct
  asked : (start : Kept) (l : Line) (d : Tested) (t : Top) (w : ℕ) → d.kept ≡ read_all i ss start l.readings →
      Tops i ss start (read_all i ss start l.readings) t w →
      tests i ss d (top_test t) ≡ record d { passes = d.passes && is_true w }
  asked start l d (given a) w at is = ap (λ n. record d { passes = d.passes && is_true n })
      (ap (λ k. operand_at i k a) at ∙ is (read_all i ss start l.readings) (later_same _))
  asked start l d (reading r) w at is = ap (λ n. record d { passes = d.passes && is_true n })
      (ap (λ k. reading_of i k ss r) at ∙ is (read_all i ss start l.readings) (later_same _))

  one_step : (p : Bool) (vs : List ℕ) (g : Guarding) (e : TraceNumber) → Guards p vs g →
      Guards (p && is_true (number_of i (only_values vs) ss e)) vs (one_test g e)
  one_step p vs g e so = record {
    stand = subst (λ d. Stand i ss (only_values vs) g.names d.kept x.line.registers) (sym came)
        (further i ss start (only_values vs) g.names (line_at g.registers) x.line so.stand f.quiet f.many f.read);
    passing = ap (λ (d : Tested). d.passes) came ∙ ap (λ b. b && is_true w) so.passing;
  } where
    start : Kept
    start = (tested i g.tests ss).kept

    w : ℕ
    w = number_of i (only_values vs) ss e

    x : Topped
    x = parts g.names e (line_at g.registers)

    f : Parted i ss start (line_at g.registers) x w
    f = parted i ss start (only_values vs) g.names e (line_at g.registers) so.stand

    came : tested i (one_test g e).tests ss ≡
        record { kept = read_all i ss start x.line.readings; passes = (tested i g.tests ss).passes && is_true w }
    came = fold-append (tests i ss) untested (g.tests ++ map prepare x.line.readings) (top_test x.top ∷ [])
        ∙ ap (λ d. tests i ss d (top_test x.top)) (tests_more g x.line)
        ∙ asked start x.line (record (tested i g.tests ss) { kept = read_all i ss start x.line.readings }) x.top w refl
        f.top

  -- where two are asked for, both are
  both_asked : (p : Bool) (x y : ℕ) → ((p && is_true x) && is_true y) ≡ (p && is_true (applied And x y))
  both_asked p x y = and_assoc p (is_true x) (is_true y) ∙ ap (λ b. p && b) (sym (true_of (is_true x && is_true y)))

  conjunct_step : (p : Bool) (vs : List ℕ) (g : Guarding) (e : TraceNumber) → Guards p vs g →
      Guards (p && is_true (number_of i (only_values vs) ss e)) vs (conjunct_tests g e)
  conjunct_step p vs g (binary And a b) so = subst (λ q. Guards q vs (conjunct_tests (conjunct_tests g a) b))
      (both_asked p (number_of i (only_values vs) ss a) (number_of i (only_values vs) ss b))
      (conjunct_step (p && is_true (number_of i (only_values vs) ss a)) vs (conjunct_tests g a) b
      (conjunct_step p vs g a so))
  conjunct_step p vs g e so = one_step p vs g e so

  conjuncts_all : (p : Bool) (es : List TraceNumber) (vs : List ℕ) (g : Guarding) → Guards p vs g →
      Guards (p && list_all (holds_at i (only_values vs) ss) es) vs (fold conjunct_tests g es)
  conjuncts_all p [] vs g so = subst (λ b. Guards b vs g) (sym (and-true p)) so
  conjuncts_all p (e ∷ es) vs g so = subst (λ b. Guards b vs (fold conjunct_tests g (e ∷ es)))
      (and_assoc p (is_true (number_of i (only_values vs) ss e)) (list_all (holds_at i (only_values vs) ss) es))
      (conjuncts_all (p && is_true (number_of i (only_values vs) ss e)) es vs (conjunct_tests g e)
      (conjunct_step p vs g e so))

  guarded : (g : Guarded) → Guards (holds i g ss) (values_of i ss g.values) (guarding g)
  guarded g = conjuncts_all true g.conjuncts (values_of i ss g.values) (fold value_tests unguarded g.values)
      (values_all true g.values [] unguarded first) where
        first : Guards true [] unguarded
        first = record {
          stand = record {
            rows = refl;
            many = refl;
            taken = refl;
            same_values = refl;
            same_numbers = refl;
            same_messages = refl;
            read = λ j r at. absurd (cc at);
            value_names = λ u g k. refl;
            number_names = λ u g k. refl;
            message_names = λ u g k. refl;
          };
          passing = refl;
        }

-- tests make no messages
tested_messages : (i : Input) (ss : List State) (ts : List Test) (d : Tested) → (fold (tests i ss) d ts).kept.messages ≡
    d.kept.messages
tested_messages i ss [] d = refl
tested_messages i ss (prepare r ∷ ts) d = tested_messages i ss ts (tests i ss d (prepare r))
tested_messages i ss (require r ∷ ts) d = tested_messages i ss ts (tests i ss d (require r))
tested_messages i ss (require_operand a ∷ ts) d = tested_messages i ss ts (tests i ss d (require_operand a))

no_messages : (i : Input) (ss : List State) (ts : List Test) → length (tested i ts ss).kept.messages ≡ 0
no_messages i ss ts = ap length (tested_messages i ss ts untested)

-- steps
module _ (i : Input) (begin : Trail) where
  made_all : (u : Trail) (here : List State) (rs : List Reading) → u.states ≡ here →
      fold (steps i) u (map make rs) ≡ record u { kept = read_all i here u.kept rs }
  made_all u here [] is = refl
  made_all u here (r ∷ rs) is =
      made_all (with_bound u (reading_of i u.kept u.states r)) here rs is ∙
      ap (λ s. record u { kept = read_all i here (reads i s u.kept r) rs }) is

  abbrev pub ran : Sheet → Trail
  ran s = fold (steps i) begin s.steps

  -- a trail that has what the trace's has, under these names
  pub record Agrees (t : Trail) (n : Names) (known : Registers) (messages : ℕ) (u : Trail) : Type 0 where
    pub stand : Stand i t.states t.kept n u.kept known
    pub many : length u.kept.messages ≡ messages
    pub states : u.states ≡ t.states
    pub outs : u.outs ≡ t.outs

  abbrev pub Written : Trail → Sheet → Type 0
  Written t s = Agrees t s.names s.registers s.messages (ran s)

  -- the trail at a line of readings
  abbrev lined : Trail → Sheet → Line → Trail
  lined t s l = record (ran s) { kept = read_all i t.states (ran s).kept l.readings }

  ran_makes : (t : Trail) (s : Sheet) (l : Line) → Written t s → ran (makes s l) ≡ lined t s l
  ran_makes t s l a = fold-append (steps i) begin s.steps (map make l.readings) ∙
      made_all (ran s) t.states l.readings a.states

  agrees_lined : (t : Trail) (s : Sheet) (l : Line) → Written t s →
      Quiet i t.states (ran s).kept (ran s).kept (read_all i t.states (ran s).kept l.readings) →
      length (read_all i t.states (ran s).kept l.readings).numbers ≡ made_count l.registers →
      Known i t.states (read_all i t.states (ran s).kept l.readings) l.registers →
      Agrees t s.names l.registers s.messages (lined t s l)
  agrees_lined t s l a q many read = record {
    stand = further i t.states (ran s).kept t.kept s.names (sheet_line s) l a.stand q many read;
    many = ap length q.messages ∙ a.many;
    states = a.states;
    outs = a.outs;
  }

  makes_written : (t : Trail) (s : Sheet) (l : Line) → Written t s →
      Quiet i t.states (ran s).kept (ran s).kept (read_all i t.states (ran s).kept l.readings) →
      length (read_all i t.states (ran s).kept l.readings).numbers ≡ made_count l.registers →
      Known i t.states (read_all i t.states (ran s).kept l.readings) l.registers → Written t (makes s l)
  makes_written t s l a q many read = subst (Agrees t s.names l.registers s.messages) (sym (ran_makes t s l a))
      (agrees_lined t s l a q many read)

  -- a message that is made
  record Places (t : Trail) (s : Sheet) (x : Placed) (w : Content) : Type 0 where
    written : Written t x.sheet
    later : Later (ran s).kept (ran x.sheet).kept
    worth : (u : Kept) → Later (ran x.sheet).kept u → source_at i u x.at ≡ w

  keeps : (t : Trail) (s : Sheet) (m : Making) (w : Content) → Written t s → making_of i (ran s).kept t.states m ≡ w →
      Places t s (keeps_message s m) w
  keeps t s m w a is = record {
    written = subst (Agrees t s.names s.registers (suc s.messages)) (sym came) (record {
      stand = record {
        rows = a.stand.rows;
        many = a.stand.many;
        taken = a.stand.taken;
        read = known_later i t.states k k' s.registers grown a.stand.read;
        same_values = a.stand.same_values;
        same_numbers = a.stand.same_numbers;
        same_messages = a.stand.same_messages;
        value_names = λ u g. a.stand.value_names u (later_then k k' u grown g);
        number_names = λ u g. a.stand.number_names u (later_then k k' u grown g);
        message_names = λ u g. a.stand.message_names u (later_then k k' u grown g);
      };
      many = length-append k.messages _ ∙
          (let e = a.many in let r : length k.messages + 1 ≡ suc s.messages = omega (arith, e) in r);
      states = a.states;
      outs = a.outs;
    });
    later = subst (λ (u : Trail). Later k u.kept) (sym came) grown;
    worth = λ u g. newest u (subst (λ (v : Trail). Later v.kept u) came g).messages;
  } where
    k : Kept
    k = (ran s).kept

    v : Content
    v = making_of i k (ran s).states m

    k' : Kept
    k' = record k { messages = k.messages ++ v ∷ [] }

    came : ran (keeps_message s m).sheet ≡ with_noted (ran s) v
    came = fold-append (steps i) begin s.steps (keep m ∷ [])

    grown : Later k k'
    grown = record { numbers = grown_same k.numbers; messages = grown_one k.messages v; rows = grown_same k.rows }

    newest : (u : Kept) → Grown (k.messages ++ v ∷ []) u.messages → slice_index_or u.messages s.messages (plain []) ≡ w
    newest u g = ap (λ xs. slice_index_or xs s.messages (plain [])) (g.1 ∙ append_assoc k.messages (v ∷ []) g.0)
        ∙ get_or_at k.messages v g.0 (plain []) s.messages a.many ∙ ap (λ here. making_of i k here m) a.states ∙ is

  -- a message that is made of operands after readings
  keeps_after : (t : Trail) (s : Sheet) (l : Line) (m : Making) (w : Content) → Written t s →
      Quiet i t.states (ran s).kept (ran s).kept (read_all i t.states (ran s).kept l.readings) →
      length (read_all i t.states (ran s).kept l.readings).numbers ≡ made_count l.registers →
      Known i t.states (read_all i t.states (ran s).kept l.readings) l.registers →
      making_of i (read_all i t.states (ran s).kept l.readings) t.states m ≡ w →
      Places t s (keeps_message (makes s l) m) w
  keeps_after t s l m w a q many read is =
      let p = keeps t (makes s l) m w (makes_written t s l a q many read)
      (ap (λ (u : Trail). making_of i u.kept t.states m) (ran_makes t s l a) ∙ is) in
      record {
        written = p.written;
        later = later_then (ran s).kept (ran (makes s l)).kept _
            (subst (λ (u : Trail). Later (ran s).kept u.kept) (sym (ran_makes t s l a))
            (quiet_later i t.states (ran s).kept (ran s).kept _ q)) p.later;
        worth = p.worth;
      }

  core_placed : (t : Trail) (c : Core) (s : Sheet) → Written t s → Places t s (placed_core c s) (core_at i t.kept c)
  core_placed t body s a = record { written = a; later = later_same (ran s).kept; worth = λ u g. refl }
  core_placed t (noted k) s a =
      record { written = a; later = later_same (ran s).kept; worth = λ u g. a.stand.message_names u g k }
  core_placed t (taken_message r carried) s a = keeps t s (code.taken_message r carried) _ a
      (ap (λ rs. message_in carried (slice_index_or rs r None)) a.stand.rows)
  core_placed t nothing s a = record { written = a; later = later_same (ran s).kept; worth = λ u g. refl }

  placed_same : (t : Trail) (m : TraceMessage) (s : Sheet) → Written t s →
      Places t s (placed_message m s) (message_of i t.kept t.states m)
  placed_same t (core c) s a = core_placed t c s a
  placed_same t (held p c e r carried) s a =
      let start = (ran s).kept in let l = sheet_line s in
      let x = straight s.names e l in let f = spotted i t.states start t.kept s.names e l a.stand in
      let y = straight s.names r x.line in let g =
      spotted i t.states start t.kept s.names r x.line (after i t.states start t.kept s.names l x _ a.stand f) in
      let last = read_all i t.states start y.line.readings in
      let q = quiet_then i t.states start start (read_all i t.states start x.line.readings) last f.quiet g.quiet in
      keeps_after t s y.line (code.held p c x.at y.at carried) _ a q g.many g.read
      (ap₂ (λ j k. message_in carried (row_at (state_of t.states p) c j k))
      (f.worth last (quiet_later i t.states start _ last g.quiet))
      (g.worth last (later_same last)))
  placed_same t (cut m e k) s a =
      let b = placed_message m s in let pb = placed_same t m s a in let start = (ran b.sheet).kept in let l =
      sheet_line b.sheet in let n = b.sheet.names in
      let x = straight n e l in let f = spotted i t.states start t.kept n e l pb.written.stand in
      let y = straight n k x.line in let g =
      spotted i t.states start t.kept n k x.line (after i t.states start t.kept n l x _ pb.written.stand f) in
      let last = read_all i t.states start y.line.readings in
      let q = quiet_then i t.states start start (read_all i t.states start x.line.readings) last f.quiet g.quiet in
      let em = pb.worth last (quiet_later i t.states start start last q) in
      let ex = f.worth last (quiet_later i t.states start _ last g.quiet) in let ey = g.worth last (later_same last) in
      let p = keeps_after t b.sheet y.line (code.cut b.at x.at y.at) _ pb.written q g.many g.read
      (λ z. message_parts.cut (em z) (ex z) (ey z)) in
      record {
        written = p.written;
        later = later_then (ran s).kept (ran b.sheet).kept _ pb.later p.later;
        worth =
            p.worth;
      }
  placed_same t (tail m e) s a =
      let b = placed_message m s in let pb = placed_same t m s a in let start = (ran b.sheet).kept in let l =
      sheet_line b.sheet in let n = b.sheet.names in
      let x = straight n e l in let f = spotted i t.states start t.kept n e l pb.written.stand in
      let last = read_all i t.states start x.line.readings in
      let em = pb.worth last (quiet_later i t.states start start last f.quiet) in
      let ex = f.worth last (later_same last) in
      let p = keeps_after t b.sheet x.line (code.tail b.at x.at) _ pb.written f.quiet f.many f.read
      (ap₂ message_parts.tail em ex) in
      record {
        written = p.written;
        later = later_then (ran s).kept (ran b.sheet).kept _ pb.later p.later;
        worth =
            p.worth;
      }
  placed_same t (join m w) s a =
      let b = placed_message m s in let pb = placed_same t m s a in
      let d = placed_message w b.sheet in let pd = placed_same t w b.sheet pb.written in
      let p = keeps t d.sheet (code.join b.at d.at) _ pd.written
      (ap₂ message_parts.join
      (pb.worth (ran d.sheet).kept pd.later) (pd.worth (ran d.sheet).kept (later_same (ran d.sheet).kept))) in
      record {
        written = p.written;
        worth = p.worth;
        later = later_then (ran s).kept (ran b.sheet).kept _ pb.later
            (later_then (ran b.sheet).kept (ran d.sheet).kept _ pd.later p.later);
      }

  -- what is known after a change of states
  abbrev forgotten : Registers → Registers
  forgotten r = record { first = made_count r; readings = [] }

  forgets : (t : Trail) (s : Sheet) (there : List State) → Written t s →
      Stand i there t.kept s.names (ran s).kept (forgotten s.registers)
  forgets t s there a = record {
    rows = a.stand.rows;
    many = a.stand.many ∙ (let n = made_count s.registers in let e : n ≡ n + 0 = omega arith in e);
    read = λ j r at. absurd (cc at);
    taken = a.stand.taken;
    same_values = a.stand.same_values;
    same_numbers = a.stand.same_numbers;
    same_messages = a.stand.same_messages;
    value_names = a.stand.value_names;
    number_names = a.stand.number_names;
    message_names = a.stand.message_names;
  }

  -- a message that is sent
  record Sends (t : Trail) (s : Sheet) (x : Sending) (w : Option Content) : Type 0 where
    written : Written t x.sheet
    later : Later (ran s).kept (ran x.sheet).kept
    sent : option_map (sent_at i (ran x.sheet).kept) x.sent ≡ w

  sending_same : (t : Trail) (m : Option Chained) (s : Sheet) → Written t s →
      Sends t s (sending m s) (option_map (content_at i t.kept) m)
  sending_same t None s a = record { written = a; later = later_same (ran s).kept; sent = refl }
  sending_same t (Some m) s a =
      let b = placed_core m.core s in let pb = core_placed t m.core s a in let k = (ran b.sheet).kept in
      let el = links_same i t.states k t.kept s.names m.chain (ran s).kept s.registers a.stand k pb.later in
      let ew = pb.worth k (later_same k) in
      record {
        written = pb.written;
        later = pb.later;
        sent = λ z.
            Some (record { headers = el z ++ (ew z).headers; body = (ew z).body });
      }

  -- a step that changes states
  effect : (t : Trail) (s : Sheet) (step : Step) (there : List State) (outs : List (Dir × Event)) → Written t s →
      steps i (ran s) step ≡ record (ran s) { states = there; outs = outs } →
      Written (record t { states = there; outs = outs }) (changes s step)
  effect t s step there outs a is =
      subst (Agrees (record t { states = there; outs = outs }) s.names (forgotten s.registers) s.messages)
      (sym (fold-append (steps i) begin s.steps (step ∷ []) ∙ is))
      (record { stand = forgets t s there a; many = a.many; states = refl; outs = refl })

  -- and one that puts out
  puts : (t : Trail) (s : Sheet) (step : Step) (outs : List (Dir × Event)) → Written t s →
      steps i (ran s) step ≡ record (ran s) { states = t.states; outs = outs } →
      Written (record t { outs = outs }) (adds s step)
  puts t s step outs a is = subst (Agrees (record t { outs = outs }) s.names s.registers s.messages)
      (sym (fold-append (steps i) begin s.steps (step ∷ []) ∙ is))
      (record { stand = a.stand; many = a.many; states = refl; outs = refl })

  -- operands that are made of numbers, after a sheet
  record Operands (t : Trail) (s : Sheet) (x : Spots) (ws : List ℕ) : Type 0 where
    written : Written t (makes s x.line)
    worth : (u : Kept) → Later (ran (makes s x.line)).kept u → map (operand_at i u) x.at ≡ ws

  operands_made : (t : Trail) (s : Sheet) (es : List TraceNumber) → Written t s →
      Operands t s (all_straight s.names es (sheet_line s)) (map (number_of i t.kept t.states) es)
  operands_made t s es a = record {
    written = makes_written t s x.line a f.quiet f.many f.read;
    worth = λ u g. f.worth u (subst (λ (v : Trail). Later v.kept u) (ran_makes t s x.line a) g);
  } where
    x : Spots
    x = all_straight s.names es (sheet_line s)

    f : SpotsAre i t.states (ran s).kept t.kept s.names (sheet_line s) x (map (number_of i t.kept t.states) es)
    f = all_spotted i t.states (ran s).kept t.kept s.names es (sheet_line s) a.stand

  -- what a step is given: numbers, and a message
  pub record Given (t : Trail) (z : Sending) (xs : List Operand) (ns : List ℕ) (w : Option Content) : Type 0 where
    pub written : Written t z.sheet
    pub numbers : map (operand_at i (ran z.sheet).kept) xs ≡ ns
    pub message : option_map (sent_at i (ran z.sheet).kept) z.sent ≡ w

  -- a change: its index, values and numbers are made before its message
  pub given_change : (t : Trail) (s : Sheet) (es : List TraceNumber) (m : Option Chained) → Written t s →
      Given t (sending m (makes s (all_straight s.names es (sheet_line s)).line))
      (all_straight s.names es (sheet_line s)).at
      (map (number_of i t.kept t.states) es) (option_map (content_at i t.kept) m)
  given_change t s es m a =
      let z = makes s (all_straight s.names es (sheet_line s)).line in let f = operands_made t s es a in let d =
      sending_same t m z f.written in
      record { written = d.written; numbers = f.worth (ran (sending m z).sheet).kept d.later; message = d.sent }

  -- an output: its numbers are atoms
  pub given_output : (t : Trail) (s : Sheet) (ns : List Atom) (m : Option Chained) → Written t s →
      Given t (sending m s) (map (operand_for s.names) ns) (map (atom_at i t.kept) ns)
      (option_map (content_at i t.kept) m)
  given_output t s ns m a = let d = sending_same t m s a in record {
    written = d.written;
    numbers = atoms_same i t.states (ran (sending m s).sheet).kept t.kept s.names ns (ran s).kept s.registers a.stand
        (ran (sending m s).sheet).kept d.later;
    message = d.sent;
  }

  pub writes_same : (t : Trail) (s : Sheet) (o : Operation) → Written t s → Written (does i t o) (writes s o)
  writes_same t s (bind e) a = record {
    stand = record {
      rows = b.stand.rows;
      many = b.stand.many;
      read = b.stand.read;
      taken = b.stand.taken;
      same_values = b.stand.same_values;
      same_messages = b.stand.same_messages;
      same_numbers = one_longer s.names.numbers t.kept.numbers x.at w b.stand.same_numbers;
      value_names = b.stand.value_names;
      message_names = b.stand.message_names;
      number_names = λ u g. more_names (operand_at i u) s.names.numbers t.kept.numbers x.at zero_operand w 0
          b.stand.same_numbers refl
          (b.stand.number_names u g) (ap (λ ns. slice_index ns 0) (f.worth u g));
    };
    many = b.many;
    states = b.states;
    outs = b.outs;
  } where
    x : Spot
    x = straight s.names e (sheet_line s)

    w : ℕ
    w = number_of i t.kept t.states e

    f : Operands t s (all_straight s.names (e ∷ []) (sheet_line s)) (w ∷ [])
    f = operands_made t s (e ∷ []) a

    b : Written t (makes s x.line)
    b = f.written
  writes_same t s (note m) a = record {
    stand = record {
      rows = b.stand.rows;
      many = b.stand.many;
      read = b.stand.read;
      taken = b.stand.taken;
      same_values = b.stand.same_values;
      same_numbers = b.stand.same_numbers;
      same_messages = one_longer x.sheet.names.messages t.kept.messages x.at w b.stand.same_messages;
      value_names = b.stand.value_names;
      number_names = b.stand.number_names;
      message_names = λ u g. more_names (source_at i u) x.sheet.names.messages t.kept.messages x.at code.nothing w
          (plain []) b.stand.same_messages refl
          (b.stand.message_names u g) (p.worth u g);
    };
    many = b.many;
    states = b.states;
    outs = b.outs;
  } where
    x : Placed
    x = placed_message m s

    w : Content
    w = message_of i t.kept t.states m

    p : Places t s x w
    p = placed_same t m s a

    b : Written t x.sheet
    b = p.written
  writes_same t s (check e) a = a
  writes_same t s (set p c e v) a =
      let x = straight s.names e (sheet_line s) in let y = straight s.names v x.line in let z = makes s y.line in
      let f = given_change t s (e ∷ v ∷ []) None a in let b = f.written in let is = f.numbers in
      effect t z (code.set p c x.at y.at) _ _ b
      (λ j. record (ran z) {
        states = slice_set (b.states j) p
            (with_number (state_of (b.states j) p) c (slice_index (is j) 0) (slice_index (is j) 1));
        outs = b.outs j;
      })
  writes_same t s (set_square p c r k v) a =
      let x = straight s.names r (sheet_line s) in let y = straight s.names k x.line in let q =
      straight s.names v y.line in let z = makes s q.line in
      let f = given_change t s (r ∷ k ∷ v ∷ []) None a in let b = f.written in let is = f.numbers in
      effect t z (code.set_square p c x.at y.at q.at) _ _ b
      (λ j. record (ran z) {
        states = slice_set (b.states j) p
            (with_number (state_of (b.states j) p) c (flat_index i.count (slice_index (is j) 0) (slice_index (is j) 1))
            (slice_index (is j) 2));
        outs = b.outs j;
      })
  writes_same t s (push p c e numbers m) a =
      let x = straight s.names e (sheet_line s) in let y = all_straight s.names numbers x.line in let z =
      sending m (makes s y.line) in
      let f = given_change t s (e ∷ numbers) m a in let b = f.written in let is = f.numbers in let em = f.message in
      effect t z.sheet (code.push p c x.at y.at z.sent) _ _ b
      (λ j. record (ran z.sheet) {
        states = slice_set (b.states j) p
            (with_row (state_of (b.states j) p) c (slice_index (is j) 0)
            (record { numbers = drop 1 (is j); message = em j }));
        outs = b.outs j;
      })
  writes_same t s (take p c e) a = subst (Agrees (does i t (take p c e)) n' (forgotten z.registers) s.messages)
      (sym came) (record {
        stand = record {
          rows = ap₂ (λ xs y. xs ++ y ∷ []) b.stand.rows row_is;
          many = b.stand.many ∙ (let n = made_count z.registers in let e : n ≡ n + 0 = omega arith in e);
          read = λ j r at. absurd (cc at);
          taken = ap suc b.stand.taken ∙ (let one = length-append t.kept.rows (row ∷ []) in
              let r : suc (length t.kept.rows) ≡ length (t.kept.rows ++ row ∷ []) = omega (arith, one) in r);
          same_values = b.stand.same_values;
          same_numbers = b.stand.same_numbers;
          same_messages = b.stand.same_messages;
          value_names = λ u g. b.stand.value_names u (later_then k k' u grown g);
          number_names = λ u g. b.stand.number_names u (later_then k k' u grown g);
          message_names = λ u g. b.stand.message_names u (later_then k k' u grown g);
        };
        many = b.many;
        states = λ j. slice_set (b.states j) p (without_front (state_of (b.states j) p) c (ex j));
        outs = b.outs;
      }) where
        x : Spot
        x = straight s.names e (sheet_line s)

        n' : Names
        n' = record s.names { rows = suc s.names.rows }

        z : Sheet
        z = makes s x.line

        f : Given t (record { sheet = z; sent = None }) (x.at ∷ []) (number_of i t.kept t.states e ∷ []) None
        f = given_change t s (e ∷ []) None a

        b : Written t z
        b = f.written

        k : Kept
        k = (ran z).kept

        row : Option Row
        row = row_at (state_of t.states p) c (number_of i t.kept t.states e) 0

        taken_row : Option Row
        taken_row = row_at (state_of (ran z).states p) c (operand_at i k x.at) 0

        k' : Kept
        k' = record k { rows = k.rows ++ taken_row ∷ [] }

        grown : Later k k'
        grown = record {
          numbers = grown_same k.numbers;
          messages = grown_same k.messages;
          rows =
              grown_one k.rows taken_row;
        }

        ex : operand_at i k x.at ≡ number_of i t.kept t.states e
        ex = ap (λ ns. slice_index ns 0) f.numbers

        row_is : taken_row ≡ row
        row_is = λ j. row_at (state_of (b.states j) p) c (ex j) 0

        came : ran (changes z (code.take p c x.at)) ≡ steps i (ran z) (code.take p c x.at)
        came = fold-append (steps i) begin z.steps (code.take p c x.at ∷ [])
  writes_same t s (output dir kind numbers m) a =
      let z = sending m s in let f = given_output t s numbers m a in let b = f.written in let is = f.numbers in let em =
      f.message in
      puts t z.sheet (code.output dir kind (map (operand_for s.names) numbers) z.sent) _ b
      (λ j. record (ran z.sheet) { states = b.states j; outs = b.outs j ++ (dir, event_of kind (is j) (em j)) ∷ [] })

  writes_all : (os : List Operation) (t : Trail) (s : Sheet) → Written t s →
      Written (fold (does i) t os) (fold writes s os)
  writes_all [] t s a = a
  writes_all (o ∷ os) t s a = writes_all os (does i t o) (writes s o) (writes_same t s o a)

-- the sheet is begun where the tests stand
pub begins_written : (g : Guarded) (i : Input) (ss : List State) →
    Written i (begun ss (tested i (code_of g).tests ss)) (before ss) (first_sheet (guarding g))
begins_written g i ss = let s = (guarded i ss g).stand in record {
  stand = record {
    rows = s.rows;
    many = s.many;
    read = s.read;
    taken = refl;
    same_values = refl;
    same_numbers = refl;
    same_messages = refl;
    value_names = λ u g k. refl;
    number_names = λ u g k. refl;
    message_names = λ u g k. refl;
  };
  many = no_messages i ss (code_of g).tests;
  states = refl;
  outs = refl;
}

pub code_is_same : CodeIsSame
code_is_same g i ss = chosen_end tried.passes (holds i g ss) (fold (steps i) (begun ss tried) (code_of g).steps)
    (perform i g.operations ss)
    (guarded i ss g).passing (ap₂ (λ states outs. record { states = states; outs = outs }) done.states done.outs) where
      tried : Tested
      tried = tested i (code_of g).tests ss

      done : Written i (begun ss tried) (perform i g.operations ss)
          (fold writes (first_sheet (guarding g)) g.operations)
      done = writes_all i (begun ss tried) g.operations (before ss) (first_sheet (guarding g)) (begins_written g i ss)
