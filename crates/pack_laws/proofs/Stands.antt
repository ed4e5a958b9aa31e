-- While a trace is followed, values are worth what its expressions are, now and later.
use Rattle.std.proofs.Common.{◌≡◌, ℕ, suc, ◌+◌, ◌<◌, ◌≤◌, ◌==◌, nat_lt, Bool, true, false, ◌&&◌, if◌then◌else◌, List}
use Rattle.std.proofs.Common.{[], ◌∷◌, ◌++◌, map, length, slice_get, slice_index, slice_index_or, Option, Some, None}
use Rattle.std.proofs.Common.{option_map, refl, sym, ap, ap₂, ◌∙◌, arith, zero-le}
use Rattle.std.proofs.lemmas.Bool.{eqb-true, eq-eqb, ltb-true, ltb-false}
use Rattle.std.proofs.lemmas.List.{length-append, get_or_past, get_or_append_left, map-append}
use Rattle.std.proofs.Math.ListN.{get_or-map}
use Rattle.msg_core.specs.Chain.{plain}
use Rattle.msg_core.specs.Parts as parts
use Rattle.layer_mean.specs.declared.run.Row.{Row}
use Rattle.layer_mean.specs.State.{State, Contents, numbers_in, flat_index}
use Rattle.layer_mean.specs.Value.{is_true, applied, function_of, number_in, message_in}
use Rattle.trace_mean.specs.Trace as trace
use Rattle.trace_mean.specs.Trace.{Atom, bound, Core, noted, TraceNumber, atom, TraceMessage, core, Link, Chained}
use Rattle.trace_mean.specs.Worth.{Input, Kept, atom_at, core_at, number_of, message_of, header_at, content_at}
use Rattle.guard_mean.specs.Hoist.{is_here}
use Rattle.guard_laws.proofs.States.{is_there, cell_in, celled, cell_after, here}
use Rattle.symbol_mean.specs.Value.{Seen, number, nothing}
use Rattle.symbol_mean.specs.Symbolic.{Values, writes_to, cell_seen, taken_row, atom_value, core_value, number_value}
use Rattle.symbol_mean.specs.Symbolic.{message_value, link_value, chained_value, with_bound, with_noted, with_taken}
use Rattle.symbol_mean.specs.Symbolic.{with_written}
use Rattle.pack_laws.proofs.Course.{Past, row_in, rows_of, worth, content, header_of, sent_of, holding}

-- what is so of all that was written and taken stays so
pub record Later (written : List (ℕ × ℕ)) (taken : ℕ) (h u : Past) : Type 0 where
  pub cells : (x : Seen) → x.writes ≤ writes_to written x.place x.cell → u.cells x ≡ h.cells x
  pub rows : (k : ℕ) → k < taken → slice_index_or u.rows k None ≡ slice_index_or h.rows k None

abbrev pub past : Kept → (Seen → Contents) → Past
past k f = record { cells = f; rows = k.rows }

pub later_same : (written : List (ℕ × ℕ)) (taken : ℕ) (h : Past) → Later written taken h h
later_same written taken h = record { cells = λ x less. refl; rows = λ k less. refl }

-- values stand for what a trace has kept, by what cells held
pub record Stands (i : Input) (v : Values) (k : Kept) (ss : List State) (f : Seen → Contents) : Type 0 where
  pub values : k.values ≡ []
  pub taken : v.takes ≡ length k.rows
  pub now : (p c : ℕ) → f (cell_seen v p c) ≡ cell_in ss p c
  pub numbers : (u : Past) → Later v.written v.takes (past k f) u → map (worth i u) v.numbers ≡ k.numbers
  pub messages : (u : Past) → Later v.written v.takes (past k f) u → map (content i u) v.messages ≡ k.messages

module _ (i : Input) (v : Values) (k : Kept) (ss : List State) (f : Seen → Contents) (stands : Stands i v k ss f) where
  -- what expressions are worth
  module _ (u : Past) (later : Later v.written v.takes (past k f) u) where
    cell_is : (p c : ℕ) → u.cells (cell_seen v p c) ≡ cell_in ss p c
    cell_is p c = later.cells (cell_seen v p c) (omega arith) ∙ stands.now p c

    row_is : (row : ℕ) → row_in u (taken_row v row) ≡ slice_index_or k.rows row None
    row_is row = go (nat_lt row v.takes) refl where
      go : (b : Bool) → nat_lt row v.takes ≡ b → row_in u (if b then Some row else None) ≡
          slice_index_or k.rows row None
      go true is = later.rows row (ltb-true row v.takes is)
      go false is = let past = ltb-false row v.takes is in let many = stands.taken in
          sym (get_or_past k.rows row None (omega (arith, past, many)))

    pub atom_is : (a : Atom) → worth i u (atom_value v a) ≡ atom_at i k a
    atom_is (trace.number n) = refl
    atom_is trace.peer = refl
    atom_is (trace.field n) = refl
    atom_is (bound n) = sym (get_or-map (worth i u) v.numbers n (number 0)) ∙
        ap (λ xs. slice_index xs n) (stands.numbers u later)
    atom_is (trace.taken_number row n) = ap (number_in n) (row_is row)
    atom_is (trace.value n) = sym (get_or_past [] n 0 zero-le) ∙ ap (λ xs. slice_index xs n) (sym stands.values)

    core_is : (c : Core) → content i u (core_value v c) ≡ core_at i k c
    core_is trace.body = refl
    core_is (noted n) = sym (get_or-map (content i u) v.messages n nothing) ∙
        ap (λ xs. slice_index_or xs n (plain [])) (stands.messages u later)
    core_is (trace.taken_message row carried) = ap (message_in carried) (row_is row)
    core_is trace.nothing = refl

    mutual
      pub number_is : (e : TraceNumber) → worth i u (number_value v e) ≡ number_of i k ss e
      number_is (atom a) = atom_is a
      number_is trace.me = refl
      number_is trace.count = refl
      number_is trace.ltime = refl
      number_is (trace.element p c e) = λ z. slice_index (numbers_in (cell_is p c z)) (number_is e z)
      number_is (trace.square p c r j) = λ z.
          slice_index (numbers_in (cell_is p c z)) (flat_index i.count (number_is r z) (number_is j z))
      number_is (trace.rows p c e) = λ z. length (rows_of (cell_is p c z) (number_is e z))
      number_is (trace.item p c e r n) = λ z. number_in
          n (slice_get (rows_of (cell_is p c z) (number_is e z)) (number_is r z))
      number_is (trace.size m) = λ z. length (message_is m z).body
      number_is (trace.binary o a b) = λ z. applied o (number_is a z) (number_is b z)
      number_is (trace.apply g a) = λ z. function_of g (number_is a z)
      number_is (trace.pick c a b) = λ z. if is_true (number_is c z) then number_is a z else number_is b z

      pub message_is : (m : TraceMessage) → content i u (message_value v m) ≡ message_of i k ss m
      message_is (core c) = core_is c
      message_is (trace.held p c e r carried) = λ z. message_in
          carried (slice_get (rows_of (cell_is p c z) (number_is e z)) (number_is r z))
      message_is (trace.cut m a n) = λ z. parts.cut (message_is m z) (number_is a z) (number_is n z)
      message_is (trace.tail m a) = λ z. parts.tail (message_is m z) (number_is a z)
      message_is (trace.join a b) = λ z. parts.join (message_is a z) (message_is b z)

    pub numbers_are : (es : List TraceNumber) → map (worth i u) (map (number_value v) es) ≡ map (number_of i k ss) es
    numbers_are [] = refl
    numbers_are (e ∷ es) = λ z. number_is e z ∷ numbers_are es z

    pub atoms_are : (xs : List Atom) → map (worth i u) (map (atom_value v) xs) ≡ map (atom_at i k) xs
    atoms_are [] = refl
    atoms_are (a ∷ xs) = λ z. atom_is a z ∷ atoms_are xs z

    chain_is : (ls : List Link) → map (header_of i u) (map (link_value v) ls) ≡ map (header_at i k) ls
    chain_is [] = refl
    chain_is (l ∷ ls) = λ z. record { layer = l.place; tag = l.tag; fields = atoms_are l.fields z } ∷ chain_is ls z

    pub sent_is : (m : Option Chained) → option_map (sent_of i u) (option_map (chained_value v) m) ≡
        option_map (content_at i k) m
    sent_is None = refl
    sent_is (Some m) = λ z.
        Some (record { headers = chain_is m.chain z ++ (core_is m.core z).headers; body = (core_is m.core z).body })

  -- operations that keep something
  pub stands_bound : (e : TraceNumber) →
      Stands i (with_bound v (number_value v e)) (record k { numbers = k.numbers ++ number_of i k ss e ∷ [] }) ss f
  stands_bound e = record {
    values = stands.values;
    taken = stands.taken;
    now = stands.now;
    numbers = λ u later. map-append (worth i u) v.numbers (number_value v e ∷ []) ∙
        (λ z. stands.numbers u later z ++ number_is u later e z ∷ []);
    messages = stands.messages;
  }

  pub stands_noted : (m : TraceMessage) →
      Stands i (with_noted v (message_value v m)) (record k { messages = k.messages ++ message_of i k ss m ∷ [] }) ss f
  stands_noted m = record {
    values = stands.values;
    taken = stands.taken;
    now = stands.now;
    numbers = stands.numbers;
    messages = λ u later. map-append (content i u) v.messages (message_value v m ∷ []) ∙
        (λ z. stands.messages u later z ++ message_is u later m z ∷ []);
  }

  pub stands_taken : (row : Option Row) → Stands i (with_taken v) (record k { rows = k.rows ++ row ∷ [] }) ss f
  stands_taken row = record {
    values = stands.values;
    taken = ap (λ n. n + 1) stands.taken ∙ sym (length-append k.rows (row ∷ []));
    now = stands.now;
    numbers = λ u later. stands.numbers u (before u later);
    messages = λ u later. stands.messages u (before u later);
  } where
    before : (u : Past) → Later v.written (v.takes + 1) (record { cells = f; rows = k.rows ++ row ∷ [] }) u →
        Later v.written v.takes (past k f) u
    before u later = record {
      cells = later.cells;
      rows = λ n less. later.rows n (omega (arith, less))
          ∙ get_or_append_left k.rows (row ∷ []) None n (let many = stands.taken in omega (arith, less, many));
    }

  -- and one that writes
  module _ (p c : ℕ) (held : Contents) where
    abbrev changed : List State
    changed = celled ss p c held

    abbrev cells : Seen → Contents
    cells = holding f p c (suc (writes_to v.written p c)) (cell_in changed p c)

    now_is : (q d : ℕ) → cells (cell_seen (with_written v p c) q d) ≡ cell_in changed q d
    now_is q d = go (is_here q d p c) refl where
      go : (b : Bool) → is_here q d p c ≡ b →
          cells (record {
            place = q;
            cell = d;
            writes = if b then suc (writes_to v.written q d) else writes_to v.written
                q d;
          }) ≡ cell_in changed q d
      go true is = let at = here q d p c is in
          (λ z. if (suc (writes_to v.written (at.0 z) (at.1 z)) == suc (writes_to v.written p c)) && is z
          then cell_in changed p c else f (record { place = q; cell = d; writes = suc (writes_to v.written q d) }))
          ∙ ap (λ b. if b && true then cell_in
          changed p c else f (record { place = q; cell = d; writes = suc (writes_to v.written q d) }))
          (eq-eqb (suc (writes_to v.written p c)) (suc (writes_to v.written p c)) refl)
          ∙ (λ z. cell_in changed (sym at.0 z) (sym at.1 z))
      go false is = no (writes_to v.written q d == suc (writes_to v.written p c)) ∙ stands.now q d
          ∙ sym (cell_after ss p c held q d ∙ ap (λ b. if b && is_there ss p c then held else cell_in ss q d) is) where
            no : (b : Bool) → (if b && is_here q d p c then cell_in changed p c else f (cell_seen v q d)) ≡
                f (cell_seen v q d)
            no true = ap (λ b. if b then cell_in changed p c else f (cell_seen v q d)) is
            no false = refl

    -- what was held before isn't lost
    kept_is : (x : Seen) → x.writes ≤ writes_to v.written x.place x.cell → cells x ≡ f x
    kept_is x less = go (x.writes == suc (writes_to v.written p c)) (is_here x.place x.cell p c) refl refl where
      go : (a b : Bool) → (x.writes == suc (writes_to v.written p c)) ≡ a → is_here x.place x.cell p c ≡ b →
          (if a && b then cell_in changed p c else f x) ≡ f x
      go true true last same = let at = here x.place x.cell p c same in
          let many = eqb-true x.writes (suc (writes_to v.written p c)) last in
          let as_many = ap₂ (λ q d. writes_to v.written q d) at.0 at.1 in absurd (omega (arith, less, many, as_many))
      go true false last same = refl
      go false b last same = refl

    more : (q d : ℕ) → writes_to v.written q d ≤ writes_to ((p, c) ∷ v.written) q d
    more q d = go (is_here q d p c) where
      go : (b : Bool) → writes_to v.written q d ≤ (if b then suc (writes_to v.written q d) else writes_to v.written q d)
      go true = omega arith
      go false = omega arith

    before_write : (u : Past) → Later ((p, c) ∷ v.written) v.takes (past k cells) u →
        Later v.written v.takes (past k f) u
    before_write u later = record {
      cells = λ x less. later.cells x (let rise = more x.place x.cell in omega (arith, less, rise)) ∙ kept_is x less;
      rows = later.rows;
    }

    pub stands_written : Stands i (with_written v p c) k changed cells
    stands_written = record {
      values = stands.values;
      taken = stands.taken;
      now = now_is;
      numbers = λ u later. stands.numbers u (before_write u later);
      messages = λ u later. stands.messages u (before_write u later);
    }
