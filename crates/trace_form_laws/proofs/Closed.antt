-- Traces are closed.
use Rattle.std.proofs.Common.{◌≡◌, ℕ, zero, suc, ◌+◌, ◌-◌, ◌≤◌, ◌<◌, Bool, true, false, List, [], ◌∷◌, ◌++◌, map}
use Rattle.std.proofs.Common.{length, take, Option, Some, None, option_map, option_to_list, slice_set, refl, sym, ap}
use Rattle.std.proofs.Common.{◌∙◌, subst, arith}
use Rattle.std.specs.Prelude.{if◌then◌else◌, ◌==◌, slice_index, Ok, Err}
use Rattle.std.specs.List.{fold, AllByRecursion}
use Rattle.std.specs.Option.{option_map_or}
use Rattle.std.proofs.lemmas.List.{length-append}
use Rattle.std.proofs.lemmas.List.Sums.{fold-append}
use Rattle.layer_words.specs.declared.events.Dir.{Dir}
use Rattle.layer_words.specs.declared.events.Dir.TheVariants.{Up, Down}
use Rattle.layer_words.specs.declared.events.Kind.{Kind}
use Rattle.layer_words.specs.declared.events.Kind.TheVariants as kind
use Rattle.layer_words.specs.declared.operators.Operator.TheVariants.{Less}
use Rattle.layer_mean.specs.declared.run.Case.{Case}
use Rattle.layer_mean.specs.declared.run.Case.TheVariants.{First, Second}
use Rattle.layer_mean.specs.Tree as tree
use Rattle.layer_mean.specs.Tree.{Carried, ExpressionTree, MessageTree, ContentTree, EmissionTree}
use Rattle.layer_mean.specs.Tree.{HandlerTree, LayerTree}
use Rattle.layer_mean.specs.Way.{Step, test, fork, set_slot, set_number, set_square, put, get, send, loop, handler_way}
use Rattle.layer_mean.specs.Visit.{handler_for}
use Rattle.layer_mean.specs.Queue.{Task, tasks_of, is_place, layer_at}
use Rattle.stack_mean.specs.NoShape.{NoShape}
use Rattle.stack_mean.specs.NoShape as no_shape
use Rattle.chain_laws.proofs.Lists.{each_or, each_set, each_so, each_append, each_take, each_drop, each_room}
use Rattle.trace_mean.specs.Trace as trace
use Rattle.trace_mean.specs.Trace.{Atom, number, peer, field, bound, taken_number, value, Core, body, noted}
use Rattle.trace_mean.specs.Trace.{taken_message, nothing, TraceNumber, TraceMessage, core, held, cut, tail, join, Link}
use Rattle.trace_mean.specs.Trace.{Chained, Operation, bind, note, check}
use Rattle.trace_mean.specs.Scope.{Named, Names, no_number, no_message, Worded, traced_number, traced_message, bounds}
use Rattle.trace_mean.specs.Scope.{fill_numbers, fill_message, taken_name, taken_names}
use Rattle.trace_mean.specs.Fuse.{TracedEvent, Made, Tracing, adding, core_if_settled, notes_of, notes_in, core_of}
use Rattle.trace_mean.specs.Fuse.{chained_of}
use Rattle.trace_mean.specs.Fuse.{queues_of, form_at, items_of, is_alone, room_check, room_in, row_in, pushing}
use Rattle.trace_mean.specs.Fuse.{row_word, binding, sent_chain, sending, sending_message, sending_known, traced_send}
use Rattle.trace_mean.specs.Fuse.{stepping, trace_step, trace_steps, TracedVisit, TracedMet, popped_chain, traced_met}
use Rattle.trace_mean.specs.Fuse.{traced_on, traced_unhandled, traced_arguments, named_chain, traced_entered}
use Rattle.trace_mean.specs.Fuse.{traced_way}
use Rattle.trace_mean.specs.Fuse.{traced_handled, traced_visit, Fused, with_output, field_atoms, fields_of, entry_chain}
use Rattle.trace_form_laws.specs.Names.{Name, NumberNames, MessageNames, AtomNames, LinkNames, ChainedNames, SentNames}
use Rattle.trace_form_laws.specs.Names.{OperationNames}
use Rattle.trace_form_laws.specs.Closed.{Reach, AtomIsMade, CoreIsMade, IsMade, layer_of, reaching, Closed, varying}
use Rattle.trace_form_laws.specs.Closed.{entry_reach, TracesAreClosed}
use Rattle.trace_form_laws.proofs.Turns.{IfMade, from_made, more_made, steps_keep, AnyStep, any_steps, placed, traced}

-- a farther reach
record Within (r q : Reach) : Type 0 where
  fields : r.fields ≤ q.fields
  binds : r.binds ≤ q.binds
  notes : r.notes ≤ q.notes
  rows : length r.rows ≤ length q.rows
  items : (row k : ℕ) → k < slice_index r.rows row → k < slice_index q.rows row

within_self : (r : Reach) → Within r r
within_self r = record {
  fields = omega arith;
  binds = omega arith;
  notes = omega arith;
  rows = omega arith;
  items =
      λ row k h. h;
}

within_on : (r q s : Reach) → Within r q → Within q s → Within r s
within_on r q s a b = record {
  fields = omega (arith, a.fields, b.fields);
  binds = omega (arith, a.binds, b.binds);
  notes = omega (arith, a.notes, b.notes);
  rows = omega (arith, a.rows, b.rows);
  items = λ row k h. b.items row k (a.items row k h);
}

wider_atom : (r q : Reach) → Within r q → (a : Atom) → AtomIsMade r a → AtomIsMade q a
wider_atom r q w (number n) h = tt
wider_atom r q w peer h = tt
wider_atom r q w (field n) h = omega (arith, h, w.fields)
wider_atom r q w (bound n) h = omega (arith, h, w.binds)
wider_atom r q w (taken_number row k) h = w.items row k h
wider_atom r q w (value n) h = absurd h

wider_core : (r q : Reach) → Within r q → (c : Core) → CoreIsMade r c → CoreIsMade q c
wider_core r q w body h = tt
wider_core r q w (noted n) h = omega (arith, h, w.notes)
wider_core r q w (taken_message row carried) h = omega (arith, h, w.rows)
wider_core r q w nothing h = tt

-- reaches after operations that make something
abbrev with_binds : Reach → ℕ → Reach
with_binds r n = record r { binds = r.binds + n }

abbrev with_notes : Reach → ℕ → Reach
with_notes r n = record r { notes = r.notes + n }

abbrev with_row : Reach → ℕ → Reach
with_row r n = record r { rows = r.rows ++ n ∷ [] }

bound_within : (r : Reach) (n : ℕ) → Within r (with_binds r n)
bound_within r n = record {
  fields = omega arith;
  binds = omega arith;
  notes = omega arith;
  rows = omega arith;
  items =
      λ row k h. h;
}

noted_within : (r : Reach) (n : ℕ) → Within r (with_notes r n)
noted_within r n = record {
  fields = omega arith;
  binds = omega arith;
  notes = omega arith;
  rows = omega arith;
  items =
      λ row k h. h;
}

more_rows : (rows : List ℕ) (n row k : ℕ) → k < slice_index rows row → k < slice_index (rows ++ n ∷ []) row
more_rows [] n row k h = absurd (omega (arith, h))
more_rows (x ∷ xs) n zero k h = h
more_rows (x ∷ xs) n (suc row) k h = more_rows xs n row k h

last_row : (rows : List ℕ) (n : ℕ) → slice_index (rows ++ n ∷ []) (length rows) ≡ n
last_row [] n = refl
last_row (x ∷ xs) n = last_row xs n

row_within : (r : Reach) (n : ℕ) → Within r (with_row r n)
row_within r n = record {
  fields = omega arith;
  binds = omega arith;
  notes = omega arith;
  rows = omega (arith, length-append r.rows (n ∷ []));
  items = λ row k h. more_rows r.rows n row k h;
}

take_short : (n : ℕ) (xs : List ℕ) → length (take n xs) ≤ n
take_short zero xs = omega arith
take_short (suc n) [] = omega arith
take_short (suc n) (x ∷ xs) = omega (arith, take_short n xs)

module _ (stack : List LayerTree) where
  abbrev So : Reach → Name → Type 0
  So r = IsMade stack r

  wider_atoms : (r q : Reach) → Within r q → (xs : List Atom) → AllByRecursion (AtomNames (So r)) xs →
      AllByRecursion (AtomNames (So q)) xs
  wider_atoms r q w xs h = each_so (AtomNames (So r)) (AtomNames (So q)) (wider_atom r q w) xs h

  wider_chained : (r q : Reach) → Within r q → (m : Chained) → ChainedNames (So r) m → ChainedNames (So q) m
  wider_chained r q w m h = record {
    chain_is = each_so (LinkNames (So r)) (LinkNames (So q)) (λ l k. wider_atoms r q w l.fields k) m.chain h.chain_is;
    core_is = wider_core r q w m.core h.core_is;
  }

  wider_sent : (r q : Reach) → Within r q → (m : Option Chained) → SentNames (So r) m → SentNames (So q) m
  wider_sent r q w None h = tt
  wider_sent r q w (Some m) h = wider_chained r q w m h

  -- events and scopes
  record EventNames (r : Reach) (e : TracedEvent) : Type 0 where
    numbers_are : AllByRecursion (AtomNames (So r)) e.numbers
    message_is : SentNames (So r) e.message

  abbrev SendNames : Reach → Dir × TracedEvent → Type 0
  SendNames r x = EventNames r x.1

  wider_event : (r q : Reach) → Within r q → (e : TracedEvent) → EventNames r e → EventNames q e
  wider_event r q w e h =
      record {
        numbers_are = wider_atoms r q w e.numbers h.numbers_are;
        message_is =
            wider_sent r q w e.message h.message_is;
      }

  wider_sends : (r q : Reach) → Within r q → (sent : List (Dir × TracedEvent)) → AllByRecursion (SendNames r) sent →
      AllByRecursion (SendNames q) sent
  wider_sends r q w sent h = each_so (SendNames r) (SendNames q) (λ x k. wider_event r q w x.1 k) sent h

  abbrev NamedNames : Reach → Named → Type 0
  NamedNames r x = ChainedNames (So r) x.message

  record ScopeNames (r : Reach) (l : Names) : Type 0 where
    numbers_are : AllByRecursion (AtomNames (So r)) l.numbers
    messages_are : AllByRecursion (NamedNames r) l.messages

  wider_scope : (r q : Reach) → Within r q → (l : Names) → ScopeNames r l → ScopeNames q l
  wider_scope r q w l h = record {
    numbers_are = wider_atoms r q w l.numbers h.numbers_are;
    messages_are = each_so (NamedNames r) (NamedNames q) (λ x k. wider_chained r q w x.message k) l.messages
        h.messages_are;
  }

  no_message_is : (r : Reach) → NamedNames r no_message
  no_message_is r = record { chain_is = tt; core_is = tt }

  -- expressions
  module _ (r : Reach) (p : ℕ) (inside : p < length stack) (l : Names) (scope : ScopeNames r l) where
    mutual
      number_closed : (e : ExpressionTree) → NumberNames (So r) (traced_number p l e)
      number_closed (tree.number n) = tt
      number_closed tree.me = tt
      number_closed tree.count = tt
      number_closed tree.ltime = tt
      number_closed (tree.local k) = each_or (AtomNames (So r)) l.numbers k no_number scope.numbers_are tt
      number_closed (tree.element c e) = (inside, number_closed e)
      number_closed (tree.square c row column) = (inside, number_closed row, number_closed column)
      number_closed (tree.rows c e) = (inside, number_closed e)
      number_closed (tree.item c e row k) = (inside, number_closed e, number_closed row)
      number_closed (tree.size m) = message_closed m
      number_closed (tree.binary operator a b) = (number_closed a, number_closed b)
      number_closed (tree.apply function a) = number_closed a
      number_closed (tree.pick c a b) = (number_closed c, number_closed a, number_closed b)

      message_closed : (m : MessageTree) → MessageNames (So r) (traced_message p l m).message
      message_closed (tree.message k) =
          (each_or (NamedNames r) l.messages k no_message scope.messages_are (no_message_is r)).core_is
      message_closed tree.nothing = tt
      message_closed (tree.held c e row carried) = (inside, number_closed e, number_closed row)
      message_closed (tree.cut m from n) = (message_closed m, number_closed from, number_closed n)
      message_closed (tree.tail m from) = (message_closed m, number_closed from)
      message_closed (tree.join q m) = (message_closed q, message_closed m)

    chain_closed : (m : MessageTree) → AllByRecursion (LinkNames (So r)) (traced_message p l m).chain
    chain_closed (tree.message k) =
        (each_or (NamedNames r) l.messages k no_message scope.messages_are (no_message_is r)).chain_is
    chain_closed tree.nothing = tt
    chain_closed (tree.held c e row carried) = tt
    chain_closed (tree.cut m from n) = tt
    chain_closed (tree.tail m from) = chain_closed m
    chain_closed (tree.join q m) = chain_closed m

    numbers_closed : (es : List ExpressionTree) → AllByRecursion (NumberNames (So r)) (map (traced_number p l) es)
    numbers_closed [] = tt
    numbers_closed (e ∷ es) = (number_closed e, numbers_closed es)

  -- operations that are closed, and the reach after them
  record Leads (r : Reach) (os : List Operation) (q : Reach) : Type 0 where
    closed : Closed stack r os
    to : fold (reaching stack) r os ≡ q

  closed_append : (r : Reach) (os more : List Operation) → Closed stack r os →
      Closed stack (fold (reaching stack) r os) more → Closed stack r (os ++ more)
  closed_append r [] more h k = k
  closed_append r (o ∷ os) more h k = (h.0, closed_append (reaching stack r o) os more h.1 k)

  leads_both : (r q s : Reach) (os more : List Operation) → Leads r os q → Leads q more s → Leads r (os ++ more) s
  leads_both r q s os more a b = record {
    closed = closed_append r os more a.closed (subst (λ x. Closed stack x more) (sym a.to) b.closed);
    to = fold-append (reaching stack) r os more ∙ ap (λ x. fold (reaching stack) x more) a.to ∙ b.to;
  }

  binds_lead : (r : Reach) (p : ℕ) (l : Names) (es : List ExpressionTree) → p < length stack → ScopeNames r l →
      Leads r (binding p l es) (with_binds r (length es))
  binds_lead r p l [] inside scope =
      record {
        closed = tt;
        to = let same : r.binds ≡ r.binds + 0 = omega arith in
            ap (λ n. record r { binds = n }) same;
      }
  binds_lead r p l (e ∷ es) inside scope =
      let rest = binds_lead (with_binds r 1) p l es inside (wider_scope r (with_binds r 1) (bound_within r 1) l scope)
      in
      let same : r.binds + 1 + length es ≡ r.binds + suc (length es) = omega arith in
      record {
        closed = (number_closed r p inside l scope e, rest.closed);
        to = rest.to ∙
            ap (λ n. record r { binds = n }) same;
      }

  bounds_closed : {A : Type 0} (r : Reach) (next : ℕ) (xs : List A) → next + length xs ≤ r.binds →
      AllByRecursion (AtomNames (So r)) (bounds next xs)
  bounds_closed r next [] le = tt
  bounds_closed r next (x ∷ xs) le = (omega (arith, le), bounds_closed r (suc next) xs (omega (arith, le)))

  settled_closed : (r : Reach) (m : TraceMessage) (c : Core) → core_if_settled m ≡ Some c → MessageNames (So r) m →
      CoreIsMade r c
  settled_closed r (core body) c is h = let same : body ≡ c = cc in subst (CoreIsMade r) same h
  settled_closed r (core (noted n)) c is h = let same : noted n ≡ c = cc in subst (CoreIsMade r) same h
  settled_closed r (core (taken_message row carried)) c is h = absurd (cc is)
  settled_closed r (core nothing) c is h = absurd (cc is)
  settled_closed r (held q a e row carried) c is h = absurd (cc is)
  settled_closed r (cut m from n) c is h = absurd (cc is)
  settled_closed r (tail m from) c is h = absurd (cc is)
  settled_closed r (join q m) c is h = absurd (cc is)

  -- notes, and what stands for what was noted
  record Notes (r : Reach) (m : TraceMessage) (next : ℕ) : Type 0 where
    leads : Leads r (notes_of m) (with_notes r (notes_in m))
    core_is : CoreIsMade (with_notes r (notes_in m)) (core_of next m)

  unmoved : (r : Reach) → r ≡ with_notes r 0
  unmoved r = let same : r.notes ≡ r.notes + 0 = omega arith in ap (λ n. record r { notes = n }) same

  notes_lead : (r : Reach) (m : TraceMessage) (next : ℕ) → r.notes ≡ next → MessageNames (So r) m → Notes r m next
  notes_lead r m next is h = record { leads = go (core_if_settled m); core_is = stands (core_if_settled m) refl } where
    go : (s : Option Core) →
        Leads r (option_map_or (λ c. []) s (note m ∷ [])) (with_notes r (option_map_or (λ c. 0) s 1))
    go None = record { closed = (h, tt); to = refl }
    go (Some c) = record { closed = tt; to = unmoved r }

    stands : (s : Option Core) → core_if_settled m ≡ s →
        CoreIsMade (with_notes r (option_map_or (λ c. 0) s 1)) (option_map_or (λ c. c) s (noted next))
    stands None same = omega (arith, is)
    stands (Some c) same = wider_core r (with_notes r 0) (noted_within r 0) c (settled_closed r m c same h)

  -- a reach is that of what was made
  record Tells (r : Reach) (m : Made) : Type 0 where
    binds : r.binds ≡ m.binds
    notes : r.notes ≡ m.notes
    rows : length r.rows ≡ m.takes

  tells_more : (r q : Reach) (m : Made) (os : List Operation) (b n : ℕ) → Tells r m → q.binds ≡ r.binds + b →
      q.notes ≡ r.notes + n →
      length q.rows ≡ length r.rows → Tells q (adding m os b n 0)
  tells_more r q m os b n h binds notes rows =
      record {
        binds = omega (arith, h.binds, binds);
        notes = omega (arith, h.notes, notes);
        rows =
            omega (arith, h.rows, rows);
      }

  module _ (base : Reach) where
    -- what was made is closed, and so is what was sent, from a reach on
    record Shut (from : Reach) (m : Made) (sent : List (Dir × TracedEvent)) : Type 0 where
      reach : Reach
      leads : Leads base m.operations reach
      tells : Tells reach m
      within : Within from reach
      sent_are : AllByRecursion (SendNames reach) sent

    record ShutVisit (from : Reach) (y : Tracing) : Type 0 where
      shut : Shut from y.made y.sent
      scope : ScopeNames shut.reach y.names

    module _ (from : Reach) where
      -- more operations, with another reach after them
      stepped : (y : Tracing) (os : List Operation) (b n k : ℕ) (names : Names) (h : ShutVisit from y) (q : Reach) →
          Leads h.shut.reach os q →
          Within h.shut.reach q → Tells q (adding y.made os b n k) → ScopeNames q names →
          ShutVisit from (stepping y os b n k names)
      stepped y os b n k names h q leads w tells scope = record {
        shut = record {
          reach = q;
          leads = leads_both base h.shut.reach q y.made.operations os h.shut.leads leads;
          tells = tells;
          within = within_on from h.shut.reach q h.shut.within w;
          sent_are = wider_sends h.shut.reach q w y.sent h.shut.sent_are;
        };
        scope = scope;
      }

      -- an operation that makes nothing
      quiet : (y : Tracing) (o : Operation) (h : ShutVisit from y) → OperationNames (So h.shut.reach) o →
          reaching stack h.shut.reach o ≡ h.shut.reach →
          ShutVisit from (stepping y (o ∷ []) 0 0 0 y.names)
      quiet y o h closed same =
          stepped y (o ∷ []) 0 0 0 y.names h h.shut.reach (record { closed = (closed, tt); to = same })
          (within_self h.shut.reach)
          (tells_more h.shut.reach h.shut.reach y.made (o ∷ []) 0 0 h.shut.tells (omega arith) (omega arith) refl)
          h.scope

      sent_on : (y : Tracing) (e : EmissionTree) (os : List Operation) (b n : ℕ) (message : Option Chained)
          (h : ShutVisit from y) (q : Reach) →
          Leads h.shut.reach os q → Within h.shut.reach q → Tells q (adding y.made os b n 0) → length e.numbers ≤ b →
          SentNames (So q) message →
          ShutVisit from (sending y e os b n message)
      sent_on y e os b n message h q leads w tells few closed = record {
        shut = record {
          reach = q;
          leads = leads_both base h.shut.reach q y.made.operations os h.shut.leads leads;
          tells = tells;
          within = within_on from h.shut.reach q h.shut.within w;
          sent_are = each_append (SendNames q) y.sent _ (wider_sends h.shut.reach q w y.sent h.shut.sent_are) (
            record {
              numbers_are = bounds_closed q y.made.binds e.numbers (omega (arith, tells.binds, few));
              message_is = closed;
            },
            tt,
          );
        };
        scope = wider_scope h.shut.reach q w y.names h.scope;
      }

      module _ (p : ℕ) (inside : p < length stack) where
        room_closed : (r : Reach) (l : Names) (c : ℕ) (e : ExpressionTree) (capacity : ℕ) → ScopeNames r l →
            NumberNames (So r) (room_in (layer_of stack p) p l c e capacity)
        room_closed r l c e capacity scope = go (is_alone (form_at (layer_of stack p) c) e) where
          queues_closed : (form : Option tree.Form) → NumberNames (So r) (queues_of form)
          queues_closed (Some (tree.numbers shape initial)) = tt
          queues_closed (Some (tree.queue capacity items)) = tt
          queues_closed (Some (tree.queues capacity items)) = tt
          queues_closed None = tt

          go : (b : Bool) → NumberNames (So r)
              (room_check b (traced_number p l e) (queues_of (form_at (layer_of stack p) c))
              (trace.binary Less (trace.rows p c (traced_number p l e)) (trace.atom (number capacity))))
          go true = ((inside, number_closed r p inside l scope e), tt)
          go false = (
            (number_closed r p inside l scope e, queues_closed (form_at (layer_of stack p) c)),
            ((inside, number_closed r p inside l scope e), tt),
          )

        put_leads : (r : Reach) (l : Names) (c : ℕ) (e : ExpressionTree) (capacity : ℕ) (numbers : List ExpressionTree)
            (row : Option MessageTree)
            (next : ℕ) → r.notes ≡ next → ScopeNames r l → let w = option_map (traced_message p l) row in
            Leads r (check (room_in (layer_of stack p) p l c e capacity) ∷ pushing p l c e numbers next w)
            (with_notes r (option_map_or (λ x. notes_in x.message) w 0))
        put_leads r l c e capacity numbers None next is scope = record {
          closed = (
            room_closed r l c e capacity scope,
            ((inside, number_closed r p inside l scope e, numbers_closed r p inside l scope numbers, tt), tt),
          );
          to = unmoved r;
        }
        put_leads r l c e capacity numbers (Some m) next is scope =
            let x : Worded = traced_message p l m in
            let n = notes_lead r x.message next is (message_closed r p inside l scope m) in
            let q : Reach = with_notes r (notes_in x.message) in
            let wide = wider_scope r q (noted_within r (notes_in x.message)) l scope in
            let os : List Operation = trace.push p c (traced_number p l e) (map (traced_number p l) numbers)
            (Some (chained_of next x)) ∷ [] in
            let both = leads_both r q q (notes_of x.message) os n.leads (record {
              closed = (
                (
                  inside,
                  number_closed q p inside l wide e,
                  numbers_closed q p inside l wide numbers,
                  record { chain_is = chain_closed q p inside l wide m; core_is = n.core_is },
                ),
                tt,
              );
              to = refl;
            }) in
            record { closed = (room_closed r l c e capacity scope, both.closed); to = both.to }

        fill_closed : (r : Reach) (row next : ℕ) (slots : List ℕ) (atoms : List Atom) →
            next + length slots ≤ slice_index r.rows row →
            AllByRecursion (AtomNames (So r)) atoms →
            AllByRecursion (AtomNames (So r)) (fill_numbers row next slots atoms)
        fill_closed r row next [] atoms le h = h
        fill_closed r row next (slot ∷ slots) atoms le h = fill_closed r row (suc next) slots _ (omega (arith, le))
            (each_set (AtomNames (So r)) atoms slot (taken_number row next) h (omega (arith, le)))

        filled : (r : Reach) (row : ℕ) (item : Option (ℕ × Carried)) (ms : List Named) → row < length r.rows →
            AllByRecursion (NamedNames r) ms →
            AllByRecursion (NamedNames r) (fill_message row item ms)
        filled r row None ms less h = h
        filled r row (Some slot) ms less h =
            each_set (NamedNames r) ms slot.0 (taken_name row slot.1) h (record { chain_is = tt; core_is = less })

        send_shut : (y : Tracing) (e : EmissionTree) (c : ContentTree) → ShutVisit from y →
            ShutVisit from (sending_message p y e c (traced_message p y.names c.message))
        send_shut y e c h =
            let x : Worded = traced_message p y.names c.message in
            let es : List ExpressionTree = e.numbers ++ c.fields in
            let r : Reach = h.shut.reach in
            let r1 : Reach = with_binds r (length es) in
            let r2 : Reach = with_notes r1 (notes_in x.message) in
            let w1 = bound_within r (length es) in
            let w2 = noted_within r1 (notes_in x.message) in
            let wide = wider_scope r r1 w1 y.names h.scope in
            let n = notes_lead r1 x.message y.made.notes h.shut.tells.notes
            (message_closed r1 p inside y.names wide c.message) in
            let os : List Operation = binding p y.names es ++ notes_of x.message in
            sent_on y e os (length es) (notes_in x.message) _ h r2
            (leads_both r r1 r2 (binding p y.names es) (notes_of x.message) (binds_lead r p y.names es inside h.scope)
            n.leads)
            (within_on r r1 r2 w1 w2)
            (tells_more r r2 y.made os (length es) (notes_in x.message) h.shut.tells (omega arith) (omega arith) refl)
            (omega (arith, length-append e.numbers c.fields))
            (record {
              chain_is = ends e.direction r2
                  (bounds_closed r2 (y.made.binds + length e.numbers) c.fields
                  (omega (arith, length-append e.numbers c.fields, h.shut.tells.binds)))
                  (chain_closed r2 p inside y.names (wider_scope r1 r2 w2 y.names wide) c.message);
              core_is = n.core_is;
            }) where
              ends : (dir : Dir) (q : Reach) →
                  AllByRecursion (AtomNames (So q)) (bounds (y.made.binds + length e.numbers) c.fields) →
                  AllByRecursion (LinkNames (So q)) (traced_message p y.names c.message).chain →
                  AllByRecursion (LinkNames (So q))
                  (sent_chain p dir c.tag (bounds (y.made.binds + length e.numbers) c.fields)
                  (traced_message p y.names c.message).chain)
              ends Up q fields chain = chain
              ends Down q fields chain = (fields, chain)

        known_shut : (b : Bool) (y : Tracing) (e : EmissionTree) (c : ContentTree) → ShutVisit from y →
            IfMade (ShutVisit from) (sending_known b p y e c (traced_message p y.names c.message))
        known_shut true y e c h = send_shut y e c h
        known_shut false y e c h = tt

        sends_shut : (y : Tracing) (e : EmissionTree) (c : Option ContentTree) → ShutVisit from y →
            IfMade (ShutVisit from) (traced_send p y e c)
        sends_shut y e None h =
            let r : Reach = h.shut.reach in
            sent_on y e (binding p y.names e.numbers) (length e.numbers) 0 None h (with_binds r (length e.numbers))
            (binds_lead r p y.names e.numbers inside h.scope) (bound_within r (length e.numbers))
            (tells_more r (with_binds r (length e.numbers)) y.made (binding p y.names e.numbers) (length e.numbers) 0
            h.shut.tells (omega arith)
            (omega arith) refl) (omega arith) tt
        sends_shut y e (Some c) h = known_shut (traced_message p y.names c.message).known y e c h

        -- each step keeps a visit closed
        step_shut : (x : Step) (y : Tracing) → ShutVisit from y →
            IfMade (ShutVisit from) (trace_step (layer_of stack p) p x y)
        step_shut (test true e) y h = quiet y _ h (number_closed _ p inside y.names h.scope e) refl
        step_shut (test false e) y h = quiet y _ h (number_closed _ p inside y.names h.scope e, tt) refl
        step_shut (fork First e) y h = quiet y _ h (number_closed _ p inside y.names h.scope e) refl
        step_shut (fork Second e) y h = quiet y _ h (number_closed _ p inside y.names h.scope e, tt) refl
        step_shut (set_slot k e) y h =
            let r : Reach = h.shut.reach in
            let q : Reach = with_binds r 1 in
            let wide = wider_scope r q (bound_within r 1) y.names h.scope in
            stepped y (bind (traced_number p y.names e) ∷ []) 1 0 0
            (record y.names { numbers = slice_set y.names.numbers k (trace.bound y.made.binds) }) h q
            (record { closed = (number_closed r p inside y.names h.scope e, tt); to = refl }) (bound_within r 1)
            (tells_more r q y.made (bind (traced_number p y.names e) ∷ []) 1 0 h.shut.tells (omega arith) (omega arith)
            refl)
            (record {
              numbers_are = each_set (AtomNames (So q)) y.names.numbers k (trace.bound y.made.binds) wide.numbers_are
                  (omega (arith, h.shut.tells.binds));
              messages_are = wide.messages_are;
            })
        step_shut (set_number c i e) y h =
            quiet y _ h (inside, number_closed _ p inside y.names h.scope i, number_closed _ p inside y.names h.scope e)
            refl
        step_shut (set_square c row column e) y h = quiet y _ h (
          inside,
          number_closed _ p inside y.names h.scope row,
          number_closed _ p inside y.names h.scope column,
          number_closed _ p inside y.names h.scope e,
        ) refl
        step_shut (put c i capacity row) y h =
            let r : Reach = h.shut.reach in
            let w = row_word p y.names row in
            let n : ℕ = option_map_or (λ x. notes_in x.message) w 0 in
            let os : List Operation =
            check (room_in (layer_of stack p) p y.names c i capacity) ∷
            pushing p y.names c i row.numbers y.made.notes w in
            stepped y os 0 n 0 y.names h (with_notes r n)
            (put_leads r y.names c i capacity row.numbers row.message y.made.notes h.shut.tells.notes h.scope)
            (noted_within r n)
            (tells_more r (with_notes r n) y.made os 0 n h.shut.tells (omega arith) (omega arith) refl)
            (wider_scope r (with_notes r n) (noted_within r n) y.names h.scope)
        step_shut (get c i taken) y h =
            let r : Reach = h.shut.reach in
            let items : ℕ = items_of (form_at (layer_of stack p) c) in
            let q : Reach = with_row r items in
            let e : TraceNumber = traced_number p y.names i in
            let wide = wider_scope r q (row_within r items) y.names h.scope in
            let closed = number_closed r p inside y.names h.scope i in
            let here : slice_index q.rows y.made.takes ≡ items =
            subst (λ row. slice_index (r.rows ++ items ∷ []) row ≡ items) h.shut.tells.rows (last_row r.rows items) in
            let more : length q.rows ≡ y.made.takes + 1 =
            omega (arith, length-append r.rows (items ∷ []), h.shut.tells.rows) in
            stepped y (check (row_in (trace.rows p c e)) ∷ trace.take p c e ∷ []) 0 0 1
            (taken_names y.made.takes items taken y.names) h q
            (record { closed = (((inside, closed), tt), ((inside, closed), tt)); to = refl }) (row_within r items)
            (record {
              binds = omega (arith, h.shut.tells.binds);
              notes = omega (arith, h.shut.tells.notes);
              rows = more;
            })
            (record {
              numbers_are = fill_closed q y.made.takes 0 (take items taken.numbers) y.names.numbers
                  (omega (arith, here, take_short items taken.numbers)) wide.numbers_are;
              messages_are = filled q y.made.takes taken.message y.names.messages (omega (arith, more))
                  wide.messages_are;
            })
        step_shut (send e) y h = sends_shut y e e.content h
        step_shut loop y h = tt

  -- visits
  record MetNames (r : Reach) (m : TracedMet) : Type 0 where
    fields_are : AllByRecursion (AtomNames (So r)) m.fields
    message_is : SentNames (So r) m.message

  popped_closed : (r : Reach) (c : Core) (chain : List Link) → CoreIsMade r c →
      AllByRecursion (LinkNames (So r)) chain → MetNames r (popped_chain c chain)
  popped_closed r c [] h k = record { fields_are = tt; message_is = record { chain_is = tt; core_is = h } }
  popped_closed r c (l ∷ ls) h k = record { fields_are = k.0; message_is = record { chain_is = k.1; core_is = h } }

  met_closed : (r : Reach) (dir : Dir) (m : Option Chained) → SentNames (So r) m → MetNames r (traced_met dir m)
  met_closed r dir None h = record { fields_are = tt; message_is = tt }
  met_closed r Up (Some m) h = popped_closed r m.core m.chain h.core_is h.chain_is
  met_closed r Down (Some m) h = record { fields_are = tt; message_is = h }

  arguments_closed : (r : Reach) (k : Kind) (ns : List Atom) → AllByRecursion (AtomNames (So r)) ns →
      AllByRecursion (AtomNames (So r)) (traced_arguments k ns)
  arguments_closed r kind.Stable ns h =
      (each_or (AtomNames (So r)) ns 0 no_number h tt, (each_or (AtomNames (So r)) ns 1 no_number h tt, tt))
  arguments_closed r kind.Ack ns h =
      (each_or (AtomNames (So r)) ns 0 no_number h tt, (each_or (AtomNames (So r)) ns 1 no_number h tt, tt))
  arguments_closed r _ ns h = (each_or (AtomNames (So r)) ns 0 no_number h tt, tt)

  own_named : (r : Reach) (m : Option Chained) → SentNames (So r) m →
      AllByRecursion (NamedNames r) (option_to_list (option_map named_chain m))
  own_named r None h = tt
  own_named r (Some m) h = (h, tt)

  entered_closed : (r : Reach) (x : HandlerTree) (e : TracedEvent) (m : TracedMet) → EventNames r e → MetNames r m →
      ScopeNames r (traced_entered x e m)
  entered_closed r x e m h k = record {
    numbers_are = each_room (AtomNames (So r)) x.numbers no_number _ tt
        (each_append (AtomNames (So r)) (traced_arguments e.kind e.numbers) m.fields
        (arguments_closed r e.kind e.numbers h.numbers_are) k.fields_are);
    messages_are = each_room (NamedNames r) x.messages no_message _ (no_message_is r)
        (own_named r m.message k.message_is);
  }

  module _ (base : Reach) (m : Made) (r : Reach) (leads : Leads base m.operations r) (tells : Tells r m) where
    abbrev VisitShut : TracedVisit → Type 0
    VisitShut v = Shut base r v.made v.sent

    on_shut : (dir : Dir) (e : TracedEvent) (message : Option Chained) → EventNames r e → SentNames (So r) message →
        VisitShut (traced_on m dir e message)
    on_shut dir e message h k = record {
      reach = r;
      leads = leads;
      tells = tells;
      within = within_self r;
      sent_are = (record { numbers_are = h.numbers_are; message_is = k }, tt);
    }

    unhandled_shut : (p : ℕ) (dir : Dir) (e : TracedEvent) (tag : ℕ) (message : Option Chained) → EventNames r e →
        SentNames (So r) message →
        IfMade VisitShut (traced_unhandled p m dir e tag message)
    unhandled_shut p dir e tag None h k = on_shut dir e None h tt
    unhandled_shut p Down e tag (Some c) h k =
        on_shut Down e _ h (record { chain_is = (tt, k.chain_is); core_is = k.core_is })
    unhandled_shut p Up e tag (Some c) h k = go (tag == 0) where
      go : (b : Bool) → IfMade VisitShut (if b then Ok (traced_on m Up e (Some c)) else Err (no_shape.rare p))
      go true = on_shut Up e (Some c) h k
      go false = tt

    way_shut : (p : ℕ) → p < length stack → (w : Option (List Step)) (l : Names) → ScopeNames r l →
        IfMade VisitShut (traced_way (layer_of stack p) p m w l)
    way_shut p inside None l h = tt
    way_shut p inside (Some steps) l h =
        let start : Tracing = record { made = m; names = l; sent = [] } in
        from_made (ShutVisit base r) VisitShut (λ y. Ok (record { made = y.made; sent = y.sent }))
        (trace_steps (layer_of stack p) p steps start)
        (steps_keep (ShutVisit base r) AnyStep (layer_of stack p) p (λ x y q k. step_shut base r p inside x y k) steps
        start (any_steps steps)
        (record {
          shut = record { reach = r; leads = leads; tells = tells; within = within_self r; sent_are = tt };
          scope = h;
        }))
        (λ z k. k.shut)

    visit_shut : (case : Case) (p : ℕ) → p < length stack → (dir : Dir) (e : TracedEvent) → EventNames r e →
        IfMade VisitShut (traced_visit case (layer_of stack p) p m dir e)
    visit_shut case p inside dir e h =
        let met : TracedMet = traced_met dir e.message in
        go (handler_for (layer_of stack p) dir e.kind met.tag) (met_closed r dir e.message h.message_is) where
          go : (o : Option HandlerTree) → MetNames r (traced_met dir e.message) →
              IfMade VisitShut (traced_handled case (layer_of stack p) p m o dir e (traced_met dir e.message))
          go None k = unhandled_shut p dir e (traced_met dir e.message).tag (traced_met dir e.message).message h
              k.message_is
          go (Some x) k = way_shut p inside (handler_way case x) (traced_entered x e (traced_met dir e.message))
              (entered_closed r x e (traced_met dir e.message) h k)

  -- turns
  abbrev TaskNames : Reach → Task TracedEvent → Type 0
  TaskNames r t = EventNames r t.event

  tasks_closed : (r : Reach) (at : ℕ) (sent : List (Dir × TracedEvent)) → AllByRecursion (SendNames r) sent →
      AllByRecursion (TaskNames r) (tasks_of at sent)
  tasks_closed r at [] h = tt
  tasks_closed r at (x ∷ xs) h = (h.0, tasks_closed r at xs h.1)

  record Good (base : Reach) (f : Fused) (pending : List (Task TracedEvent)) : Type 0 where
    reach : Reach
    leads : Leads base f.made.operations reach
    tells : Tells reach f.made
    tasks : AllByRecursion (TaskNames reach) pending

  output_keeps : (base : Reach) (f : Fused) (t : Task TracedEvent) (rest : List (Task TracedEvent)) →
      Good base f (t ∷ rest) →
      Good base (with_output t.dir t.event f) rest
  output_keeps base f t rest h = record {
    reach = h.reach;
    leads = leads_both base h.reach h.reach f.made.operations
        (trace.output t.dir t.event.kind t.event.numbers t.event.message ∷ []) h.leads
        (record { closed = ((h.tasks.0.numbers_are, h.tasks.0.message_is), tt); to = refl });
    tells = tells_more h.reach h.reach f.made (trace.output t.dir t.event.kind t.event.numbers t.event.message ∷ []) 0 0
        h.tells (omega arith)
        (omega arith) refl;
    tasks = h.tasks.1;
  }

  visit_keeps : (base : Reach) (case : Case) (f : Fused) (t : Task TracedEvent) (rest : List (Task TracedEvent)) →
      is_place (length stack) t.at ≡ true →
      Good base f (t ∷ rest) →
      IfMade (λ v. Good base (record { visits = f.visits + 1; made = v.made }) (rest ++ tasks_of t.at v.sent))
      (traced_visit case (layer_at stack t.at) (t.at - 1) f.made t.dir t.event)
  visit_keeps base case f t rest place h =
      let here = placed (length stack) t.at place in
      more_made (VisitShut base f.made h.reach h.leads h.tells)
      (λ v. Good base (record { visits = f.visits + 1; made = v.made }) (rest ++ tasks_of t.at v.sent))
      (traced_visit case (layer_at stack t.at) (t.at - 1) f.made t.dir t.event)
      (visit_shut base f.made h.reach h.leads h.tells case (t.at - 1) (omega (arith, here.0, here.1)) t.dir t.event
      h.tasks.0)
      (λ v k. record {
        reach = k.reach;
        leads = k.leads;
        tells = k.tells;
        tasks = each_append (TaskNames k.reach) rest (tasks_of t.at v.sent)
            (each_so (TaskNames h.reach) (TaskNames k.reach) (λ x c. wider_event h.reach k.reach k.within x.event c)
            rest h.tasks.1)
            (tasks_closed k.reach t.at v.sent k.sent_are);
      })

fields_closed : (stack : List LayerTree) (r : Reach) (next : ℕ) (fields : List (Option ℕ)) →
    next + varying fields ≤ r.fields →
    AllByRecursion (AtomNames (So stack r)) (field_atoms next fields)
fields_closed stack r next [] le = tt
fields_closed stack r next (Some n ∷ fields) le = (tt, fields_closed stack r next fields le)
fields_closed stack r next (None ∷ fields) le =
    (omega (arith, le), fields_closed stack r (suc next) fields (omega (arith, le)))

entry_closed : (stack : List LayerTree) (r : Reach) (p : ℕ) (layers : List LayerTree) (tags : List ℕ)
    (atoms : List Atom) →
    AllByRecursion (AtomNames (So stack r)) atoms →
    AllByRecursion (LinkNames (So stack r)) (entry_chain p layers tags atoms)
entry_closed stack r p layers [] atoms h = tt
entry_closed stack r p [] (tag ∷ tags) atoms h = (tt, entry_closed stack r (suc p) [] tags atoms h)
entry_closed stack r p (layer ∷ above) (tag ∷ tags) atoms h = (
  each_take (AtomNames (So stack r)) (fields_of layer tag) atoms h,
  entry_closed stack r (suc p) above tags _ (each_drop (AtomNames (So stack r)) (fields_of layer tag) atoms h),
)

pub traces_are_closed : TracesAreClosed
traces_are_closed case stack k fields operations is =
    let base : Reach = entry_reach fields in
    let come = traced case stack (λ n f pending. Good stack base f pending)
    (λ n f t rest place h. output_keeps stack base f t rest h)
    (λ n f t rest place room h. visit_keeps stack base case f t rest place h) k fields operations
    (record {
      reach = base;
      leads = record { closed = tt; to = refl };
      tells = record { binds = refl; notes = refl; rows = refl };
      tasks = (
        record {
          numbers_are = (tt, tt);
          message_is = record {
            chain_is = entry_closed stack base 0 stack k.tags (field_atoms 0 fields)
                (fields_closed stack base 0 fields (omega arith));
            core_is = tt;
          };
        },
        tt,
      );
    }) is in
    subst (Closed stack base) come.is come.so.leads.closed
