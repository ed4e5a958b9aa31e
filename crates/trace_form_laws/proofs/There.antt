-- Traces name what is there.
use Rattle.std.proofs.Common.{◌≡◌, ℕ, zero, suc, ◌-◌, Bool, true, false, List, [], ◌∷◌, ◌++◌, map, Option, Some, None}
use Rattle.std.proofs.Common.{option_map, refl, ap, subst, inl, inr}
use Rattle.std.specs.Prelude.{if◌then◌else◌, ◌==◌, Ok, Err}
use Rattle.std.specs.List.{AllByRecursion}
use Rattle.std.specs.Option.{option_map_or}
use Rattle.layer_words.specs.declared.events.Dir.{Dir}
use Rattle.layer_words.specs.declared.events.Dir.TheVariants.{Up, Down}
use Rattle.layer_words.specs.declared.sorts.Likely.TheVariants as likely
use Rattle.layer_words.specs.declared.operators.Operator.TheVariants.{Less}
use Rattle.layer_mean.specs.declared.run.Case.{Case}
use Rattle.layer_mean.specs.declared.run.Case.TheVariants.{First, Second}
use Rattle.layer_mean.specs.Tree as tree
use Rattle.layer_mean.specs.Tree.{ExpressionTree, MessageTree, ContentTree, EmissionTree, StatementTree, StatementTrees}
use Rattle.layer_mean.specs.Tree.{ItemsTree, Expected, always, common, rare, HandlerTree, LayerTree}
use Rattle.layer_mean.specs.Way.{Step, test, fork, set_slot, set_number, set_square, put, get, send, loop, way, ways}
use Rattle.layer_mean.specs.Way.{expected_way}
use Rattle.layer_mean.specs.Visit.{is_for, handler_for}
use Rattle.stack_mean.specs.NoShape.{NoShape}
use Rattle.stack_mean.specs.NoShape as no_shape
use Rattle.weight_laws.proofs.Nodes.{found}
use Rattle.chain_laws.proofs.Lists.{each_append}
use Rattle.chain_laws.specs.Named as named
use Rattle.chain_laws.specs.Named.{NamedMessage, NamesRows, NamesQueue, NamedOption, NamedContent, NamedStatement}
use Rattle.chain_laws.specs.Named.{NamedAll, NamedExpected, slots_of, NamedHandler, NamedStack}
use Rattle.trace_mean.specs.Trace as trace
use Rattle.trace_mean.specs.Trace.{Atom, Core, TraceNumber, TraceMessage, Link, Chained, Operation, bind, note}
use Rattle.trace_mean.specs.Scope.{Names, Worded, traced_number, traced_message}
use Rattle.trace_mean.specs.Fuse.{TracedEvent, Made, Tracing, core_if_settled, notes_of, chained_of, is_alone, form_at}
use Rattle.trace_mean.specs.Fuse.{queues_of, room_check, room_in, pushing, binding, sending_known, traced_send}
use Rattle.trace_mean.specs.Fuse.{trace_step, trace_steps, TracedVisit, traced_met, traced_on, traced_unhandled}
use Rattle.trace_mean.specs.Fuse.{traced_entered, traced_way, traced_handled, traced_visit}
use Rattle.trace_form_laws.specs.Names.{Name, NumberNames, MessageNames, AtomNames, LinkNames, SentNames}
use Rattle.trace_form_laws.specs.Names.{OperationNames}
use Rattle.trace_form_laws.specs.Closed.{layer_of}
use Rattle.trace_form_laws.specs.There.{HasNumber, HasRows, HasQueue, IsThere, AreThere, TracesNameWell}
use Rattle.trace_form_laws.proofs.Turns.{IfMade, from_made, steps_keep, traced}

module _ (stack : List LayerTree) where
  abbrev There : Name → Type 0
  There = IsThere stack

  -- numbers and messages that were made are of no place
  atoms_there : (xs : List Atom) → AllByRecursion (AtomNames There) xs
  atoms_there [] = tt
  atoms_there (x ∷ xs) = (tt, atoms_there xs)

  chain_there : (ls : List Link) → AllByRecursion (LinkNames There) ls
  chain_there [] = tt
  chain_there (l ∷ ls) = (atoms_there l.fields, chain_there ls)

  sent_there : (m : Option Chained) → SentNames There m
  sent_there None = tt
  sent_there (Some m) = record { chain_is = chain_there m.chain; core_is = tt }

  notes_there : (m : TraceMessage) → MessageNames There m → AreThere stack (notes_of m)
  notes_there m h = go (core_if_settled m) where
    go : (s : Option Core) → AreThere stack (option_map_or (λ c. []) s (note m ∷ []))
    go None = (h, tt)
    go (Some c) = tt

  module _ (p slots : ℕ) where
    abbrev layer : LayerTree
    layer = layer_of stack p

    abbrev Named : ExpressionTree → Type 0
    Named e = named.Named (layer_of stack p) slots e

    abbrev NamedEach : List ExpressionTree → Type 0
    NamedEach es = AllByRecursion (named.Named (layer_of stack p) slots) es

    -- expressions
    module _ (l : Names) where
      abbrev number : ExpressionTree → TraceNumber
      number e = traced_number p l e

      nought : (i : ExpressionTree) → i ≡ tree.number 0 → traced_number p l i ≡ trace.atom (trace.number 0)
      nought i is = ap (traced_number p l) is

      has_number : (c : ℕ) (i : ExpressionTree) → named.NamesNumber layer c i → HasNumber layer c (number i)
      has_number c i (inl h) = inl (h.0, nought i h.1)
      has_number c i (inr h) = inr h

      has_rows : (c : ℕ) (i : ExpressionTree) (items : ItemsTree) → NamesRows layer c i items →
          HasRows layer c (number i) items
      has_rows c i items (inl h) = inl (h.0, nought i h.1)
      has_rows c i items (inr h) = inr h

      has_queue : (c : ℕ) (i : ExpressionTree) → NamesQueue layer c i → HasQueue layer c (number i)
      has_queue c i h = record { items = h.items; listed = has_rows c i h.items h.listed }

      mutual
        number_there : (e : ExpressionTree) → Named e → NumberNames There (traced_number p l e)
        number_there (tree.number n) h = tt
        number_there tree.me h = tt
        number_there tree.count h = tt
        number_there tree.ltime h = tt
        number_there (tree.local k) h = tt
        number_there (tree.element c i) h = (has_number c i h.0, number_there i h.1)
        number_there (tree.square c row column) h = (h.0, number_there row h.1, number_there column h.2)
        number_there (tree.rows c i) h = (has_queue c i h.0, number_there i h.1)
        number_there (tree.item c i row k) h = (
          record { items = h.0.items; listed = has_rows c i h.0.items h.0.listed; below = h.0.below },
          number_there i h.1,
          number_there row h.2,
        )
        number_there (tree.size m) h = message_there m h
        number_there (tree.binary operator a b) h = (number_there a h.0, number_there b h.1)
        number_there (tree.apply function a) h = number_there a h
        number_there (tree.pick c a b) h = (number_there c h.0, number_there a h.1, number_there b h.2)

        message_there : (m : MessageTree) → NamedMessage (layer_of stack p) slots m →
            MessageNames There (traced_message p l m).message
        message_there (tree.message k) h = tt
        message_there tree.nothing h = tt
        message_there (tree.held c i row carried) h = (has_queue c i h.0, number_there i h.1, number_there row h.2)
        message_there (tree.cut m from n) h = (message_there m h.0, number_there from h.1, number_there n h.2)
        message_there (tree.tail m from) h = (message_there m h.0, number_there from h.1)
        message_there (tree.join q m) h = (message_there q h.0, message_there m h.1)

      numbers_there : (es : List ExpressionTree) → NamedEach es →
          AllByRecursion (NumberNames There) (map (traced_number p l) es)
      numbers_there [] h = tt
      numbers_there (e ∷ es) h = (number_there e h.0, numbers_there es h.1)

      binds_there : (es : List ExpressionTree) → NamedEach es → AreThere stack (binding p l es)
      binds_there [] h = tt
      binds_there (e ∷ es) h = (number_there e h.0, binds_there es h.1)

      room_there : (c : ℕ) (i : ExpressionTree) (capacity : ℕ) → NamesQueue layer c i → Named i →
          NumberNames There (room_in (layer_of stack p) p l c i capacity)
      room_there c i capacity q o = go (is_alone (form_at layer c) i) where
        counted : (form : Option tree.Form) → NumberNames There (queues_of form)
        counted (Some (tree.numbers shape initial)) = tt
        counted (Some (tree.queue capacity items)) = tt
        counted (Some (tree.queues capacity items)) = tt
        counted None = tt

        go : (b : Bool) → NumberNames There
            (room_check b (traced_number p l i) (queues_of (form_at (layer_of stack p) c))
            (trace.binary Less (trace.rows p c (traced_number p l i)) (trace.atom (trace.number capacity))))
        go true = ((has_queue c i q, number_there i o), tt)
        go false = ((number_there i o, counted (form_at layer c)), ((has_queue c i q, number_there i o), tt))

      pushing_there : (c : ℕ) (i : ExpressionTree) (numbers : List ExpressionTree) (next : ℕ) (m : Option MessageTree) →
          NamesQueue layer c i →
          Named i → NamedEach numbers → NamedOption (layer_of stack p) slots m →
          AreThere stack (pushing p l c i numbers next (option_map (traced_message p l) m))
      pushing_there c i numbers next None q o ns k =
          ((has_queue c i q, number_there i o, numbers_there numbers ns, tt), tt)
      pushing_there c i numbers next (Some m) q o ns k =
          let x : Worded = traced_message p l m in
          each_append (OperationNames There) (notes_of x.message) _ (notes_there x.message (message_there m k))
          ((has_queue c i q, number_there i o, numbers_there numbers ns, sent_there (Some (chained_of next x))), tt)

    -- steps
    abbrev NamedStep : Step → Type 0
    NamedStep (test b e) = Named e
    NamedStep (fork case e) = Named e
    NamedStep (set_slot k e) = Named e
    NamedStep (set_number c i e) = named.NamesNumber layer c i × Named i × Named e
    NamedStep (set_square c row column e) = named.NamesSquare layer c × Named row × Named column × Named e
    NamedStep (put c i capacity row) = NamesQueue layer c i × Named i × NamedEach row.numbers ×
        NamedOption (layer_of stack p) slots row.message
    NamedStep (get c i taken) = NamesQueue layer c i × Named i
    NamedStep (send e) = NamedEach e.numbers × NamedContent (layer_of stack p) slots e.content
    NamedStep loop = Unit {0}

    mutual
      way_named : (case : Case) (x : StatementTree) → NamedStatement (layer_of stack p) slots x →
          AllByRecursion NamedStep (way case x)
      way_named case (tree.bind k e) h = (h.1, tt)
      way_named case (tree.assign c i e) h = ((h.0, h.1, h.2), tt)
      way_named case (tree.assign_square c row column e) h = ((h.0, h.1, h.2, h.3), tt)
      way_named case (tree.push c i capacity row otherwise) h = ((h.0, h.1, h.2, h.3), tt)
      way_named case (tree.take c i taken block otherwise) h = ((h.0, h.1), ways_named case block h.3)
      way_named case (tree.branch likely.First e block otherwise) h = (h.0, ways_named case block h.1)
      way_named case (tree.branch likely.Else e block otherwise) h = (h.0, ways_named case otherwise h.2)
      way_named First (tree.branch likely.Two e block otherwise) h = (h.0, ways_named First block h.1)
      way_named Second (tree.branch likely.Two e block otherwise) h = (h.0, ways_named Second otherwise h.2)
      way_named case (tree.each k below most block) h = (tt, tt)
      way_named case (tree.emit e) h = ((h.0, h.1), tt)

      ways_named : (case : Case) (xs : StatementTrees) → NamedAll (layer_of stack p) slots xs →
          AllByRecursion NamedStep (ways case xs)
      ways_named case tree.none h = tt
      ways_named case (tree.more x rest) h = each_append NamedStep (way case x) (ways case rest) (way_named case x h.0)
          (ways_named case rest h.1)

    abbrev Well : Tracing → Type 0
    Well y = AreThere stack y.made.operations

    added : (y : Tracing) (os : List Operation) → Well y → AreThere stack os → AreThere stack (y.made.operations ++ os)
    added y os h k = each_append (OperationNames There) y.made.operations os h k

    known_well : (b : Bool) (y : Tracing) (e : EmissionTree) (c : ContentTree) → NamedEach e.numbers →
        NamedContent (layer_of stack p) slots (Some c) → Well y →
        IfMade Well (sending_known b p y e c (traced_message p y.names c.message))
    known_well false y e c ns k h = tt
    known_well true y e c ns k h =
        let x : Worded = traced_message p y.names c.message in
        added y (binding p y.names (e.numbers ++ c.fields) ++ notes_of x.message) h
        (each_append (OperationNames There) (binding p y.names (e.numbers ++ c.fields)) (notes_of x.message)
        (binds_there y.names (e.numbers ++ c.fields)
        (each_append (named.Named (layer_of stack p) slots) e.numbers c.fields ns k.1))
        (notes_there x.message (message_there y.names c.message k.0)))

    send_well : (y : Tracing) (e : EmissionTree) (c : Option ContentTree) → NamedEach e.numbers →
        NamedContent (layer_of stack p) slots c → Well y →
        IfMade Well (traced_send p y e c)
    send_well y e None ns k h = added y (binding p y.names e.numbers) h (binds_there y.names e.numbers ns)
    send_well y e (Some c) ns k h = known_well (traced_message p y.names c.message).known y e c ns k h

    step_well : (x : Step) (y : Tracing) → NamedStep x → Well y → IfMade Well (trace_step (layer_of stack p) p x y)
    step_well (test true e) y o h = added y _ h (number_there y.names e o, tt)
    step_well (test false e) y o h = added y _ h ((number_there y.names e o, tt), tt)
    step_well (fork First e) y o h = added y _ h (number_there y.names e o, tt)
    step_well (fork Second e) y o h = added y _ h ((number_there y.names e o, tt), tt)
    step_well (set_slot k e) y o h = added y _ h (number_there y.names e o, tt)
    step_well (set_number c i e) y o h =
        added y _ h ((has_number y.names c i o.0, number_there y.names i o.1, number_there y.names e o.2), tt)
    step_well (set_square c row column e) y o h =
        added y _ h (
          (o.0, number_there y.names row o.1, number_there y.names column o.2, number_there y.names e o.3),
          tt,
        )
    step_well (put c i capacity row) y o h =
        added y _ h (
          room_there y.names c i capacity o.0 o.1,
          pushing_there y.names c i row.numbers y.made.notes row.message o.0 o.1 o.2 o.3,
        )
    step_well (get c i taken) y o h =
        let q = has_queue y.names c i o.0 in let e = number_there y.names i o.1 in
        added y _ h (((q, e), tt), ((q, e), tt))
    step_well (send e) y o h = send_well y e e.content o.0 o.1 h
    step_well loop y o h = tt

    -- visits
    abbrev VisitWell : TracedVisit → Type 0
    VisitWell v = AreThere stack v.made.operations

    unhandled_well : (m : Made) (dir : Dir) (e : TracedEvent) (tag : ℕ) (c : Option Chained) →
        AreThere stack m.operations →
        IfMade VisitWell (traced_unhandled p m dir e tag c)
    unhandled_well m dir e tag None h = h
    unhandled_well m Down e tag (Some c) h = h
    unhandled_well m Up e tag (Some c) h = go (tag == 0) where
      go : (b : Bool) → IfMade VisitWell (if b then Ok (traced_on m Up e (Some c)) else Err (no_shape.rare p))
      go true = h
      go false = tt

    steps_well : (m : Made) (steps : List Step) (l : Names) → AllByRecursion NamedStep steps →
        AreThere stack m.operations →
        IfMade VisitWell (traced_way (layer_of stack p) p m (Some steps) l)
    steps_well m steps l o h =
        let start : Tracing = record { made = m; names = l; sent = [] } in
        from_made Well VisitWell (λ y. Ok (record { made = y.made; sent = y.sent }))
        (trace_steps (layer_of stack p) p steps start)
        (steps_keep Well NamedStep (layer_of stack p) p step_well steps start o h) (λ z k. k)

    way_well : (m : Made) (case : Case) (x : Expected) (xs : StatementTrees) (l : Names) →
        NamedExpected (layer_of stack p) slots x →
        NamedAll (layer_of stack p) slots xs → AreThere stack m.operations →
        IfMade VisitWell (traced_way (layer_of stack p) p m (expected_way x (ways case xs)) l)
    way_well m case always xs l e o h = steps_well m (ways case xs) l (ways_named case xs o) h
    way_well m case (common c) xs l e o h = steps_well m (test true c ∷ ways case xs) l (e, ways_named case xs o) h
    way_well m case rare xs l e o h = tt

named_at : (stack : List LayerTree) (k : ℕ) → NamedStack stack →
    AllByRecursion (NamedHandler (layer_of stack k)) (layer_of stack k).handlers
named_at [] k h = tt
named_at (own ∷ above) zero h = h.0.handlers_are
named_at (own ∷ above) (suc k) h = named_at above k h.1

visit_well : (stack : List LayerTree) (p : ℕ) (case : Case) (m : Made) (dir : Dir) (e : TracedEvent) →
    NamedStack stack →
    AreThere stack m.operations →
    IfMade (λ v. AreThere stack v.made.operations) (traced_visit case (layer_of stack p) p m dir e)
visit_well stack p case m dir e is h = go (handler_for (layer_of stack p) dir e.kind (traced_met dir e.message).tag)
    refl where
      go : (o : Option HandlerTree) → handler_for (layer_of stack p) dir e.kind (traced_met dir e.message).tag ≡ o →
          IfMade (λ v. AreThere stack v.made.operations)
          (traced_handled case (layer_of stack p) p m o dir e (traced_met dir e.message))
      go None k = unhandled_well stack p 0 m dir e (traced_met dir e.message).tag (traced_met dir e.message).message h
      go (Some x) k =
          let chosen = found (NamedHandler (layer_of stack p)) (is_for dir e.kind (traced_met dir e.message).tag)
          (layer_of stack p).handlers x
          (named_at stack p is) k in
          way_well stack p (slots_of (layer_of stack p) x) m case x.expected x.block
          (traced_entered x e (traced_met dir e.message))
          chosen.0.0 chosen.0.1 h

pub traces_name_well : TracesNameWell
traces_name_well case stack k fields operations named is =
    let come = traced case stack (λ n f pending. AreThere stack f.made.operations)
    (λ n f t rest place h.
    each_append (OperationNames (IsThere stack)) f.made.operations _ h
    ((atoms_there stack t.event.numbers, sent_there stack t.event.message), tt))
    (λ n f t rest place room h. visit_well stack (t.at - 1) case f.made t.dir t.event named h) k fields operations tt is
    in
    subst (AreThere stack) come.is come.so
