-- The notes of a trace are fewer than its other operations and visits, and its outputs no more than its entry weighs.
use Rattle.std.proofs.Common.{◌≡◌, ℕ, suc, ◌+◌, ◌-◌, ◌≤◌, Bool, true, false, List, [], ◌∷◌, ◌++◌, map, length, Option}
use Rattle.std.proofs.Common.{Some, None, slice_set, refl, sym, ap, ◌∙◌, subst, nat_lt, ltb-false, le_trans, arith}
use Rattle.std.specs.Prelude.{if◌then◌else◌, ◌==◌, Ok, Err}
use Rattle.std.specs.List.{AllByRecursion}
use Rattle.std.specs.Option.{option_map_or}
use Rattle.std.proofs.lemmas.List.{length-append}
use Rattle.std.proofs.lemmas.List.Concat.{flat_map-cons}
use Rattle.std.proofs.lemmas.List.Sums.{sum_by-cons, sum_by-append}
use Rattle.std.proofs.lemmas.Grind.{flat_map-append}
use Rattle.layer_words.specs.declared.events.Dir.{Dir}
use Rattle.layer_words.specs.declared.events.Dir.TheVariants.{Up, Down}
use Rattle.layer_words.specs.declared.events.Kind.{Kind}
use Rattle.layer_words.specs.declared.events.Kind.TheVariants.{Cast, Send}
use Rattle.layer_mean.specs.declared.run.Case.{Case}
use Rattle.layer_mean.specs.declared.run.Case.TheVariants.{First, Second}
use Rattle.layer_mean.specs.Event.{carries}
use Rattle.layer_mean.specs.Tree.{ExpressionTree, ContentTree, EmissionTree, HandlerTree, LayerTree}
use Rattle.layer_mean.specs.Way.{Step, test, fork, set_slot, set_number, set_square, put, get, send, loop, handler_way}
use Rattle.layer_mean.specs.Visit.{handler_for}
use Rattle.layer_mean.specs.Queue.{Task, is_done, tasks_of, is_place, layer_at}
use Rattle.stack_mean.specs.Graph.{Node, first_on_cycle, entered_handler, handler_arrows}
use Rattle.stack_mean.specs.Acceptance.{largest, weight, weight_limit, largest_weight, most_joins, largest_joins}
use Rattle.stack_mean.specs.Acceptance.{joins_limit, entries, Refusal, without_cycle, acceptance}
use Rattle.stack_mean.specs.NoShape.{NoShape}
use Rattle.stack_mean.specs.NoShape as no_shape
use Rattle.stack_mean.specs.Shape.{Known, visits_limit, entry_place}
use Rattle.weight_laws.specs.Orderly.{IsOrderly}
use Rattle.weight_laws.specs.Costs.{after_arrows}
use Rattle.weight_laws.specs.Runs.{Enters}
use Rattle.weight_laws.proofs.Members.{In, in_map}
use Rattle.weight_laws.proofs.Costs.{follows}
use Rattle.weight_laws.proofs.Visits.{at_most_largest}
use Rattle.weight_laws.proofs.Runs.{entering}
use Rattle.trace_mean.specs.Trace.{Core, TraceNumber, TraceMessage, Chained, Operation, bind, note, check, push, output}
use Rattle.trace_mean.specs.Trace as trace
use Rattle.trace_mean.specs.Scope.{Names, Worded, taken_names, traced_number, traced_message}
use Rattle.trace_mean.specs.Fuse.{TracedEvent, Made, Tracing, core_if_settled, notes_of, chained_of, room_in, form_at}
use Rattle.trace_mean.specs.Fuse.{items_of}
use Rattle.trace_mean.specs.Fuse.{pushing, row_word, binding, sending, sending_known, traced_send, stepping, trace_step}
use Rattle.trace_mean.specs.Fuse.{trace_steps, TracedVisit, TracedMet, traced_met, traced_on, traced_unhandled}
use Rattle.trace_mean.specs.Fuse.{traced_entered, traced_way, traced_handled, traced_visit, Fused, with_output}
use Rattle.trace_mean.specs.Fuse.{traced_task}
use Rattle.trace_mean.specs.Counts.{operation_length, a_note, an_output, trace_length, trace_notes, trace_outputs}
use Rattle.trace_laws.specs.Shapes.{outlets_of, trace_outlets}
use Rattle.trace_laws.proofs.Shapes.{outputs_are_told}
use Rattle.trace_form_laws.specs.Entries.{IsEntry, entry_node}
use Rattle.trace_form_laws.specs.Counts.{FewNotes, TracesAreFew, AcceptedTracesFit}
use Rattle.trace_form_laws.proofs.Turns.{IfMade, from_made, both_made, steps_keep, AnyStep, any_steps, traced}
use Rattle.trace_form_laws.proofs.Joins.{task_node, TaskFits, task_is_node, pending_worth, first_worth, Sends}
use Rattle.trace_form_laws.proofs.Joins.{visit_sends, begins, entry_is, traces_join_less}

-- operations that have at most `sent` more notes than others, and put out nothing
record Adds (os : List Operation) (sent : ℕ) : Type 0 where
  notes : trace_notes os ≤ trace_length os + sent
  outlets : trace_outlets os ≡ []

notes_add : (m : TraceMessage) → Adds (notes_of m) 1
notes_add m = go (core_if_settled m) where
  go : (s : Option Core) → Adds (option_map_or (λ c. []) s (note m ∷ [])) 1
  go None = record { notes = omega arith; outlets = refl }
  go (Some c) = record { notes = omega arith; outlets = refl }

no_outlets : (os more : List Operation) → trace_outlets os ≡ [] → trace_outlets more ≡ [] → trace_outlets (os ++ more) ≡
    []
no_outlets os more h k = flat_map-append outlets_of os more ∙ ap (λ x. x ++ trace_outlets more) h ∙ k

adds_both : (os more : List Operation) (m n k : ℕ) → m + n ≤ k → Adds os m → Adds more n → Adds (os ++ more) k
adds_both os more m n k le a b = record {
  notes = omega (arith, sum_by-append a_note os more, sum_by-append operation_length os more, a.notes, b.notes, le);
  outlets = no_outlets os more a.outlets b.outlets;
}

an_other : (o : Operation) → a_note o ≡ 0 → operation_length o ≡ 1 → outlets_of o ≡ [] → Adds (o ∷ []) 0
an_other o note_is counted_is none = record {
  notes = omega (arith, sum_by-cons a_note o [], sum_by-cons operation_length o [], note_is, counted_is);
  outlets = flat_map-cons outlets_of o [] ∙ ap (λ x. x ++ []) none;
}

binds_add : (p : ℕ) (l : Names) (es : List ExpressionTree) → Adds (binding p l es) 0
binds_add p l [] = record { notes = omega arith; outlets = refl }
binds_add p l (e ∷ es) =
    adds_both (bind (traced_number p l e) ∷ []) (binding p l es) 0 0 0 (omega arith)
    (an_other (bind (traced_number p l e)) refl refl refl)
    (binds_add p l es)

-- what was made since `before`, with `sent` events sent
pub record Few (before z : Made) (sent : ℕ) : Type 0 where
  pub notes : trace_notes z.operations + trace_length before.operations ≤ trace_notes before.operations + trace_length
      z.operations + sent
  pub outlets : trace_outlets z.operations ≡ trace_outlets before.operations

same_few : (m : Made) (n : ℕ) → Few m m n
same_few m n = record { notes = omega arith; outlets = refl }

nothing_after : {A : Type 0} (xs : List A) → xs ++ [] ≡ xs
nothing_after [] = refl
nothing_after (x ∷ xs) = ap (λ ys. x ∷ ys) (nothing_after xs)

more_few : (before : Made) (sent more next : ℕ) (y : Made) (os : List Operation) (b n k : ℕ) → sent + more ≡ next →
    Few before y sent →
    Adds os more → Few before (record { operations = y.operations ++ os; binds = b; notes = n; takes = k }) next
more_few before sent more next y os b n k is h a = record {
  notes = omega (
    arith,
    sum_by-append a_note y.operations os,
    sum_by-append operation_length y.operations os,
    h.notes,
    a.notes,
    is,
  );
  outlets = flat_map-append outlets_of y.operations os ∙ ap (λ x. trace_outlets y.operations ++ x) a.outlets
      ∙ nothing_after (trace_outlets y.operations) ∙ h.outlets;
}

module _ (before : Made) where
  abbrev FewAt : Tracing → Type 0
  FewAt y = Few before y.made (length y.sent)

  quiet : (y : Tracing) (os : List Operation) (b n k : ℕ) (names : Names) → FewAt y → Adds os 0 →
      FewAt (stepping y os b n k names)
  quiet y os b n k names h a = more_few before (length y.sent) 0 (length y.sent) y.made os _ _ _ (omega arith) h a

  loud : (y : Tracing) (e : EmissionTree) (os : List Operation) (b n : ℕ) (message : Option Chained) → FewAt y →
      Adds os 1 →
      FewAt (sending y e os b n message)
  loud y e os b n message h a = more_few before (length y.sent) 1 _ y.made os _ _ _ (sym (length-append y.sent _)) h a

  check_adds : (e : TraceNumber) → Adds (check e ∷ []) 0
  check_adds e = an_other (check e) refl refl refl

  pushing_adds : (p : ℕ) (l : Names) (c : ℕ) (e : ExpressionTree) (numbers : List ExpressionTree) (next : ℕ)
      (row : Option Worded)
      (room : TraceNumber) → Adds (check room ∷ pushing p l c e numbers next row) 0
  pushing_adds p l c e numbers next None room = record { notes = omega arith; outlets = refl }
  pushing_adds p l c e numbers next (Some x) room =
      let os : List Operation = push p c (traced_number p l e) (map (traced_number p l) numbers)
      (Some (chained_of next x)) ∷ [] in
      let n = notes_add x.message in record {
        notes = omega (
          arith,
          sum_by-cons a_note (check room) (notes_of x.message ++ os),
          sum_by-cons operation_length (check room) (notes_of x.message ++ os),
          sum_by-append a_note (notes_of x.message) os,
          sum_by-append operation_length (notes_of x.message) os,
          n.notes,
        );
        outlets = flat_map-cons outlets_of (check room) (notes_of x.message ++ os) ∙
            no_outlets (notes_of x.message) os n.outlets refl;
      }

  known_few : (p : ℕ) (y : Tracing) (e : EmissionTree) (c : ContentTree) (x : Worded) (b : Bool) → FewAt y →
      IfMade FewAt (sending_known b p y e c x)
  known_few p y e c x false h = tt
  known_few p y e c x true h = loud y e (binding p y.names (e.numbers ++ c.fields) ++ notes_of x.message) _ _ _ h
      (adds_both (binding p y.names (e.numbers ++ c.fields)) (notes_of x.message) 0 1 1 (omega arith)
      (binds_add p y.names (e.numbers ++ c.fields)) (notes_add x.message))

  send_few : (p : ℕ) (y : Tracing) (e : EmissionTree) (c : Option ContentTree) → FewAt y →
      IfMade FewAt (traced_send p y e c)
  send_few p y e None h = let a = binds_add p y.names e.numbers in
      loud y e (binding p y.names e.numbers) _ 0 None h (record { notes = omega (arith, a.notes); outlets = a.outlets })
  send_few p y e (Some c) h = let x : Worded = traced_message p y.names c.message in known_few p y e c x x.known h

  step_few : (layer : LayerTree) (p : ℕ) (x : Step) (y : Tracing) → FewAt y → IfMade FewAt (trace_step layer p x y)
  step_few layer p (test true e) y h = quiet y _ 0 0 0 y.names h (check_adds _)
  step_few layer p (test false e) y h = quiet y _ 0 0 0 y.names h (check_adds _)
  step_few layer p (fork First e) y h = quiet y _ 0 0 0 y.names h (check_adds _)
  step_few layer p (fork Second e) y h = quiet y _ 0 0 0 y.names h (check_adds _)
  step_few layer p (set_slot k e) y h =
      quiet y _ 1 0 0 (record y.names { numbers = slice_set y.names.numbers k (trace.bound y.made.binds) }) h
      (an_other (bind (traced_number p y.names e)) refl refl refl)
  step_few layer p (set_number c i e) y h = quiet y _ 0 0 0 y.names h
      (an_other (trace.set p c (traced_number p y.names i) (traced_number p y.names e)) refl refl refl)
  step_few layer p (set_square c row column e) y h = quiet y _ 0 0 0 y.names h (an_other
      (trace.set_square p c (traced_number p y.names row) (traced_number p y.names column) (traced_number p y.names e))
      refl refl refl)
  step_few layer p (put c i capacity row) y h = quiet y _ 0 _ 0 y.names h
      (pushing_adds p y.names c i row.numbers y.made.notes (row_word p y.names row)
      (room_in layer p y.names c i capacity))
  step_few layer p (get c i taken) y h =
      quiet y _ 0 0 1 (taken_names y.made.takes (items_of (form_at layer c)) taken y.names) h
      (record { notes = omega arith; outlets = refl })
  step_few layer p (send e) y h = send_few p y e e.content h
  step_few layer p loop y h = tt

  -- a visit
  abbrev pub FewVisit : TracedVisit → Type 0
  FewVisit v = Few before v.made (length v.sent)

  unhandled_few : (p : ℕ) (dir : Dir) (event : TracedEvent) (tag : ℕ) (c : Option Chained) →
      IfMade FewVisit (traced_unhandled p before dir event tag c)
  unhandled_few p dir event tag None = same_few before 1
  unhandled_few p Down event tag (Some c) = same_few before 1
  unhandled_few p Up event tag (Some c) = go (tag == 0) where
    go : (b : Bool) → IfMade FewVisit (if b then Ok (traced_on before Up event (Some c)) else Err (no_shape.rare p))
    go true = same_few before 1
    go false = tt

  way_few : (layer : LayerTree) (p : ℕ) (w : Option (List Step)) (l : Names) →
      IfMade FewVisit (traced_way layer p before w l)
  way_few layer p None l = tt
  way_few layer p (Some steps) l =
      let start : Tracing = record { made = before; names = l; sent = [] } in
      from_made FewAt FewVisit (λ y. Ok (record { made = y.made; sent = y.sent })) (trace_steps layer p steps start)
      (steps_keep FewAt AnyStep layer p (λ x y q h. step_few layer p x y h) steps start (any_steps steps)
      (same_few before 0)) (λ z k. k)

  handled_few : (case : Case) (layer : LayerTree) (p : ℕ) (o : Option HandlerTree) (dir : Dir) (event : TracedEvent)
      (met : TracedMet) →
      IfMade FewVisit (traced_handled case layer p before o dir event met)
  handled_few case layer p None dir event met = unhandled_few p dir event met.tag met.message
  handled_few case layer p (Some h) dir event met = way_few layer p (handler_way case h) (traced_entered h event met)

  pub visit_few : (case : Case) (layer : LayerTree) (p : ℕ) (dir : Dir) (event : TracedEvent) →
      IfMade FewVisit (traced_visit case layer p before dir event)
  visit_few case layer p dir event = let met : TracedMet = traced_met dir event.message in
      handled_few case layer p (handler_for layer dir event.kind met.tag) dir event met

sent_length : (at : ℕ) (sent : List (Dir × TracedEvent)) → length (tasks_of at sent) ≡ length sent
sent_length at [] = refl
sent_length at (x ∷ xs) = ap suc (sent_length at xs)

module _ (case : Case) (stack : List LayerTree) (orderly : IsOrderly stack) (off : first_on_cycle stack ≡ None)
    (most : ℕ) where
  -- how far a trace has come in `turns` turns
  record Good (turns : ℕ) (f : Fused) (pending : List (Task TracedEvent)) : Type 0 where
    notes : trace_notes f.made.operations + 1 ≤ trace_length f.made.operations + f.visits + length pending
    visits : f.visits ≤ visits_limit
    took : f.visits + trace_outputs f.made.operations ≡ turns
    weighs : turns + pending_worth (weight stack) pending ≤ most
    fit : AllByRecursion (TaskFits stack) pending

  abbrev following : Task TracedEvent → ℕ
  following t = after_arrows (weight stack) (handler_arrows stack (task_node t) (entered_handler stack (task_node t)))

  weighs_one : (t : Task TracedEvent) → TaskFits stack t → 1 ≤ weight stack (task_node t)
  weighs_one t fits = omega (arith, follows stack orderly off (λ node. 1) (task_node t) (task_is_node stack t fits))

  costs : (t : Task TracedEvent) → TaskFits stack t → is_place (length stack) t.at ≡ true → weight stack (task_node t) ≡
      1 + following t
  costs t fits place =
      follows stack orderly off (λ node. 1) (task_node t) (task_is_node stack t fits)
      ∙ ap (λ b. 1 + after_arrows (weight stack)
      (if b then handler_arrows stack (task_node t) (entered_handler stack (task_node t)) else [])) place

  output_keeps : (n : ℕ) (f : Fused) (t : Task TracedEvent) (rest : List (Task TracedEvent)) → Good n f (t ∷ rest) →
      Good (suc n) (with_output t.dir t.event f) rest
  output_keeps n f t rest h = let os : List Operation = output t.dir t.event.kind t.event.numbers t.event.message ∷
      [] in record {
        notes = omega (
          arith,
          h.notes,
          sum_by-append a_note f.made.operations os,
          sum_by-append operation_length f.made.operations os,
        );
        visits = h.visits;
        took = omega (arith, h.took, sum_by-append an_output f.made.operations os);
        weighs = omega (arith, h.weighs, weighs_one t h.fit.0, first_worth (weight stack) t rest);
        fit = h.fit.1;
      }

  visit_keeps : (n : ℕ) (f : Fused) (t : Task TracedEvent) (rest : List (Task TracedEvent)) →
      is_place (length stack) t.at ≡ true →
      f.visits + 1 ≤ visits_limit → Good n f (t ∷ rest) →
      IfMade (λ v. Good (suc n) (record { visits = f.visits + 1; made = v.made }) (rest ++ tasks_of t.at v.sent))
      (traced_visit case (layer_at stack t.at) (t.at - 1) f.made t.dir t.event)
  visit_keeps n f t rest place room h =
      both_made (Sends stack (weight stack) t rest _) (FewVisit f.made)
      (λ v. Good (suc n) (record { visits = f.visits + 1; made = v.made }) (rest ++ tasks_of t.at v.sent)) _
      (visit_sends case stack (weight stack) f t rest orderly place h.fit)
      (visit_few f.made case (layer_at stack t.at) (t.at - 1) t.dir t.event)
      (λ v k few. record {
        notes = omega (arith, h.notes, few.notes, length-append rest (tasks_of t.at v.sent), sent_length t.at v.sent);
        visits = room;
        took = omega (
          arith,
          h.took,
          outputs_are_told v.made.operations,
          outputs_are_told f.made.operations,
          ap length few.outlets,
        );
        weighs = omega (arith, h.weighs, k.worth, costs t h.fit.0 place, first_worth (weight stack) t rest);
        fit = k.fit;
      })

  -- the queue reaches its end
  ended : (f : Fused) (pending : List (Task TracedEvent)) (turns : ℕ) → most ≤ weight_limit →
      (is_done pending ≡ false → turns ≡ weight_limit) →
      Good turns f pending →
      (trace_notes f.made.operations + 1 ≤ trace_length f.made.operations + visits_limit) ×
      (trace_outputs f.made.operations ≤ most)
  ended f [] turns enough all h = (omega (arith, h.notes, h.visits), omega (arith, h.took, h.weighs))
  ended f (t ∷ rest) turns enough all h =
      absurd (omega (arith, all refl, enough, h.weighs, weighs_one t h.fit.0, first_worth (weight stack) t rest))

pub traces_are_few : TracesAreFew
traces_are_few case stack k fields operations orderly off is enough made =
    let first : Task TracedEvent = traced_task stack k fields in
    let most : ℕ = weight stack (task_node first) in
    let same : most ≡ weight stack (entry_node stack k) = ap (weight stack) (entry_is stack k fields) in
    let come = traced case stack (Good case stack orderly off most)
    (λ n f t rest place h. output_keeps case stack orderly off most n f t rest h)
    (visit_keeps case stack orderly off most) k fields operations
    (record {
      notes = omega arith;
      visits = omega arith;
      took = omega arith;
      weighs = omega arith;
      fit = (begins stack k fields is, tt);
    }) made in
    let both = ended case stack orderly off most come.world come.pending come.turns (omega (arith, enough, same))
    come.all come.so in
    record {
      notes = subst FewNotes come.is (omega (arith, both.0));
      outputs = subst (λ o. trace_outputs o ≤ weight stack (entry_node stack k)) come.is (omega (arith, both.1, same));
    }

-- what an accepted stack is
accepts_parts : (stack : List LayerTree) → acceptance stack ≡ Ok stack →
    (first_on_cycle stack ≡ None) × (largest_weight stack ≤ weight_limit) × (largest_joins stack ≤ joins_limit)
accepts_parts stack h = go (first_on_cycle stack) refl h where
  judged : (b c : Bool) (x y : Refusal) → (if b then Err x else if c then Err y else Ok stack) ≡ Ok stack →
      (b ≡ false) × (c ≡ false)
  judged true c x y e = absurd (cc e)
  judged false true x y e = absurd (cc e)
  judged false false x y e = (refl, refl)

  go : (o : Option Node) → first_on_cycle stack ≡ o → without_cycle stack o ≡ Ok stack →
      (first_on_cycle stack ≡ None) × (largest_weight stack ≤ weight_limit) × (largest_joins stack ≤ joins_limit)
  go (Some n) is e = absurd (cc e)
  go None is e =
      let within = judged (nat_lt weight_limit (largest_weight stack)) (nat_lt joins_limit (largest_joins stack)) _ _ e
      in
      (is, ltb-false weight_limit (largest_weight stack) within.0, ltb-false joins_limit (largest_joins stack) within.1)

-- the node of an entry is one of those that acceptance looks at
enters : (stack : List LayerTree) (dir : Dir) (kind : Kind) → carries kind ≡ true →
    Enters stack (entry_place stack dir) dir kind
enters stack Up Cast h = refl
enters stack Up Send h = refl
enters stack Down Cast h = refl
enters stack Down Send h = refl
enters stack _ _ h = absurd (cc h)

is_listed : (stack : List LayerTree) (k : Known) (fields : List (Option ℕ)) → IsEntry stack k →
    In (entry_node stack k) (entries stack)
is_listed stack k fields is =
    let first : Task TracedEvent = traced_task stack k fields in
    subst (λ n. In n (entries stack)) (entry_is stack k fields)
    (entering stack first.at first.dir first.event.kind (task_node first).tag (enters stack k.dir k.kind is.carried)
    (task_is_node stack first (begins stack k fields is)).tag)

listed_within : (stack : List LayerTree) (cost : Node → ℕ) (n : Node) (limit : ℕ) → In n (entries stack) →
    largest (map cost (entries stack)) ≤ limit →
    cost n ≤ limit
listed_within stack cost n limit h le =
    le_trans (at_most_largest (cost n) (map cost (entries stack)) (in_map cost n (entries stack) h)) le

pub accepted_traces_fit : AcceptedTracesFit
accepted_traces_fit case stack k fields operations orderly accepts is made =
    let fits = accepts_parts stack accepts in
    let listed = is_listed stack k fields is in
    let light = listed_within stack (weight stack) (entry_node stack k) weight_limit listed fits.1 in
    let few = traces_are_few case stack k fields operations orderly fits.0 is light made in
    record {
      joins = le_trans (traces_join_less case stack k fields operations orderly fits.0 is made)
          (listed_within stack (most_joins stack) (entry_node stack k) joins_limit listed fits.2);
      notes = few.notes;
      outputs = le_trans few.outputs light;
    }
