-- Parts that are read on a predicted way have no headers: statement by statement, and from turn to turn.
use Rattle.std.proofs.Common.{◌≡◌, ℕ, suc, ◌-◌, ◌<◌, ◌≤◌, Bool, true, false, List, [], ◌∷◌, ◌++◌, length, map, Option}
use Rattle.std.proofs.Common.{Some, None, refl, sym, ap, subst, arith}
use Rattle.std.specs.Prelude.{◌==◌, ◌&&◌, nat_le, if◌then◌else◌}
use Rattle.std.specs.List.{AllByRecursion}
use Rattle.std.proofs.lemmas.Bool.{and_parts, eqb-true, leb-true}
use Rattle.std.proofs.lemmas.List.{append_assoc}
use Rattle.std.proofs.lemmas.Option.{slice_get-get_or}
use denote.Enum.Bare.{sameb, same_true}
use Rattle.msg_core.specs.declared.message.Header.{Header}
use Rattle.layer_words.specs.contracts.events.Dir as dir_row
use Rattle.layer_words.specs.contracts.events.Kind as kind_row
use Rattle.layer_words.specs.declared.sorts.Likely.TheVariants as likely
use Rattle.layer_words.specs.declared.sorts.Sort.{Sort}
use Rattle.layer_words.specs.declared.sorts.Sort.TheVariants.{Msg}
use Rattle.layer_words.specs.declared.events.Dir.{Dir}
use Rattle.layer_words.specs.declared.events.Dir.TheVariants.{Up, Down}
use Rattle.layer_mean.specs.declared.run.Case.{Case}
use Rattle.layer_mean.specs.declared.run.Case.TheVariants.{First, Second}
use Rattle.layer_mean.specs.declared.run.Event.{Event}
use Rattle.layer_mean.specs.declared.run.Row.{Row}
use Rattle.layer_mean.specs.Event.{carries}
use Rattle.layer_mean.specs.Headers.{header_of_tag}
use Rattle.layer_mean.specs.Tree.{Carried, part, whole, MessageTree, message, nothing, held, cut, tail, join}
use Rattle.layer_mean.specs.Tree.{ContentTree, TakenTree, StatementTree, bind, assign, assign_square, push, take}
use Rattle.layer_mean.specs.Tree.{branch, each, emit, StatementTrees, none, more, Expected, always, common, rare}
use Rattle.layer_mean.specs.Tree.{HandlerTree, LayerTree, no_layer}
use Rattle.layer_mean.specs.State.{State, flat_index, rows_at, row_at, has_room, with_number, with_row, without_front}
use Rattle.layer_mean.specs.Value.{Scope, is_true, val}
use Rattle.layer_mean.specs.Effect.{with_slot, row_of, with_taken}
use Rattle.layer_mean.specs.Visit.{Met, met, is_for, handler_for, entered_scope}
use Rattle.layer_mean.specs.Queue.{Task, Line, Work, is_place, layer_at, state_at, run_for, layers}
use Rattle.layer_mean.specs.Marked.{Log, Marked, marking_player}
use Rattle.layer_mean.specs.Way.{Step, way, ways, expected_way}
use Rattle.packet_mean.specs.ChainedState.{IsFrom, IsRow, IsState, IsEvent}
use Rattle.shape_laws.specs.Bare.{BareRow, BareMessage, BareTaken, BareContent, BareBeyond, BareSteps, BareWay}
use Rattle.shape_laws.specs.Bare.{BareHandled, BareVisit, BareNext}
use Rattle.shape_laws.specs.Law.{run_start}
use Rattle.shape_laws.specs.Walk.{Here, took}
use Rattle.shape_laws.proofs.Marks.{logs_tell_runs}
use Rattle.chain_laws.specs.Typed.{Carries, Sorted, Sends, Takes, with_taken_sort, Typed, TypedAll, sorts_of}
use Rattle.chain_laws.specs.Typed.{TypedHandler, TypedLayer}
use Rattle.chain_laws.specs.Runs.{TypedStack, AreChainedStates, IsChainedTask}
use Rattle.chain_laws.proofs.Lists.{Where, there, each_where}
use Rattle.chain_laws.proofs.Sorts.{IsScope, kept, number_keeps, front_keeps, row_keeps, rows_hold}
use Rattle.chain_laws.proofs.Values.{val_small, message_in_is}
use Rattle.chain_laws.proofs.Statements.{Stands, slot_keeps, taken_keeps, taken_back, row_is, row_numbers}
use Rattle.chain_laws.proofs.Visits.{come_headers, IsMet, arguments_small, found, met_is, entered_is, come_is, stands}
use Rattle.chain_laws.proofs.Runs.{comes, stands_typed, run_from_a_task}
use Rattle.member_laws.specs.Steps.{TypedRunsAreBare}

-- a task without its maker
abbrev unmarked : Task (Marked Event) → Task Event
unmarked t = record { at = t.at; dir = t.dir; event = t.event.event }

-- in whatever typed state and scope, the steps read bare parts
abbrev Going : (List Header → Type 0) → LayerTree → ℕ → List Sort → List Step → Type 0
Going P layer place sorts steps = (s : State) (l : Scope) (sent : List (Dir × Event)) → IsState P layer s →
    IsScope P sorts l →
    BareSteps place steps (record { state = s; scope = l; sent = sent })

pub if_bare : (b : Bool) (P : Here → Type 0) (h : Here) → (b ≡ true → P h) → BareBeyond P (if b then Some h else None)
if_bare true P h is = is refl
if_bare false P h is = tt

pub unless_bare : (b : Bool) (P : Here → Type 0) (h : Here) → P h → BareBeyond P (if b then None else Some h)
unless_bare true P h is = tt
unless_bare false P h is = is

pub took_bare : (row : Option Row) (P : Here → Type 0) (c i : ℕ) (taken : TakenTree) (h : Here) →
    ((r : Row) → row ≡ Some r → P (record h { state = without_front h.state c i; scope = with_taken taken r h.scope }))
    →
    BareBeyond P (took c i taken h row)
took_bare None P c i taken h is = tt
took_bare (Some r) P c i taken h is = is r refl

module _ (P Q : List Header → Type 0) (layer : LayerTree) (place : ℕ) (blank : List Header)
    (laws : Stands P Q layer place blank) where
  row_bare : (c i k : ℕ) (carried : Carried) (s : State) → Carries layer blank c carried → IsState P layer s →
      BareRow carried (row_at s c i k)
  row_bare c i k part s h state =
      (message_in_is P blank part h.rows.items (row_at s c i k) laws.blank_is h.blanks h.sort
      (each_where (IsRow P h.rows.items) (rows_at s c i) k (rows_hold P layer s c i h.rows state h.listed))).headers
  row_bare c i k (whole headers) s h state = tt

  message_bare : (m : MessageTree) (sorts : List Sort) (sort : Sort) (s : State) (l : Scope) →
      Sorted layer blank sorts sort m →
      IsState P layer s → BareMessage m s l
  message_bare (message k) sorts sort s l h state = tt
  message_bare nothing sorts sort s l h state = tt
  message_bare (held c i row carried) sorts sort s l h state = row_bare c (val i s l) (val row s l) carried s h.0 state
  message_bare (cut m from n) sorts sort s l h state = tt
  message_bare (tail m from) sorts sort s l h state = message_bare m sorts sort s l h state
  message_bare (join p m) sorts sort s l h state = message_bare m sorts sort s l h state

  pub content_bare : (sorts : List Sort) (b : Bool) (dir : Dir) (c : Option ContentTree) (s : State) (l : Scope) →
      Sends layer blank sorts b dir c → IsState P layer s → BareContent c s l
  content_bare sorts b dir None s l h state = tt
  content_bare sorts true Up (Some c) s l h state = message_bare c.message sorts Msg s l h state
  content_bare sorts true Down (Some c) s l h state = there (header_of_tag layer c.tag) _ h.declares
      (λ d listed is. message_bare c.message sorts _ s l is.1 state)
  content_bare sorts false dir (Some c) s l h state = absurd h

  pub taken_bare : (c i : ℕ) (item : Option (ℕ × Carried)) (sorts : List Sort) (s : State) →
      Takes layer blank sorts c item → IsState P layer s →
      BareTaken item (row_at s c i 0)
  taken_bare c i None sorts s h state = tt
  taken_bare c i (Some slot) sorts s h state = row_bare c i 0 slot.1 s h.0 state

  mutual
    statement_bare : (case : Case) (x : StatementTree) (sorts : List Sort) (rest : List Step) →
        Typed layer blank sorts x →
        Going P layer place sorts rest → Going P layer place sorts (way case x ++ rest)
    statement_bare case (bind k e) sorts rest h go s l sent state scope = (
      tt,
      go s (with_slot k (val e s l) l) sent state
          (slot_keeps P Q layer place blank laws sorts k (val e s l) l
          (val_small s l (kept P layer sorts s l state scope) e h) scope),
    )
    statement_bare case (assign c i e) sorts rest h go s l sent state scope = (
      tt,
      go (with_number s c (val i s l) (val e s l)) l sent
          (number_keeps P layer s c (val i s l) (val e s l) state
          (val_small s l (kept P layer sorts s l state scope) e h)) scope,
    )
    statement_bare case (assign_square c row column e) sorts rest h go s l sent state scope =
        let i = flat_index s.count (val row s l) (val column s l) in (
          tt,
          go (with_number s c i (val e s l)) l sent
              (number_keeps P layer s c i (val e s l) state (val_small s l (kept P layer sorts s l state scope) e h))
              scope,
        )
    statement_bare case (push c i capacity row otherwise) sorts rest h go s l sent state scope = (
      tt,
      if_bare (has_room s c (val i s l) capacity) (BareSteps place rest) _
          (λ room. go (with_row s c (val i s l) (row_of row s l)) l sent
          (row_keeps P layer s c (val i s l) capacity h.0.rows (row_of row s l) state h.0.listed h.0.room room
          (row_is P Q layer place blank laws sorts c capacity row s l h.0 state scope)) scope),
    )
    statement_bare case (take c i taken block otherwise) sorts rest h go s l sent state scope =
        let typed = with_taken_sort sorts taken.message in (
          taken_bare c (val i s l) taken.message sorts s h.0 state,
          took_bare (row_at s c (val i s l) 0) (BareSteps place (ways case block ++ rest)) c (val i s l) taken _
              (λ row is. block_bare case block typed rest h.1
              (λ t m sent state scope.
              go t m sent state (taken_back P Q layer place blank laws sorts taken.message c m h.0 scope))
              (without_front s c (val i s l)) (with_taken taken row l) sent (front_keeps P layer s c (val i s l) state)
              (taken_keeps P Q layer place blank laws sorts c (val i s l) taken.numbers taken.message row s l h.0 state
              is
              (row_numbers P Q layer place blank laws s c (val i s l) row
              (kept P layer [] s _ state (record { numbers_are = tt; messages_are = tt })) is) scope)),
        )
    statement_bare case (branch likely.First e block otherwise) sorts rest h go s l sent state scope = (
      tt,
      if_bare (is_true (val e s l)) (BareSteps place (ways case block ++ rest)) _
          (λ chosen. block_bare case block sorts rest h.0 go s l sent state scope),
    )
    statement_bare case (branch likely.Else e block otherwise) sorts rest h go s l sent state scope = (
      tt,
      unless_bare (is_true (val e s l)) (BareSteps place (ways case otherwise ++ rest)) _
          (block_bare case otherwise sorts rest h.1 go s l sent state scope),
    )
    statement_bare First (branch likely.Two e block otherwise) sorts rest h go s l sent state scope = (
      tt,
      if_bare (is_true (val e s l)) (BareSteps place (ways First block ++ rest)) _
          (λ chosen. block_bare First block sorts rest h.0 go s l sent state scope),
    )
    statement_bare Second (branch likely.Two e block otherwise) sorts rest h go s l sent state scope = (
      tt,
      unless_bare (is_true (val e s l)) (BareSteps place (ways Second otherwise ++ rest)) _
          (block_bare Second otherwise sorts rest h.1 go s l sent state scope),
    )
    statement_bare case (each k below most block) sorts rest h go s l sent state scope = (tt, tt)
    statement_bare case (emit e) sorts rest h go s l sent state scope =
        (content_bare sorts (carries e.kind) e.direction e.content s l h.1 state, go s l _ state scope)

    block_bare : (case : Case) (xs : StatementTrees) (sorts : List Sort) (rest : List Step) →
        TypedAll layer blank sorts xs →
        Going P layer place sorts rest → Going P layer place sorts (ways case xs ++ rest)
    block_bare case none sorts rest h go = go
    block_bare case (more x xs) sorts rest h go =
        subst (Going P layer place sorts) (sym (append_assoc (way case x) (ways case xs) rest))
        (statement_bare case x sorts (ways case xs ++ rest) h.0 (block_bare case xs sorts rest h.1 go))

  ended : (sorts : List Sort) → Going P layer place sorts []
  ended sorts s l sent state scope = tt

  way_bare : (case : Case) (xs : StatementTrees) (sorts : List Sort) → TypedAll layer blank sorts xs →
      Going P layer place sorts (ways case xs)
  way_bare case none sorts h = ended sorts
  way_bare case (more x xs) sorts h = statement_bare case x sorts (ways case xs) h.0 (way_bare case xs sorts h.1)

  expected_bare : (x : Expected) (steps : List Step) (sorts : List Sort) (s : State) (l : Scope) →
      Going P layer place sorts steps →
      IsState P layer s → IsScope P sorts l → BareWay place (expected_way x steps) s l
  expected_bare always steps sorts s l go state scope = go s l [] state scope
  expected_bare (common e) steps sorts s l go state scope =
      (tt, if_bare (is_true (val e s l)) (BareSteps place steps) _ (λ holds. go s l [] state scope))
  expected_bare rare steps sorts s l go state scope = tt

  handled_bare : (case : Case) (o : Option HandlerTree) (s : State) (dir : Dir) (e : Event) (m : Met) →
      Where (λ h. TypedHandler layer blank h × (is_for dir e.kind m.tag h ≡ true)) o → IsState P layer s →
      IsEvent (come_headers P Q dir) e →
      IsMet P layer dir (carries e.kind) m → BareHandled case place o s e m
  handled_bare case None s dir e m h state event is = tt
  handled_bare case (Some h) s dir e m typed state event is =
      let all = and_parts (sameb dir_row.the_type h.direction dir && sameb kind_row.the_type h.kind e.kind)
      (h.tag == m.tag) typed.1 in
      let both = and_parts (sameb dir_row.the_type h.direction dir) (sameb kind_row.the_type h.kind e.kind) all.0 in
      let scope = entered_is P Q layer place blank laws h e m dir (carries e.kind)
      (same_true dir_row.the_type tt h.direction dir both.0)
      (ap carries (same_true kind_row.the_type tt h.kind e.kind both.1)) (eqb-true h.tag m.tag all.1)
      (arguments_small (come_headers P Q dir) e.kind e event) is in
      expected_bare h.expected (ways case h.block) (sorts_of layer h) s (entered_scope h e m)
      (way_bare case h.block (sorts_of layer h) typed.0)
      state scope

  visit_bare : (case : Case) (s : State) (dir : Dir) (e : Event) → TypedLayer blank layer → IsState P layer s →
      IsEvent (come_headers P Q dir) e → BareVisit case place layer s dir e
  visit_bare case s dir e typed state event =
      let m = met dir e.message in
      handled_bare case (handler_for layer dir e.kind m.tag) s dir e m
      (found (TypedHandler layer blank) (is_for dir e.kind m.tag) layer.handlers typed.handlers) state event
      (met_is P Q layer place blank laws dir (carries e.kind) e.message event.message)

-- one task of a chained line
task_bare : (case : Case) (stack : List LayerTree) (w : Work) (t : Task Event) → TypedStack stack →
    AreChainedStates stack w.states →
    IsChainedTask stack t → is_place (length stack) t.at ≡ true →
    BareVisit case (t.at - 1) (layer_at stack t.at) (state_at w t.at) t.dir t.event
task_bare case stack w t typed states task placed =
    let bounds = and_parts (nat_le 1 t.at) (nat_le t.at (length stack)) placed in
    let first : 1 ≤ t.at = leb-true 1 t.at bounds.0 in
    let last : t.at ≤ length stack = leb-true t.at (length stack) bounds.1 in
    let place : ℕ = t.at - 1 in
    let below : place < length stack = omega (arith, first, last) in
    let layer : LayerTree = layer_at stack t.at in
    let at = stands_typed stack place layer typed (slice_get-get_or stack place no_layer below) in
    visit_bare (IsFrom stack (suc place)) (IsFrom stack place) layer place _
    (stands stack place _ layer at.listed at.blank_is) case
    (state_at w t.at) t.dir t.event at.typed (states.states_are place below)
    (come_is stack place t.dir t.event (comes stack t.at t.dir t.event first task.event))

next_bare : (case : Case) (stack : List LayerTree) (w : Work) (tasks : List (Task (Marked Event))) → TypedStack stack →
    AreChainedStates stack w.states → AllByRecursion (IsChainedTask stack) (map unmarked tasks) →
    BareNext case stack w tasks
next_bare case stack w [] typed states h = tt
next_bare case stack w (t ∷ rest) typed states h = λ placed. task_bare case stack w (unmarked t) typed states h.0 placed

pub typed_runs_are_bare : TypedRunsAreBare
typed_runs_are_bare case stack states task typed h is = λ k.
    let q : Line (Log Work Event) (Marked Event) =
    run_for (length stack) (marking_player (layers stack)) k (run_start states task) in
    let tells = logs_tell_runs stack states task k in
    let line = run_from_a_task stack k states task typed h is in
    next_bare case stack q.world.world q.tasks typed
    (subst (λ (w : Work). AreChainedStates stack w.states) (sym tells.world) line.states)
    (subst (AllByRecursion (IsChainedTask stack)) (sym tells.tasks) line.tasks)
