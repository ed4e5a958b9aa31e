-- What holds at each typed step in a typed state and scope holds along the predicted ways of typed layers.
use Rattle.std.proofs.Common.{◌≡◌, ℕ, true, false, List, [], ◌++◌, Option, Some, None, sym, ap, subst}
use Rattle.std.specs.Prelude.{◌==◌, ◌&&◌}
use Rattle.std.specs.List.{AllByRecursion}
use Rattle.std.proofs.lemmas.Bool.{and_parts, eqb-true}
use Rattle.std.proofs.lemmas.List.{append_assoc}
use denote.Enum.Bare.{sameb, same_true}
use Rattle.msg_core.specs.declared.message.Header.{Header}
use Rattle.layer_words.specs.contracts.events.Dir as dir_row
use Rattle.layer_words.specs.contracts.events.Kind as kind_row
use Rattle.layer_words.specs.declared.sorts.Likely.TheVariants as likely
use Rattle.layer_words.specs.declared.sorts.Sort.{Sort}
use Rattle.layer_words.specs.declared.events.Dir.{Dir}
use Rattle.layer_mean.specs.declared.run.Case.{Case}
use Rattle.layer_mean.specs.declared.run.Case.TheVariants.{First, Second}
use Rattle.layer_mean.specs.declared.run.Event.{Event}
use Rattle.layer_mean.specs.Event.{carries}
use Rattle.layer_mean.specs.Tree.{StatementTree, bind, assign, assign_square, push, take, branch, each, emit}
use Rattle.layer_mean.specs.Tree.{StatementTrees, none, more, Expected, always, common, rare, HandlerTree, LayerTree}
use Rattle.layer_mean.specs.State.{State, flat_index, row_at, has_room, with_number, with_row, without_front}
use Rattle.layer_mean.specs.Value.{Scope, is_true, val}
use Rattle.layer_mean.specs.Effect.{with_slot, row_of, with_taken}
use Rattle.layer_mean.specs.Visit.{Met, met, is_for, handler_for, entered_scope}
use Rattle.layer_mean.specs.Way.{Step, test, fork, set_slot, set_number, set_square, put, get, send, loop, way, ways}
use Rattle.layer_mean.specs.Way.{expected_way}
use Rattle.packet_mean.specs.ChainedState.{IsState, IsEvent}
use Rattle.shape_laws.specs.Walk.{Here}
use Rattle.chain_laws.specs.Typed.{Small, Sends, Pushes, Takes, with_taken_sort, Typed, TypedAll, sorts_of}
use Rattle.chain_laws.specs.Typed.{TypedHandler, TypedLayer}
use Rattle.chain_laws.proofs.Lists.{Where}
use Rattle.chain_laws.proofs.Sorts.{IsScope, kept, number_keeps, front_keeps, row_keeps}
use Rattle.chain_laws.proofs.Values.{val_small}
use Rattle.chain_laws.proofs.Statements.{Stands, slot_keeps, taken_keeps, taken_back, row_is, row_numbers}
use Rattle.chain_laws.proofs.Visits.{come_headers, IsMet, arguments_small, found, met_is, entered_is}
use Rattle.member_laws.proofs.Bare.{if_bare, unless_bare, took_bare}
use Rattle.trace_laws.specs.Along.{Along, AlongWay, AlongHandled, AlongVisit}

-- what the typing of a statement says of its step
abbrev pub TypedStep : LayerTree → List Header → List Sort → Step → Type 0
TypedStep layer blank sorts (put c i capacity row) = Pushes layer blank sorts c capacity row
TypedStep layer blank sorts (get c i taken) = Takes layer blank sorts c taken.message
TypedStep layer blank sorts (send e) = AllByRecursion Small e.numbers ×
    Sends layer blank sorts (carries e.kind) e.direction e.content
TypedStep layer blank sorts _ = Unit {0}

module _ (P Q : List Header → Type 0) (layer : LayerTree) (place : ℕ) (blank : List Header)
    (laws : Stands P Q layer place blank)
    (At : Step → Here → Type 0)
    (fact : (x : Step) (sorts : List Sort) (s : State) (l : Scope) (sent : List (Dir × Event)) →
    TypedStep layer blank sorts x →
    IsState P layer s → IsScope P sorts l → At x (record { state = s; scope = l; sent = sent })) where
  -- in whatever typed state and scope
  abbrev Going : List Sort → List Step → Type 0
  Going sorts steps = (s : State) (l : Scope) (sent : List (Dir × Event)) → IsState P layer s → IsScope P sorts l →
      Along At place steps (record { state = s; scope = l; sent = sent })

  mutual
    statement_goes : (case : Case) (x : StatementTree) (sorts : List Sort) (rest : List Step) →
        Typed layer blank sorts x →
        Going sorts rest → Going sorts (way case x ++ rest)
    statement_goes case (bind k e) sorts rest h go s l sent state scope = (
      fact (set_slot k e) sorts s l sent tt state scope,
      go s (with_slot k (val e s l) l) sent state
          (slot_keeps P Q layer place blank laws sorts k (val e s l) l
          (val_small s l (kept P layer sorts s l state scope) e h) scope),
    )
    statement_goes case (assign c i e) sorts rest h go s l sent state scope = (
      fact (set_number c i e) sorts s l sent tt state scope,
      go (with_number s c (val i s l) (val e s l)) l sent
          (number_keeps P layer s c (val i s l) (val e s l) state
          (val_small s l (kept P layer sorts s l state scope) e h)) scope,
    )
    statement_goes case (assign_square c row column e) sorts rest h go s l sent state scope =
        let i = flat_index s.count (val row s l) (val column s l) in (
          fact (set_square c row column e) sorts s l sent tt state scope,
          go (with_number s c i (val e s l)) l sent
              (number_keeps P layer s c i (val e s l) state (val_small s l (kept P layer sorts s l state scope) e h))
              scope,
        )
    statement_goes case (push c i capacity row otherwise) sorts rest h go s l sent state scope = (
      fact (put c i capacity row) sorts s l sent h.0 state scope,
      if_bare (has_room s c (val i s l) capacity) (Along At place rest) _
          (λ room. go (with_row s c (val i s l) (row_of row s l)) l sent
          (row_keeps P layer s c (val i s l) capacity h.0.rows (row_of row s l) state h.0.listed h.0.room room
          (row_is P Q layer place blank laws sorts c capacity row s l h.0 state scope)) scope),
    )
    statement_goes case (take c i taken block otherwise) sorts rest h go s l sent state scope =
        let typed = with_taken_sort sorts taken.message in (
          fact (get c i taken) sorts s l sent h.0 state scope,
          took_bare (row_at s c (val i s l) 0) (Along At place (ways case block ++ rest)) c (val i s l) taken _
              (λ row is. block_goes case block typed rest h.1
              (λ t m sent state scope.
              go t m sent state (taken_back P Q layer place blank laws sorts taken.message c m h.0 scope))
              (without_front s c (val i s l)) (with_taken taken row l) sent (front_keeps P layer s c (val i s l) state)
              (taken_keeps P Q layer place blank laws sorts c (val i s l) taken.numbers taken.message row s l h.0 state
              is
              (row_numbers P Q layer place blank laws s c (val i s l) row
              (kept P layer [] s _ state (record { numbers_are = tt; messages_are = tt })) is) scope)),
        )
    statement_goes case (branch likely.First e block otherwise) sorts rest h go s l sent state scope = (
      fact (test true e) sorts s l sent tt state scope,
      if_bare (is_true (val e s l)) (Along At place (ways case block ++ rest)) _
          (λ chosen. block_goes case block sorts rest h.0 go s l sent state scope),
    )
    statement_goes case (branch likely.Else e block otherwise) sorts rest h go s l sent state scope = (
      fact (test false e) sorts s l sent tt state scope,
      unless_bare (is_true (val e s l)) (Along At place (ways case otherwise ++ rest)) _
          (block_goes case otherwise sorts rest h.1 go s l sent state scope),
    )
    statement_goes First (branch likely.Two e block otherwise) sorts rest h go s l sent state scope = (
      fact (fork First e) sorts s l sent tt state scope,
      if_bare (is_true (val e s l)) (Along At place (ways First block ++ rest)) _
          (λ chosen. block_goes First block sorts rest h.0 go s l sent state scope),
    )
    statement_goes Second (branch likely.Two e block otherwise) sorts rest h go s l sent state scope = (
      fact (fork Second e) sorts s l sent tt state scope,
      unless_bare (is_true (val e s l)) (Along At place (ways Second otherwise ++ rest)) _
          (block_goes Second otherwise sorts rest h.1 go s l sent state scope),
    )
    statement_goes case (each k below most block) sorts rest h go s l sent state scope =
        (fact loop sorts s l sent tt state scope, tt)
    statement_goes case (emit e) sorts rest h go s l sent state scope =
        (fact (send e) sorts s l sent h state scope, go s l _ state scope)

    block_goes : (case : Case) (xs : StatementTrees) (sorts : List Sort) (rest : List Step) →
        TypedAll layer blank sorts xs →
        Going sorts rest → Going sorts (ways case xs ++ rest)
    block_goes case none sorts rest h go = go
    block_goes case (more x xs) sorts rest h go =
        subst (Going sorts) (sym (append_assoc (way case x) (ways case xs) rest))
        (statement_goes case x sorts (ways case xs ++ rest) h.0 (block_goes case xs sorts rest h.1 go))

  ended : (sorts : List Sort) → Going sorts []
  ended sorts s l sent state scope = tt

  way_goes : (case : Case) (xs : StatementTrees) (sorts : List Sort) → TypedAll layer blank sorts xs →
      Going sorts (ways case xs)
  way_goes case none sorts h = ended sorts
  way_goes case (more x xs) sorts h = statement_goes case x sorts (ways case xs) h.0 (way_goes case xs sorts h.1)

  expected_goes : (x : Expected) (steps : List Step) (sorts : List Sort) (s : State) (l : Scope) → Going sorts steps →
      IsState P layer s → IsScope P sorts l → AlongWay At place (expected_way x steps) s l
  expected_goes always steps sorts s l go state scope = go s l [] state scope
  expected_goes (common e) steps sorts s l go state scope = (
    fact (test true e) sorts s l [] tt state scope,
    if_bare (is_true (val e s l)) (Along At place steps) _ (λ holds. go s l [] state scope),
  )
  expected_goes rare steps sorts s l go state scope = tt

  handled_goes : (case : Case) (o : Option HandlerTree) (s : State) (dir : Dir) (e : Event) (m : Met) →
      Where (λ h. TypedHandler layer blank h × (is_for dir e.kind m.tag h ≡ true)) o → IsState P layer s →
      IsEvent (come_headers P Q dir) e →
      IsMet P layer dir (carries e.kind) m → AlongHandled At case place o s e m
  handled_goes case None s dir e m h state event is = tt
  handled_goes case (Some h) s dir e m typed state event is =
      let all = and_parts (sameb dir_row.the_type h.direction dir && sameb kind_row.the_type h.kind e.kind)
      (h.tag == m.tag) typed.1 in
      let both = and_parts (sameb dir_row.the_type h.direction dir) (sameb kind_row.the_type h.kind e.kind) all.0 in
      let scope = entered_is P Q layer place blank laws h e m dir (carries e.kind)
      (same_true dir_row.the_type tt h.direction dir both.0)
      (ap carries (same_true kind_row.the_type tt h.kind e.kind both.1)) (eqb-true h.tag m.tag all.1)
      (arguments_small (come_headers P Q dir) e.kind e event) is in
      expected_goes h.expected (ways case h.block) (sorts_of layer h) s (entered_scope h e m)
      (way_goes case h.block (sorts_of layer h) typed.0)
      state scope

  pub visit_goes : (case : Case) (s : State) (dir : Dir) (e : Event) → TypedLayer blank layer → IsState P layer s →
      IsEvent (come_headers P Q dir) e → AlongVisit At case place layer s dir e
  visit_goes case s dir e typed state event =
      let m = met dir e.message in
      handled_goes case (handler_for layer dir e.kind m.tag) s dir e m
      (found (TypedHandler layer blank) (is_for dir e.kind m.tag) layer.handlers typed.handlers) state event
      (met_is P Q layer place blank laws dir (carries e.kind) e.message event.message)
