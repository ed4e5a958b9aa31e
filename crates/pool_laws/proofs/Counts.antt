-- No statement, visit or run changes how many members there are.
use Rattle.std.proofs.Common.{◌≡◌, ◌∙◌, ℕ, zero, suc, ◌-◌, ◌≤◌, Bool, true, false, List, [], ◌∷◌, ◌++◌, length, Option}
use Rattle.std.proofs.Common.{Some, None, refl, subst, sym}
use Rattle.std.specs.Prelude.{min, ◌==◌, if◌then◌else◌}
use Rattle.std.specs.List.{fold, AllByRecursion}
use Rattle.msg_core.specs.Chain.{Content}
use Rattle.layer_words.specs.declared.sorts.Likely.{Likely}
use Rattle.layer_words.specs.declared.sorts.Likely.TheVariants as likely
use Rattle.layer_words.specs.declared.events.Dir.{Dir}
use Rattle.layer_words.specs.declared.events.Dir.TheVariants.{Up, Down}
use Rattle.layer_mean.specs.declared.run.Event.{Event}
use Rattle.layer_mean.specs.declared.run.Row.{Row}
use Rattle.layer_mean.specs.Tree.{StatementTree, bind, assign, assign_square, push, take, branch, each, emit}
use Rattle.layer_mean.specs.Tree.{StatementTrees, none, more, Expected, always, common, rare, HandlerTree, LayerTree}
use Rattle.layer_mean.specs.State.{State, has_room, row_at, with_row, without_front}
use Rattle.layer_mean.specs.Value.{Scope, is_true, val}
use Rattle.layer_mean.specs.Effect.{Outcome, Act, done, after, in_order, decides, usual, unusual, turns, with_slot}
use Rattle.layer_mean.specs.Effect.{with_taken, row_of, chosen_outcome, taking, does, acts}
use Rattle.layer_mean.specs.Visit.{Met, Visited, met, handler_for, entered_scope, sent_on, unhandled_visit, expecting}
use Rattle.layer_mean.specs.Visit.{handled_visit}
use Rattle.layer_mean.specs.Visit.{step, no_state}
use Rattle.layer_mean.specs.Queue.{Task, Work, is_place, layer_at, state_at, visit_turn, taken_turn, next_of, run_for}
use Rattle.layer_mean.specs.Queue.{run}
use Rattle.layer_mean.specs.Queue.{layers, unstarted_work}
use Rattle.chain_laws.proofs.Lists.{each_change}
use Rattle.pool_laws.specs.Rows.{RunsKeepCounts, RunsStayWithin}

if_same : (n : ℕ) (b : Bool) (o p : Outcome) → o.state.count ≡ n → p.state.count ≡ n →
    (if b then o else p).state.count ≡ n
if_same n true o p h i = h
if_same n false o p h i = i

chosen_same : (n : ℕ) (b : Bool) (likely : Likely) (o p : Outcome) → o.state.count ≡ n → p.state.count ≡ n →
    (chosen_outcome b likely o p).state.count ≡ n
chosen_same n true likely.First o p h i = h
chosen_same n true likely.Else o p h i = h
chosen_same n true likely.Two o p h i = h
chosen_same n false likely.First o p h i = i
chosen_same n false likely.Else o p h i = i
chosen_same n false likely.Two o p h i = i

taking_same : (n : ℕ) (row : Option Row) (o : Row → Outcome) (p : Outcome) → ((r : Row) → (o r).state.count ≡ n) →
    p.state.count ≡ n →
    (taking row o p).state.count ≡ n
taking_same n None o p h i = i
taking_same n (Some r) o p h i = h r

turns_same : (n k : ℕ) (act : Act) (s : State) (l : Scope) →
    ((t : State) (m : Scope) → (act t m).state.count ≡ t.count) →
    (turns n k act s l).state.count ≡ s.count
turns_same zero k act s l h = refl
turns_same (suc n) k act s l h = h (turns n k act s l).state (with_slot k n (turns n k act s l).scope) ∙
    turns_same n k act s l h

module _ (place : ℕ) where
  mutual
    does_same : (x : StatementTree) (s : State) (l : Scope) → (does place x s l).state.count ≡ s.count
    does_same (bind k e) s l = refl
    does_same (assign c i e) s l = refl
    does_same (assign_square c row column e) s l = refl
    does_same (push c i capacity row otherwise) s l = if_same s.count (has_room s c (val i s l) capacity)
        (decides usual (done (with_row s c (val i s l) (row_of row s l)) l))
        (decides unusual (in_order (acts place otherwise) s l))
        refl (acts_same otherwise (done s l))
    does_same (take c i taken block otherwise) s l = taking_same s.count (row_at s c (val i s l) 0)
        (λ row. in_order (acts place block) (without_front s c (val i s l)) (with_taken taken row l))
        (in_order (acts place otherwise) s l)
        (λ row. acts_same block (done (without_front s c (val i s l)) (with_taken taken row l)))
        (acts_same otherwise (done s l))
    does_same (branch likely e block otherwise) s l = chosen_same s.count (is_true (val e s l)) likely
        (in_order (acts place block) s l) (in_order (acts place otherwise) s l) (acts_same block (done s l))
        (acts_same otherwise (done s l))
    does_same (each k below most block) s l = turns_same (min (val below s l) most) k (in_order (acts place block)) s l
        (λ t m. acts_same block (done t m))
    does_same (emit e) s l = refl

    acts_same : (xs : StatementTrees) (o : Outcome) → (fold after o (acts place xs)).state.count ≡ o.state.count
    acts_same none o = refl
    acts_same (more x rest) o = acts_same rest (after o (does place x)) ∙ does_same x o.state o.scope

  expecting_same : (n : ℕ) (e : Expected) (s : State) (l : Scope) (o : Outcome) → o.state.count ≡ n →
      (expecting e s l o).state.count ≡ n
  expecting_same n always s l o h = h
  expecting_same n (common e) s l o h = if_same n (is_true (val e s l)) (decides usual o) (decides unusual o) h h
  expecting_same n rare s l o h = h

  passed_same : (b : Bool) (v w : Visited) (n : ℕ) → v.state.count ≡ n → w.state.count ≡ n →
      (if b then v else w).state.count ≡ n
  passed_same true v w n h i = h
  passed_same false v w n h i = i

  unhandled_same : (s : State) (dir : Dir) (e : Event) (m : Met) (content : Option Content) →
      (unhandled_visit place s dir e m content).state.count ≡ s.count
  unhandled_same s dir e m None = refl
  unhandled_same s Down e m (Some content) = refl
  unhandled_same s Up e m (Some content) =
      passed_same (m.tag == 0) (sent_on s Up e (Some content)) (record { state = s; sent = []; decided = unusual ∷ [] })
      s.count refl refl

  handled_same : (h : Option HandlerTree) (s : State) (dir : Dir) (e : Event) (m : Met) →
      (handled_visit place h s dir e m).state.count ≡ s.count
  handled_same None s dir e m = unhandled_same s dir e m m.message
  handled_same (Some h) s dir e m = let l = entered_scope h e m in
      expecting_same s.count h.expected s l (in_order (acts place h.block) s l) (acts_same h.block (done s l))

step_same : (place : ℕ) (layer : LayerTree) (s : State) (dir : Dir) (e : Event) →
    (step place layer s dir e).state.count ≡ s.count
unfolding step
step_same place layer s dir e = let m = met dir e.message in handled_same place (handler_for layer dir e.kind m.tag) s
    dir e m

-- the states of a run: what holds of each one's number of members still does
module _ (stack : List LayerTree) (Q : ℕ → Type 0) where
  turn_keeps : (t : Task Event) (rest : List (Task Event)) (w : Work) →
      AllByRecursion (λ (s : State). Q s.count) w.states →
      AllByRecursion (λ (s : State). Q s.count) (next_of (length stack) (layers stack) (t ∷ rest) w).world.states
  turn_keeps t rest w h = go (is_place (length stack) t.at) where
    v : Visited
    v = step (t.at - 1) (layer_at stack t.at) (state_at w t.at) t.dir t.event

    go : (b : Bool) → AllByRecursion (λ (s : State). Q s.count)
        (if b then taken_turn t.at rest (visit_turn t.at w v)
        else record { world = record w { outs = w.outs ++ (t.dir, t.event) ∷ [] }; tasks = rest }).world.states
    go true = each_change (λ (s : State). Q s.count) w.states (t.at - 1) v.state no_state h
        (λ is. subst Q (sym (step_same (t.at - 1) (layer_at stack t.at) (state_at w t.at) t.dir t.event)) is)
    go false = h

  turns_keep : (n : ℕ) (tasks : List (Task Event)) (w : Work) → AllByRecursion (λ (s : State). Q s.count) w.states →
      AllByRecursion (λ (s : State). Q s.count)
      (run_for (length stack) (layers stack) n (record { world = w; tasks = tasks })).world.states
  turns_keep zero tasks w h = h
  turns_keep (suc n) [] w h = h
  turns_keep (suc n) (t ∷ rest) w h = let r = next_of (length stack) (layers stack) (t ∷ rest) w in
      turns_keep n r.tasks r.world (turn_keeps t rest w h)

pub runs_keep_counts : RunsKeepCounts
unfolding run
runs_keep_counts turns stack states first n h = turns_keep stack (λ count. count ≡ n) turns (first ∷ [])
    (unstarted_work states) h

pub runs_stay_within : RunsStayWithin
unfolding run
runs_stay_within turns stack states first most h =
    record { within = turns_keep stack (λ count. count ≤ most) turns (first ∷ []) (unstarted_work states) h.within }
