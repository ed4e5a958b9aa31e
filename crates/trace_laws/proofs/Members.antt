-- States stay those of their member.
use Rattle.std.proofs.Common.{◌≡◌, ℕ, zero, suc, ◌-◌, ◌<◌, Bool, true, false, List, [], ◌∷◌, ◌++◌, length, Option, Some}
use Rattle.std.proofs.Common.{None, refl, sym, ap, subst, arith}
use Rattle.std.specs.Prelude.{if◌then◌else◌, ◌==◌, min, nat_le, slice_set}
use Rattle.std.specs.List.{fold}
use Rattle.msg_core.specs.Chain.{Content}
use Rattle.layer_words.specs.declared.events.Dir.{Dir}
use Rattle.layer_words.specs.declared.events.Dir.TheVariants.{Up, Down}
use Rattle.layer_words.specs.declared.sorts.Likely.{Likely}
use Rattle.layer_words.specs.declared.sorts.Likely.TheVariants as likely
use Rattle.layer_mean.specs.declared.run.Event.{Event}
use Rattle.layer_mean.specs.declared.run.Row.{Row}
use Rattle.layer_mean.specs.Tree.{StatementTree, bind, assign, assign_square, push, take, branch, each, emit}
use Rattle.layer_mean.specs.Tree.{StatementTrees, none, more, Expected, always, common, rare, HandlerTree, LayerTree}
use Rattle.layer_mean.specs.State.{State, has_room, row_at, with_row, without_front}
use Rattle.layer_mean.specs.Value.{Scope, is_true, val}
use Rattle.layer_mean.specs.Effect.{usual, unusual, Outcome, Act, after, done, decides, in_order, turns, row_of}
use Rattle.layer_mean.specs.Effect.{with_slot, with_taken, chosen_outcome, taking, does, acts}
use Rattle.layer_mean.specs.Visit.{Met, met, handler_for, entered_scope, Visited, sent_on, unhandled_visit, expecting}
use Rattle.layer_mean.specs.Visit.{handled_visit}
use Rattle.layer_mean.specs.Visit.{step}
use Rattle.layer_mean.specs.Queue.{Task, Line, Work, tasks_of, is_place, next_of, run_for, run, layer_at, state_at}
use Rattle.layer_mean.specs.Queue.{visit_turn, layers, unstarted_work, starting}
use Rattle.shape_laws.proofs.Runs.{first_turn}
use Rattle.std.proofs.lemmas.Bool.{and_parts, leb-true}
use Rattle.trace_laws.specs.Members.{IsOf, AreOf, RunsKeepMembers}
use Rattle.trace_mean.specs.Worth.{Input, state_of}

-- the states of a member
pub are_long : (i : Input) (ls : List LayerTree) (ss : List State) → AreOf i ls ss → length ls ≡ length ss
are_long i [] [] are = refl
are_long i (l ∷ ls) (s ∷ ss) are = ap suc (are_long i ls ss are.1)
are_long i [] (s ∷ ss) are = absurd are
are_long i (l ∷ ls) [] are = absurd are

pub are_at : (i : Input) (ls : List LayerTree) (ss : List State) (p : ℕ) → AreOf i ls ss → p < length ss →
    IsOf i (state_of ss p)
are_at i [] [] p are lt = absurd (omega arith)
are_at i (l ∷ ls) (s ∷ ss) zero are lt = are.0
are_at i (l ∷ ls) (s ∷ ss) (suc p) are lt = are_at i ls ss p are.1 (omega arith)
are_at i [] (s ∷ ss) p are lt = absurd are
are_at i (l ∷ ls) [] p are lt = absurd are

pub are_set : (i : Input) (ls : List LayerTree) (ss : List State) (p : ℕ) (s : State) → AreOf i ls ss → IsOf i s →
    AreOf i ls (slice_set ss p s)
are_set i [] [] p s are of = tt
are_set i (l ∷ ls) (x ∷ ss) zero s are of = (of, are.1)
are_set i (l ∷ ls) (x ∷ ss) (suc p) s are of = (are.0, are_set i ls ss p s are.1 of)
are_set i [] (x ∷ ss) p s are of = absurd are
are_set i (l ∷ ls) [] p s are of = absurd are

pub inside_place : (places at : ℕ) → is_place places at ≡ true → at - 1 < places
inside_place places at is = let a = and_parts (nat_le 1 at) (nat_le at places) is in
    omega (arith, leb-true 1 at a.0, leb-true at places a.1)

module _ (i : Input) (place : ℕ) where
  abbrev Keeps : Act → Type 0
  Keeps act = (s : State) (l : Scope) → IsOf i s → IsOf i (act s l).state

  if_of : (b : Bool) (t : State) (l : Scope) (o : Outcome) → IsOf i t → IsOf i o.state →
      IsOf i (if b then decides usual (done t l) else decides unusual o).state
  if_of b t l o one other = go b where
    go : (b : Bool) → let p : Outcome = if b then decides usual (done t l) else decides unusual o in IsOf i p.state
    go true = one
    go false = other

  taking_of : (row : Option Row) (first : Row → Outcome) (second : Outcome) → ((r : Row) → IsOf i (first r).state) →
      IsOf i second.state →
      IsOf i (taking row first second).state
  taking_of None first second one other = other
  taking_of (Some r) first second one other = one r

  chosen_of : (b : Bool) (x : Likely) (first second : Outcome) → IsOf i first.state → IsOf i second.state →
      IsOf i (chosen_outcome b x first second).state
  chosen_of true likely.First first second one other = one
  chosen_of true likely.Else first second one other = one
  chosen_of true likely.Two first second one other = one
  chosen_of false likely.First first second one other = other
  chosen_of false likely.Else first second one other = other
  chosen_of false likely.Two first second one other = other

  turns_of : (k slot : ℕ) (act : Act) → Keeps act → Keeps (turns k slot act)
  turns_of zero slot act keeps s l of = of
  turns_of (suc k) slot act keeps s l of =
      let o = turns k slot act s l in keeps o.state (with_slot slot k o.scope) (turns_of k slot act keeps s l of)

  mutual
    does_of : (x : StatementTree) → Keeps (does place x)
    does_of (bind k e) s l of = of
    does_of (assign c e x) s l of = record { me = of.me; count = of.count; ltime = of.ltime }
    does_of (assign_square c row column x) s l of = record { me = of.me; count = of.count; ltime = of.ltime }
    does_of (push c e capacity row otherwise) s l of =
        if_of (has_room s c (val e s l) capacity) (with_row s c (val e s l) (row_of row s l)) l
        (in_order (acts place otherwise) s l)
        (record { me = of.me; count = of.count; ltime = of.ltime }) (acts_of otherwise (done s l) of)
    does_of (take c e taken block otherwise) s l of =
        taking_of (row_at s c (val e s l) 0)
        (λ row. in_order (acts place block) (without_front s c (val e s l)) (with_taken taken row l))
        (in_order (acts place otherwise) s l)
        (λ row. acts_of block (done (without_front s c (val e s l)) (with_taken taken row l))
        (record { me = of.me; count = of.count; ltime = of.ltime }))
        (acts_of otherwise (done s l) of)
    does_of (branch x e block otherwise) s l of = chosen_of (is_true (val e s l)) x (in_order (acts place block) s l)
        (in_order (acts place otherwise) s l)
        (acts_of block (done s l) of) (acts_of otherwise (done s l) of)
    does_of (each k below most block) s l of =
        turns_of (min (val below s l) most) k (in_order (acts place block)) (λ t m is. acts_of block (done t m) is) s l
        of
    does_of (emit e) s l of = of

    acts_of : (xs : StatementTrees) (o : Outcome) → IsOf i o.state → IsOf i (fold after o (acts place xs)).state
    acts_of none o of = of
    acts_of (more x xs) o of = acts_of xs (after o (does place x)) (does_of x o.state o.scope of)

  expecting_of : (x : Expected) (s : State) (l : Scope) (o : Outcome) → IsOf i o.state →
      IsOf i (expecting x s l o).state
  expecting_of always s l o of = of
  expecting_of rare s l o of = of
  expecting_of (common e) s l o of = go (is_true (val e s l)) where
    go : (b : Bool) → let p : Outcome = if b then decides usual o else decides unusual o in IsOf i p.state
    go true = of
    go false = of

  unhandled_of : (s : State) (dir : Dir) (e : Event) (m : Met) (c : Option Content) → IsOf i s →
      IsOf i (unhandled_visit place s dir e m c).state
  unhandled_of s dir e m None of = of
  unhandled_of s Down e m (Some c) of = of
  unhandled_of s Up e m (Some c) of = go (m.tag == 0) where
    go : (b : Bool) → let v : Visited =
        if b then sent_on s Up e (Some c) else record { state = s; sent = []; decided = unusual ∷ [] } in IsOf i v.state
    go true = of
    go false = of

  handled_of : (x : Option HandlerTree) (s : State) (dir : Dir) (e : Event) (m : Met) → IsOf i s →
      IsOf i (handled_visit place x s dir e m).state
  handled_of None s dir e m of = unhandled_of s dir e m m.message of
  handled_of (Some h) s dir e m of =
      expecting_of h.expected s (entered_scope h e m) (in_order (acts place h.block) s (entered_scope h e m))
      (acts_of h.block (done s (entered_scope h e m)) of)

  step_of : (layer : LayerTree) (s : State) (dir : Dir) (e : Event) → IsOf i s → IsOf i (step place layer s dir e).state
  unfolding step
  step_of layer s dir e of = handled_of (handler_for layer dir e.kind (met dir e.message).tag) s dir e
      (met dir e.message) of

turn_keeps : (i : Input) (stack : List LayerTree) (tasks : List (Task Event)) (w : Work) → AreOf i stack w.states →
    AreOf i stack (next_of (length stack) (layers stack) tasks w).world.states
turn_keeps i stack [] w are = are
turn_keeps i stack (t ∷ rest) w are = go (is_place (length stack) t.at) refl where
  v : Visited
  v = step (t.at - 1) (layer_at stack t.at) (state_at w t.at) t.dir t.event

  line : Bool → Line Work Event
  line b = if b then record { world = (visit_turn t.at w v).world; tasks = rest ++ tasks_of t.at v.sent }
      else record { world = record w { outs = w.outs ++ (t.dir, t.event) ∷ [] }; tasks = rest }

  go : (b : Bool) → is_place (length stack) t.at ≡ b → AreOf i stack (line b).world.states
  go false placed = are
  go true placed = are_set i stack w.states (t.at - 1) v.state are
      (step_of i (t.at - 1) (layer_at stack t.at) (state_at w t.at) t.dir t.event
      (are_at i stack w.states (t.at - 1) are
      (subst (λ n. t.at - 1 < n) (are_long i stack w.states are) (inside_place (length stack) t.at placed))))

run_keeps : (i : Input) (stack : List LayerTree) (k : ℕ) (r : Line Work Event) → AreOf i stack r.world.states →
    AreOf i stack (run_for (length stack) (layers stack) k r).world.states
run_keeps i stack zero r are = are
run_keeps i stack (suc k) r are = subst (λ (q : Line Work Event). AreOf i stack q.world.states)
    (sym (first_turn (length stack) (layers stack) k r.tasks r.world))
    (run_keeps i stack k (next_of (length stack) (layers stack) r.tasks r.world)
    (turn_keeps i stack r.tasks r.world are))

pub runs_keep_members : RunsKeepMembers
unfolding run
runs_keep_members i stack states most task are = run_keeps i stack most (starting (unstarted_work states) task) are
