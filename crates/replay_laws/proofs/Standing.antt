-- No statement, visit or run changes the rank, the number of members and the count of views of a state.
use Rattle.std.proofs.Common.{◌≡◌, ◌∙◌, ℕ, zero, suc, ◌+◌, ◌-◌, Bool, true, false, List, [], ◌∷◌, ◌++◌, map, length}
use Rattle.std.proofs.Common.{Option, Some, None, refl, ap, subst, arith}
use Rattle.std.specs.Prelude.{min, ◌==◌, if◌then◌else◌, slice_get, slice_index_or, slice_set, Result, Ok, Err}
use Rattle.std.specs.Prelude.{option_map}
use Rattle.std.specs.List.{fold, AllByRecursion, filter_map, range_with_len}
use Rattle.std.specs.Option.{option_map_or}
use Rattle.msg_core.specs.Chain.{Content}
use Rattle.msg_core.specs.View.{member_count, rank, first_view, next_view}
use Rattle.msg_core.specs.declared.packet.Packet.{Packet}
use Rattle.msg_core.specs.declared.packet.View.{View}
use Rattle.layer_words.specs.declared.sorts.Likely.{Likely}
use Rattle.layer_words.specs.declared.sorts.Likely.TheVariants as likely
use Rattle.layer_words.specs.declared.events.Dir.{Dir}
use Rattle.layer_words.specs.declared.events.Dir.TheVariants.{Up, Down}
use Rattle.layer_mean.specs.declared.run.Event.{Event}
use Rattle.layer_mean.specs.declared.run.Row.{Row}
use Rattle.layer_mean.specs.Tree.{StatementTree, bind, assign, assign_square, push, take, branch, each, emit}
use Rattle.layer_mean.specs.Tree.{StatementTrees, none, more, Expected, always, common, rare, HandlerTree, LayerTree}
use Rattle.layer_mean.specs.State.{State, has_room, row_at, with_row, without_front}
use Rattle.layer_mean.specs.Value.{Scope, is_true, val}
use Rattle.layer_mean.specs.Effect.{Outcome, Act, done, after, in_order, decides, usual, unusual, turns, with_slot}
use Rattle.layer_mean.specs.Effect.{with_taken, row_of, chosen_outcome, taking, does, acts}
use Rattle.layer_mean.specs.Visit.{Met, Visited, met, handler_for, entered_scope, sent_on, unhandled_visit, expecting}
use Rattle.layer_mean.specs.Visit.{handled_visit}
use Rattle.layer_mean.specs.Visit.{step, no_state, fresh}
use Rattle.layer_mean.specs.Queue.{Task, Work, is_place, layer_at, state_at, visit_turn, taken_turn, next_of, run_for}
use Rattle.layer_mean.specs.Queue.{run}
use Rattle.layer_mean.specs.Queue.{layers, unstarted_work}
use Rattle.packet_mean.specs.Spelling.{full_bytes}
use Rattle.stack_mean.specs.Plan.{Plan}
use Rattle.script_mean.specs.declared.event.ScriptEvent.TheVariants as script
use Rattle.run_mean.specs.Member as member
use Rattle.run_mean.specs.Member.{Member, inside, out, opened_member, Input, cast, send, leave, tick, datagram, Refusal}
use Rattle.run_mean.specs.Member.{Entered, announced_ranks, first_task, installed_member, most_turns, output_of}
use Rattle.run_mean.specs.Member.{step_from}
use Rattle.run_mean.specs.Member.{member_following}
use Rattle.run_mean.specs.World.{World, member_at, packet_number, here_of, stepped_inside, stepped_of, step_happening}
use Rattle.run_mean.specs.World.{given_packet}
use Rattle.run_mean.specs.World.{happens}
use Rattle.chain_laws.proofs.Lists.{each_change, some_and, there}
use Rattle.replay_laws.specs.Standing.{StandsAs, StandIn, IsStanding, RunsKeepStanding, OpenedIsStanding}
use Rattle.replay_laws.specs.Standing.{StepsKeepStanding, IsStandingWorld, FirstWorldIsStanding, EventsKeepStanding}
use Rattle.replay_laws.specs.Standing.{MomentsAreStanding}

-- what a state says of its member
abbrev Own : Type 0
Own = ℕ × ℕ × ℕ

abbrev own : State → Own
own s = (s.me, s.count, s.ltime)

if_same : (n : Own) (b : Bool) (o p : Outcome) → own o.state ≡ n → own p.state ≡ n → own (if b then o else p).state ≡ n
if_same n true o p h i = h
if_same n false o p h i = i

chosen_same : (n : Own) (b : Bool) (likely : Likely) (o p : Outcome) → own o.state ≡ n → own p.state ≡ n →
    own (chosen_outcome b likely o p).state ≡ n
chosen_same n true likely.First o p h i = h
chosen_same n true likely.Else o p h i = h
chosen_same n true likely.Two o p h i = h
chosen_same n false likely.First o p h i = i
chosen_same n false likely.Else o p h i = i
chosen_same n false likely.Two o p h i = i

taking_same : (n : Own) (row : Option Row) (o : Row → Outcome) (p : Outcome) → ((r : Row) → own (o r).state ≡ n) →
    own p.state ≡ n →
    own (taking row o p).state ≡ n
taking_same n None o p h i = i
taking_same n (Some r) o p h i = h r

turns_same : (n k : ℕ) (act : Act) (s : State) (l : Scope) → ((t : State) (m : Scope) → own (act t m).state ≡ own t) →
    own (turns n k act s l).state ≡ own s
turns_same zero k act s l h = refl
turns_same (suc n) k act s l h = h (turns n k act s l).state (with_slot k n (turns n k act s l).scope) ∙
    turns_same n k act s l h

module _ (place : ℕ) where
  mutual
    does_same : (x : StatementTree) (s : State) (l : Scope) → own (does place x s l).state ≡ own s
    does_same (bind k e) s l = refl
    does_same (assign c i e) s l = refl
    does_same (assign_square c row column e) s l = refl
    does_same (push c i capacity row otherwise) s l = if_same (own s) (has_room s c (val i s l) capacity)
        (decides usual (done (with_row s c (val i s l) (row_of row s l)) l))
        (decides unusual (in_order (acts place otherwise) s l))
        refl (acts_same otherwise (done s l))
    does_same (take c i taken block otherwise) s l = taking_same (own s) (row_at s c (val i s l) 0)
        (λ row. in_order (acts place block) (without_front s c (val i s l)) (with_taken taken row l))
        (in_order (acts place otherwise) s l)
        (λ row. acts_same block (done (without_front s c (val i s l)) (with_taken taken row l)))
        (acts_same otherwise (done s l))
    does_same (branch likely e block otherwise) s l = chosen_same (own s) (is_true (val e s l)) likely
        (in_order (acts place block) s l) (in_order (acts place otherwise) s l) (acts_same block (done s l))
        (acts_same otherwise (done s l))
    does_same (each k below most block) s l = turns_same (min (val below s l) most) k (in_order (acts place block)) s l
        (λ t m. acts_same block (done t m))
    does_same (emit e) s l = refl

    acts_same : (xs : StatementTrees) (o : Outcome) → own (fold after o (acts place xs)).state ≡ own o.state
    acts_same none o = refl
    acts_same (more x rest) o = acts_same rest (after o (does place x)) ∙ does_same x o.state o.scope

  expecting_same : (n : Own) (e : Expected) (s : State) (l : Scope) (o : Outcome) → own o.state ≡ n →
      own (expecting e s l o).state ≡ n
  expecting_same n always s l o h = h
  expecting_same n (common e) s l o h = if_same n (is_true (val e s l)) (decides usual o) (decides unusual o) h h
  expecting_same n rare s l o h = h

  passed_same : (b : Bool) (v w : Visited) (n : Own) → own v.state ≡ n → own w.state ≡ n →
      own (if b then v else w).state ≡ n
  passed_same true v w n h i = h
  passed_same false v w n h i = i

  unhandled_same : (s : State) (dir : Dir) (e : Event) (m : Met) (content : Option Content) →
      own (unhandled_visit place s dir e m content).state ≡ own s
  unhandled_same s dir e m None = refl
  unhandled_same s Down e m (Some content) = refl
  unhandled_same s Up e m (Some content) =
      passed_same (m.tag == 0) (sent_on s Up e (Some content)) (record { state = s; sent = []; decided = unusual ∷ [] })
      (own s) refl refl

  handled_same : (h : Option HandlerTree) (s : State) (dir : Dir) (e : Event) (m : Met) →
      own (handled_visit place h s dir e m).state ≡ own s
  handled_same None s dir e m = unhandled_same s dir e m m.message
  handled_same (Some h) s dir e m = let l = entered_scope h e m in
      expecting_same (own s) h.expected s l (in_order (acts place h.block) s l) (acts_same h.block (done s l))

step_same : (place : ℕ) (layer : LayerTree) (s : State) (dir : Dir) (e : Event) → own (step place layer s dir e).state ≡
    own s
unfolding step
step_same place layer s dir e = let m = met dir e.message in handled_same place (handler_for layer dir e.kind m.tag) s
    dir e m

-- the states of a run
module _ (stack : List LayerTree) (me count ltime : ℕ) where
  moved : (s t : State) → own t ≡ own s → StandsAs me count ltime s → StandsAs me count ltime t
  moved s t same h = record {
    me_is = ap (λ (x : Own). x.0) same ∙ h.me_is;
    count_is = ap (λ (x : Own). x.1) same ∙ h.count_is;
    ltime_is = ap (λ (x : Own). x.2) same ∙ h.ltime_is;
  }

  turn_keeps : (t : Task Event) (rest : List (Task Event)) (w : Work) →
      AllByRecursion (StandsAs me count ltime) w.states →
      AllByRecursion (StandsAs me count ltime) (next_of (length stack) (layers stack) (t ∷ rest) w).world.states
  turn_keeps t rest w h = go (is_place (length stack) t.at) where
    v : Visited
    v = step (t.at - 1) (layer_at stack t.at) (state_at w t.at) t.dir t.event

    go : (b : Bool) → AllByRecursion (StandsAs me count ltime)
        (if b then taken_turn t.at rest (visit_turn t.at w v)
        else record { world = record w { outs = w.outs ++ (t.dir, t.event) ∷ [] }; tasks = rest }).world.states
    go true = each_change (StandsAs me count ltime) w.states (t.at - 1) v.state no_state h
        (moved (state_at w t.at) v.state (step_same (t.at - 1) (layer_at stack t.at) (state_at w t.at) t.dir t.event))
    go false = h

  turns_keep : (n : ℕ) (tasks : List (Task Event)) (w : Work) → AllByRecursion (StandsAs me count ltime) w.states →
      AllByRecursion (StandsAs me count ltime)
      (run_for (length stack) (layers stack) n (record { world = w; tasks = tasks })).world.states
  turns_keep zero tasks w h = h
  turns_keep (suc n) [] w h = h
  turns_keep (suc n) (t ∷ rest) w h = let r = next_of (length stack) (layers stack) (t ∷ rest) w in
      turns_keep n r.tasks r.world (turn_keeps t rest w h)

pub runs_keep_standing : RunsKeepStanding
unfolding run
runs_keep_standing turns stack states first me count ltime h =
    turns_keep stack me count ltime turns (first ∷ []) (unstarted_work states) h

-- members

fresh_stand : (me count ltime : ℕ) (stack : List LayerTree) →
    AllByRecursion (StandsAs me count ltime) (map (λ layer. fresh layer me count ltime) stack)
fresh_stand me count ltime [] = tt
fresh_stand me count ltime (layer ∷ above) =
    (record { me_is = refl; count_is = refl; ltime_is = refl }, fresh_stand me count ltime above)

pub opened_is_standing : OpenedIsStanding
opened_is_standing stack view id = go (rank view id) refl where
  go : (o : Option ℕ) → rank view id ≡ o → IsStanding id
      (option_map_or (λ me. inside view (map (λ layer. fresh layer me (member_count view) view.ltime) stack)) o out)
  go None at = tt
  go (Some me) at = some_and (rank view id)
      (λ own. AllByRecursion (StandsAs own (member_count view) view.ltime)
      (map (λ layer. fresh layer me (member_count view) view.ltime) stack))
      me at (fresh_stand me (member_count view) view.ltime stack)

installed_stands : (stack : List LayerTree) (view : View) (id ranks : ℕ) →
    IsStanding id (installed_member stack view id ranks)
installed_stands stack view id ranks = go (next_view view ranks) where
  go : (o : Option View) → IsStanding id (option_map_or (λ next. opened_member stack next id) o out)
  go None = tt
  go (Some next) = opened_is_standing stack next id

after_stands : (stack : List LayerTree) (view : View) (id : ℕ) (states : List State) (first : Option ℕ) →
    StandIn view id states →
    IsStanding id (option_map_or (λ m. m) (option_map (installed_member stack view id) first) (inside view states))
after_stands stack view id states None h = h
after_stands stack view id states (Some ranks) h = installed_stands stack view id ranks

run_stands : (view : View) (id turns : ℕ) (stack : List LayerTree) (states : List State) (first : Task Event) →
    StandIn view id states →
    StandIn view id (run turns stack states first).world.states
run_stands view id turns stack states first h =
    there (rank view id) (λ me. AllByRecursion (StandsAs me (member_count view) view.ltime) states) h
    (λ me is each. some_and (rank view id)
    (λ me. AllByRecursion (StandsAs me (member_count view) view.ltime) (run turns stack states first).world.states) me
    is
    (runs_keep_standing turns stack states first me (member_count view) view.ltime each))

pub steps_keep_standing : StepsKeepStanding
steps_keep_standing stack here id states what h =
    let work = (run most_turns stack states (first_task stack here.rank what)).world in
    after_stands stack here.view id work.states
    (slice_get (filter_map announced_ranks (map (output_of here) work.outs)) 0)
    (run_stands here.view id most_turns stack states (first_task stack here.rank what) h)

-- worlds

-- what holds of each place of a list still does, where it holds of what is put at one
set_stays : {A : Type 0} (P : ℕ → A → Type 0) (xs : List A) (i : ℕ) (y d : A) →
    ((j : ℕ) → P j (slice_index_or xs j d)) → P i y → (j : ℕ) →
    P j (slice_index_or (slice_set xs i y) j d)
set_stays P [] i y d h k j = h j
set_stays P (x ∷ xs) zero y d h k zero = k
set_stays P (x ∷ xs) zero y d h k (suc j) = h (suc j)
set_stays P (x ∷ xs) (suc i) y d h k zero = h zero
set_stays P (x ∷ xs) (suc i) y d h k (suc j) = set_stays (λ n. P (suc n)) xs i y d (λ n. h (suc n)) k j

ranged : {A : Type 0} (P : ℕ → A → Type 0) (f : ℕ → A) (d : A) → ((k : ℕ) → P k (f k)) → ((k : ℕ) → P k d) →
    (n k i : ℕ) →
    P (k + i) (slice_index_or (map f (range_with_len k n)) i d)
ranged P f d made missing zero k i = missing (k + i)
ranged P f d made missing (suc n) k zero = let same : k ≡ k + 0 = omega arith in subst (λ m. P m (f k)) same (made k)
ranged P f d made missing (suc n) k (suc i) =
    let same : k + 1 + i ≡ k + suc i = omega arith in
    subst (λ m. P m (slice_index_or (map f (range_with_len (k + 1) n)) i d)) same
    (ranged P f d made missing n (k + 1) i)

pub first_world_is_standing : FirstWorldIsStanding
first_world_is_standing stack group stamp n id =
    let same : 0 + id ≡ id = omega arith in
    subst (λ m. IsStanding m (slice_index_or (map (opened_member stack (first_view n)) (range_with_len 0 n)) id out))
    same
    (ranged IsStanding (opened_member stack (first_view n)) out (λ k. opened_is_standing stack (first_view n) k)
    (λ k. tt) n 0
    id)

module _ (stack : List LayerTree) (plans : List Plan) (w : World) (h : IsStandingWorld w) where
  inside_keeps : (id : ℕ) (view : View) (states : List State) (r : Result Entered Refusal) → StandIn view id states →
      IsStandingWorld (stepped_inside stack w id view states r).world
  inside_keeps id view states (Err refusal) is = h
  inside_keeps id view states (Ok what) is =
      let here = here_of w view id in
      set_stays IsStanding w.members id (member_following view (step_from stack here id states what)) out h
      (steps_keep_standing stack here id states what is)

  member_keeps : (id : ℕ) (input : Input) (m : Member) → IsStanding id m →
      IsStandingWorld (stepped_of stack plans w id input m).world
  member_keeps id input out is = h
  member_keeps id input (inside view states) is =
      inside_keeps id view states (member.entered_input stack plans (here_of w view id) input) is

  stepped_keeps : (id : ℕ) (input : Input) → IsStandingWorld (step_happening stack plans w id input).world
  stepped_keeps id input = member_keeps id input (member_at w id) (h id)

  given_keeps : (id : ℕ) (p : Option Packet) → IsStandingWorld (given_packet stack plans w id p).world
  given_keeps id None = h
  given_keeps id (Some p) = stepped_keeps id (datagram (full_bytes p))

pub events_keep_standing : EventsKeepStanding
unfolding happens
events_keep_standing stack plans w (script.Cast id body) h = stepped_keeps stack plans w h id (cast body)
events_keep_standing stack plans w (script.Send id to body) h = stepped_keeps stack plans w h id (send to body)
events_keep_standing stack plans w (script.Leave id) h = stepped_keeps stack plans w h id leave
events_keep_standing stack plans w (script.Tick id moment) h = stepped_keeps stack plans w h id (tick moment)
events_keep_standing stack plans w (script.Give k id) h = given_keeps stack plans w h id (packet_number w k)
events_keep_standing stack plans w (script.Raw id bytes) h = stepped_keeps stack plans w h id (datagram bytes)
events_keep_standing stack plans w (script.Show id) h = h

pub moments_are_standing : MomentsAreStanding
moments_are_standing stack plans w [] h = tt
moments_are_standing stack plans w (e ∷ events) h =
    let next = events_keep_standing stack plans w e h in
    ((h, next), moments_are_standing stack plans (happens stack plans w e).world events next)
