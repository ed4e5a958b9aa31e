-- Runs keep chains, turn by turn.
use Rattle.std.proofs.Common.{◌≡◌, ◌∙◌, ℕ, zero, suc, ◌+◌, ◌-◌, ◌<◌, ◌≤◌, Bool, true, false, List, [], ◌∷◌, ◌++◌}
use Rattle.std.proofs.Common.{length, Some, refl, subst, arith}
use Rattle.std.specs.Prelude.{MatchBool, nat_le, ◌&&◌, if◌then◌else◌, drop, slice_get, slice_index_or, slice_set}
use Rattle.std.specs.List.{AllByRecursion}
use Rattle.std.proofs.lemmas.Bool.{and_parts, leb-true, leb-false}
use Rattle.std.proofs.lemmas.Option.{slice_get-get_or}
use Rattle.std.proofs.Math.ListN.{length-set, length-drop}
use Rattle.msg_core.specs.declared.message.Header.{Header}
use Rattle.layer_words.specs.declared.events.Dir.{Dir}
use Rattle.layer_words.specs.declared.events.Dir.TheVariants.{Up, Down}
use Rattle.layer_mean.specs.declared.run.Event.{Event}
use Rattle.layer_mean.specs.Headers.{header_of_tag}
use Rattle.layer_mean.specs.Tree.{LayerTree, no_layer}
use Rattle.layer_mean.specs.State.{State}
use Rattle.layer_mean.specs.Visit.{Visited, step, no_state}
use Rattle.layer_mean.specs.Queue.{Task, Work, beyond, tasks_of, is_place, taken_turn, next_of, run_for, layer_at}
use Rattle.layer_mean.specs.Queue.{state_at, visit_turn, layers, unstarted_work, run}
use Rattle.packet_mean.specs.Chained.{IsChain}
use Rattle.packet_mean.specs.ChainedState.{Numbers, IsFrom, IsEvent, IsChainedState, IsChainedEvent}
use Rattle.chain_laws.specs.Typed.{TypedLayer}
use Rattle.chain_laws.specs.Visits.{StandsTyped, IsChainedSent, StaysChained}
use Rattle.chain_laws.specs.Runs.{blanks, TypedLayers, TypedStack, AreChainedStates, IsOnItsWay, task_place}
use Rattle.chain_laws.specs.Runs.{IsChainedTask, IsChainedOut, IsChainedLine, TurnsKeepChains, RunsKeepChains}
use Rattle.chain_laws.specs.Runs.{RunFromATask, ChainsAreShort}
use Rattle.chain_laws.proofs.Lists.{there, each_append, each_map}
use Rattle.chain_laws.proofs.Visits.{visits_keep_chains}

-- blank headers are a chain
blanks_chain : (above : List LayerTree) (place : ℕ) → IsChain above place (blanks place above)
blanks_chain [] place = refl
blanks_chain (layer ∷ above) place = (refl, refl, blanks_chain above (suc place))

blanks_fields : (above : List LayerTree) (place : ℕ) → AllByRecursion (λ h. Numbers h.fields) (blanks place above)
blanks_fields [] place = tt
blanks_fields (layer ∷ above) place = (tt, blanks_fields above (suc place))

-- the layers of a typed stack stand typed
typed_at : (above : List LayerTree) (place k : ℕ) (layer : LayerTree) → TypedLayers place above →
    slice_get above k ≡ Some layer →
    TypedLayer (blanks (suc (place + k)) (drop (suc k) above)) layer
typed_at [] place k layer h is = absurd (cc is)
typed_at (first ∷ above) place zero layer h is =
    let e : place ≡ place + 0 = omega arith in
    subst (λ p. TypedLayer (blanks (suc p) above) layer) e
    (subst (λ l. TypedLayer (blanks (suc place) above) l) (cc is) h.0)
typed_at (first ∷ above) place (suc k) layer h is =
    let e : suc place + k ≡ place + suc k = omega arith in
    subst (λ p. TypedLayer (blanks (suc p) (drop (suc k) above)) layer) e (typed_at above (suc place) k layer h.1 is)

pub stands_typed : (stack : List LayerTree) (place : ℕ) (layer : LayerTree) → TypedStack stack →
    slice_get stack place ≡ Some layer →
    StandsTyped stack place (blanks (suc place) (drop (suc place) stack)) layer
stands_typed stack place layer h is = record {
  listed = is;
  blank_is = record {
    chain = blanks_chain (drop (suc place) stack) (suc place);
    fields = blanks_fields (drop (suc place) stack) (suc place);
  };
  typed =
      let e : 0 + place ≡ place = omega arith in
      subst (λ p. TypedLayer (blanks (suc p) (drop (suc place) stack)) layer) e (typed_at stack 0 place layer h is);
}

-- what holds of each place of a list still does where one was changed
set_at : {A : Type 0} (P : ℕ → A → Type 0) (xs : List A) (k : ℕ) (y d : A) →
    ((p : ℕ) → p < length xs → P p (slice_index_or xs p d)) → P k y →
    (p : ℕ) → p < length xs → P p (slice_index_or (slice_set xs k y) p d)
set_at P [] k y d h i p below = absurd (omega arith)
set_at P (x ∷ xs) zero y d h i zero below = i
set_at P (x ∷ xs) zero y d h i (suc p) below = h (suc p) below
set_at P (x ∷ xs) (suc k) y d h i zero below = h 0 below
set_at P (x ∷ xs) (suc k) y d h i (suc p) below =
    set_at (λ p. P (suc p)) xs k y d (λ p below. h (suc p) (omega (arith, below))) i p (omega (arith, below))

pub states_set : (stack : List LayerTree) (states : List State) (place : ℕ) (s : State) →
    AreChainedStates stack states →
    IsChainedState stack place s → AreChainedStates stack (slice_set states place s)
states_set stack states place s h is = record {
  count = length-set states place s ∙ h.count;
  states_are = λ p below. set_at (IsChainedState stack) states place s no_state
      (λ p below. h.states_are p (omega (arith, below, h.count))) is p (omega (arith, below, h.count));
}

-- a task that arrives at a place, and what a place sends

pub comes : (stack : List LayerTree) (at : ℕ) (dir : Dir) (e : Event) → 1 ≤ at →
    IsEvent (IsFrom stack (task_place dir at)) e →
    IsChainedEvent stack (at - 1) dir e
comes stack at Up e placed h = h
comes stack at Down e placed h = let same : at ≡ suc (at - 1) = omega arith in
    subst (λ p. IsEvent (IsFrom stack p) e) same h

goes : (stack : List LayerTree) (at : ℕ) (dir : Dir) (e : Event) → 1 ≤ at → at ≤ length stack →
    IsChainedSent stack (at - 1) (dir, e) →
    IsChainedTask stack (record { at = beyond dir at; dir = dir; event = e })
goes stack at Up e placed within h = record {
  way = (omega arith, omega (arith, within));
  event = let same : suc (at - 1) ≡ at + 1 - 1 = omega arith in subst (λ p. IsEvent (IsFrom stack p) e) same h;
}
goes stack at Down e placed within h = record { way = omega (arith, within); event = h }

-- a task that is at no place is at the edge that it goes to

other_false : (a b : Bool) → (a && b) ≡ false → a ≡ true → b ≡ false
other_false true b h is = h
other_false false b h is = absurd (cc is)

le_true : (m n : ℕ) (b : Bool) → nat_le m n ≡ b → m ≤ n → nat_le m n ≡ true
le_true m n true is h = is
le_true m n false is h = absurd (omega (arith, leb-false m n is, h))

past : (places at : ℕ) → is_place places at ≡ false → 1 ≤ at → places < at
past places at off first =
    leb-false at places (other_false (nat_le 1 at) (nat_le at places) off (le_true 1 at (nat_le 1 at) refl first))

edges : (stack : List LayerTree) (at : ℕ) (dir : Dir) (e : Event) → is_place (length stack) at ≡ false →
    IsOnItsWay stack dir at →
    IsEvent (IsFrom stack (task_place dir at)) e → IsChainedOut stack (dir, e)
edges stack at Up e off way h =
    let same : at - 1 ≡ length stack = omega (arith, past (length stack) at off way.0, way.1) in
    subst (λ p. IsEvent (IsFrom stack p) e) same h
edges stack zero Down e off way h = h
edges stack (suc at) Down e off way h = absurd (omega (arith, past (length stack) (suc at) off (omega arith), way))

-- one task
module _ (stack : List LayerTree) (typed : TypedStack stack) where
  visit_keeps : (t : Task Event) (w : Work) → is_place (length stack) t.at ≡ true → AreChainedStates stack w.states →
      IsChainedTask stack t →
      StaysChained stack (t.at - 1) (step (t.at - 1) (layer_at stack t.at) (state_at w t.at) t.dir t.event)
  visit_keeps t w placed states task =
      let bounds = and_parts (nat_le 1 t.at) (nat_le t.at (length stack)) placed in
      let first : 1 ≤ t.at = leb-true 1 t.at bounds.0 in
      let last : t.at ≤ length stack = leb-true t.at (length stack) bounds.1 in
      let below : t.at - 1 < length stack = omega (arith, first, last) in
      visits_keep_chains stack (t.at - 1) _ (layer_at stack t.at) (state_at w t.at) t.dir t.event
      (stands_typed stack (t.at - 1) (layer_at stack t.at) typed (slice_get-get_or stack (t.at - 1) no_layer below))
      (states.states_are (t.at - 1) below) (comes stack t.at t.dir t.event first task.event)

  turn_keeps : (t : Task Event) (rest : List (Task Event)) (w : Work) → AreChainedStates stack w.states →
      AllByRecursion (IsChainedOut stack) w.outs → IsChainedTask stack t → AllByRecursion (IsChainedTask stack) rest →
      IsChainedLine stack (next_of (length stack) (layers stack) (t ∷ rest) w)
  turn_keeps t rest w states outs task tasks = go (is_place (length stack) t.at) refl where
    v : Visited
    v = step (t.at - 1) (layer_at stack t.at) (state_at w t.at) t.dir t.event

    go : (b : Bool) → is_place (length stack) t.at ≡ b → IsChainedLine stack
        (if b then taken_turn t.at rest (visit_turn t.at w v) else record
        { world = record w { outs = w.outs ++ (t.dir, t.event) ∷ [] }; tasks = rest })
    go true placed =
        let stays = visit_keeps t w placed states task in
        let bounds = and_parts (nat_le 1 t.at) (nat_le t.at (length stack)) placed in
        record {
          states = states_set stack w.states (t.at - 1) v.state states stays.state;
          outs = outs;
          tasks = each_append (IsChainedTask stack) rest (tasks_of t.at v.sent) tasks
              (each_map (IsChainedSent stack (t.at - 1)) (IsChainedTask stack) _
              (λ x is. goes stack t.at x.0 x.1 (leb-true 1 t.at bounds.0) (leb-true t.at (length stack) bounds.1) is)
              v.sent stays.sent);
        }
    go false off = record {
      states = states;
      outs = each_append (IsChainedOut stack) w.outs ((t.dir, t.event) ∷ []) outs
          (edges stack t.at t.dir t.event off task.way task.event, tt);
      tasks = tasks;
    }

  next_keeps : (tasks : List (Task Event)) (w : Work) → AreChainedStates stack w.states →
      AllByRecursion (IsChainedOut stack) w.outs →
      AllByRecursion (IsChainedTask stack) tasks → IsChainedLine stack (next_of (length stack) (layers stack) tasks w)
  next_keeps [] w states outs tasks = record { states = states; outs = outs; tasks = tt }
  next_keeps (t ∷ rest) w states outs tasks = turn_keeps t rest w states outs tasks.0 tasks.1

  turns_keep : (n : ℕ) (tasks : List (Task Event)) (w : Work) → AreChainedStates stack w.states →
      AllByRecursion (IsChainedOut stack) w.outs →
      AllByRecursion (IsChainedTask stack) tasks →
      IsChainedLine stack (run_for (length stack) (layers stack) n (record { world = w; tasks = tasks }))
  turns_keep zero tasks w states outs h = record { states = states; outs = outs; tasks = h }
  turns_keep (suc n) [] w states outs h = record { states = states; outs = outs; tasks = h }
  turns_keep (suc n) (t ∷ rest) w states outs h =
      let r = next_of (length stack) (layers stack) (t ∷ rest) w in
      let is = turn_keeps t rest w states outs h.0 h.1 in
      turns_keep n r.tasks r.world is.states is.outs is.tasks

pub turns_keep_chains : TurnsKeepChains
turns_keep_chains stack r typed h = next_keeps stack typed r.tasks r.world h.states h.outs h.tasks

pub runs_keep_chains : RunsKeepChains
runs_keep_chains stack turns r typed h = turns_keep stack typed turns r.tasks r.world h.states h.outs h.tasks

pub run_from_a_task : RunFromATask
unfolding run
run_from_a_task stack most states first typed h task =
    turns_keep stack typed most (first ∷ []) (unstarted_work states) h tt (task, tt)

-- chains are short

after_short : (ends : Bool) (above : List LayerTree) (place : ℕ) (hs : List Header) →
    MatchBool ends (hs ≡ []) (IsChain above place hs) → (IsChain above place hs → length hs ≤ length above) →
    suc (length hs) ≤ suc (length above)
after_short true above place hs none short = rw none (omega arith)
after_short false above place hs on short = omega (arith, short on)

chain_short : (above : List LayerTree) (place : ℕ) (hs : List Header) → IsChain above place hs →
    length hs ≤ length above
chain_short [] place hs is = rw is (omega arith)
chain_short (layer ∷ above) place [] is = absurd is
chain_short (layer ∷ above) place (h ∷ hs) is = there (header_of_tag layer h.tag) _ is (λ d declares is_d.
    after_short d.ends above (suc place) hs is_d.2 (chain_short above (suc place) hs))

pub chains_are_short : ChainsAreShort
chains_are_short stack place hs is =
    omega (arith, chain_short (drop place stack) place hs is.chain, length-drop place stack)
