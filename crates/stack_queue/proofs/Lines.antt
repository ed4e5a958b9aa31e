-- One turn of the definition's line, while a run goes on.
use Rattle.std.proofs.Common.{◌≡◌, ℕ, zero, suc, ◌+◌, ◌-◌, ◌≤◌, Bool, true, false, List, [], ◌∷◌, ◌++◌, None, length}
use Rattle.std.proofs.Common.{refl, sym, ap, ◌∙◌, arith}
use Rattle.std.specs.Prelude.{if◌then◌else◌}
use Rattle.std.specs.List.{AllByRecursion}
use Rattle.layer_mean.specs.declared.run.Event.{Event}
use Rattle.layer_mean.specs.Tree.{LayerTree}
use Rattle.layer_mean.specs.Visit.{step}
use Rattle.layer_mean.specs.Queue.{Task, Line, Work, is_place, layer_at, state_at, visit_turn, taken_turn, next_of}
use Rattle.layer_mean.specs.Queue.{run_for, layers}
use Rattle.stack_mean.specs.Graph.{first_on_cycle}
use Rattle.weight_laws.specs.Nodes.{IsKnown}
use Rattle.weight_laws.specs.Visits.{IsVisit, sent_tasks}
use Rattle.weight_laws.specs.Runs.{pending_weight, pending_joins, turn_joins, IsTurn}
use Rattle.weight_laws.proofs.Runs.{turns_lighten, turns_join_less}
use Rattle.chain_laws.specs.Runs.{TypedStack, IsChainedTask, IsChainedLine}
use Rattle.chain_laws.proofs.Runs.{turns_keep_chains}
use Rattle.chain_laws.proofs.Orderly.{chained_is_known, typed_is_orderly}
use Rattle.stack_queue.specs.Taken.{counted_at, counted_on, visited_for}
use Rattle.stack_queue.proofs.Refs.{all_right, all_as}

module _ (stack : List LayerTree) (typed : TypedStack stack) (off : first_on_cycle stack ≡ None) (w : Work)
    (t : Task Event) (rest : List (Task Event))
    (chained : IsChainedLine stack (record { world = w; tasks = t ∷ rest })) where
  -- the line after a turn
  abbrev pub following : Line Work Event
  following = next_of (length stack) (layers stack) (t ∷ rest) w

  pub chained_after : IsChainedLine stack following
  chained_after = turns_keep_chains stack (record { world = w; tasks = t ∷ rest }) typed chained

  known_after : AllByRecursion (IsKnown stack) following.tasks
  known_after = all_as (IsChainedTask stack) (IsKnown stack) (chained_is_known stack) following.tasks
      chained_after.tasks

  turn : IsTurn stack w t rest
  turn = record {
    orderly = typed_is_orderly stack typed;
    no_cycle = off;
    before = all_as (IsChainedTask stack) (IsKnown stack) (chained_is_known stack) (t ∷ rest) chained.tasks;
    following = known_after;
  }

  pub lighter : 1 + pending_weight stack following.tasks ≤ pending_weight stack (t ∷ rest)
  lighter = turns_lighten stack w t rest turn

  pub joins_less : turn_joins stack w t + pending_joins stack following.tasks ≤ pending_joins stack (t ∷ rest)
  joins_less = turns_join_less stack w t rest turn

  -- at a place the turn is a visit
  pub is_visit : is_place (length stack) t.at ≡ true → IsVisit stack (state_at w t.at) t
  is_visit placed = record {
    orderly = turn.orderly;
    place = placed;
    known = turn.before.0;
    sent = all_right (IsKnown stack) rest (sent_tasks stack (state_at w t.at) t) (rw placed at known_after);
  }

  pub visited_after : is_place (length stack) t.at ≡ true →
      following ≡ taken_turn t.at rest
      (visit_turn t.at w (step (t.at - 1) (layer_at stack t.at) (state_at w t.at) t.dir t.event))
  visited_after placed = ap
      (λ (c : Bool). if◌then◌else◌ {A = Line Work Event} c
      (taken_turn t.at rest ((layers stack).visit t.at t.dir t.event w))
      (record { world = (layers stack).output t.dir t.event w; tasks = rest }))
      placed

  pub put_out_after : is_place (length stack) t.at ≡ false →
      following ≡ record { world = record w { outs = w.outs ++ (t.dir, t.event) ∷ [] }; tasks = rest }
  put_out_after edge = ap
      (λ (c : Bool). if◌then◌else◌ {A = Line Work Event} c
      (taken_turn t.at rest ((layers stack).visit t.at t.dir t.event w))
      (record { world = (layers stack).output t.dir t.event w; tasks = rest }))
      edge

  -- the run reaches the same end
  module _ (end : Line Work Event) (left : ℕ)
      (comes : run_for (length stack) (layers stack) left (record { world = w; tasks = t ∷ rest }) ≡ end)
      (enough : pending_weight stack (t ∷ rest) ≤ left) where
    pub comes_after : run_for (length stack) (layers stack) (left - 1) following ≡ end
    comes_after = go left refl comes where
      go : (n : ℕ) → n ≡ left → run_for (length stack) (layers stack) n (record { world = w; tasks = t ∷ rest }) ≡ end →
          run_for (length stack) (layers stack) (left - 1) following ≡ end
      go zero is e = absurd (omega (arith, enough, lighter))
      go (suc n) is e =
          let one : left - 1 ≡ n = omega (arith, is) in
          ap (λ m. run_for (length stack) (layers stack) m following) one ∙ e

    pub enough_after : pending_weight stack following.tasks ≤ left - 1
    enough_after = omega (arith, enough, lighter)

  -- and its visits to the same counts
  module _ (all counts : List ℕ) (left : ℕ)
      (counted : counted_on (visited_for (length stack) (layers stack) left (record { world = w; tasks = t ∷ rest }))
      counts ≡ all)
      (enough : pending_weight stack (t ∷ rest) ≤ left) where
    one_turn : (c : Bool) (visited : List ℕ) →
        counted_on visited (if c then counted_at counts t.at else counts) ≡
        counted_on ((if c then t.at ∷ [] else []) ++ visited) counts
    one_turn true visited = refl
    one_turn false visited = refl

    pub counts_after : (c : Bool) → is_place (length stack) t.at ≡ c →
        counted_on (visited_for (length stack) (layers stack) (left - 1) following)
        (if c then counted_at counts t.at else counts) ≡ all
    counts_after c is = go left refl counted where
      go : (n : ℕ) → n ≡ left →
          counted_on (visited_for (length stack) (layers stack) n (record { world = w; tasks = t ∷ rest })) counts ≡
          all →
          counted_on (visited_for (length stack) (layers stack) (left - 1) following)
          (if c then counted_at counts t.at else counts) ≡ all
      go zero same e = absurd (omega (arith, enough, lighter))
      go (suc n) same e =
          let one : left - 1 ≡ n = omega (arith, same) in
          ap (λ m. counted_on (visited_for (length stack) (layers stack) m following)
          (if c then counted_at counts t.at else counts)) one
          ∙ one_turn c (visited_for (length stack) (layers stack) n following)
          ∙ ap (λ (d : Bool). counted_on
          ((if d then t.at ∷ [] else []) ++ visited_for (length stack) (layers stack) n following) counts) (sym is)
          ∙ e
