-- A line that is known turn by turn is known throughout.
use Rattle.std.proofs.Common.{ℕ, zero, suc, List, [], ◌∷◌, length, sym, subst}
use Rattle.std.specs.List.{AllByRecursion}
use Rattle.layer_mean.specs.declared.run.Event.{Event}
use Rattle.layer_mean.specs.Tree.{LayerTree}
use Rattle.layer_mean.specs.Queue.{Task, Line, Work, next_of, run_for, layers}
use Rattle.weight_laws.specs.Nodes.{IsKnown}
use Rattle.weight_laws.specs.Turns.{KnownFor, KnownToTheEnd}
use Rattle.weight_laws.proofs.Queue.{run_done, first_turn}

known : (stack : List LayerTree) (n k : ℕ) (w : Work) (tasks : List (Task Event)) → KnownFor stack n w tasks →
    AllByRecursion (IsKnown stack) (run_for (length stack) (layers stack) k (record { world = w; tasks = tasks })).tasks
known stack zero k w [] h =
    subst (λ (r : Line Work Event). AllByRecursion (IsKnown stack) r.tasks)
    (sym (run_done (length stack) (layers stack) k w)) tt
known stack zero k w (t ∷ rest) h = absurd h
known stack (suc n) zero w tasks h = h.0
known stack (suc n) (suc k) w tasks h =
    let r : Line Work Event = next_of (length stack) (layers stack) tasks w in
    subst (λ (q : Line Work Event). AllByRecursion (IsKnown stack) q.tasks)
    (sym (first_turn (length stack) (layers stack) k tasks w))
    (known stack n k r.world r.tasks h.1)

pub known_to_the_end : KnownToTheEnd
known_to_the_end stack n r h = λ k. known stack n k r.world r.tasks h
