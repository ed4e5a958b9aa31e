-- A queue whose turns take from what is pending reaches its end.
use Rattle.std.proofs.Common.{◌≡◌, ℕ, zero, suc, ◌+◌, ◌≤◌, List, [], ◌∷◌, refl, sym, subst, arith}
use Rattle.std.specs.List.{sum_by}
use Rattle.layer_mean.specs.Queue.{Task, Player, Line, next_of, run_for}
use Rattle.weight_laws.specs.Runs.{total_price}

module _ {W E : Type 0} (places : ℕ) (play : Player W E) where
  pub run_done : (n : ℕ) (w : W) → run_for places play n (record { world = w; tasks = [] }) ≡
      record { world = w; tasks = [] }
  run_done zero w = refl
  run_done (suc n) w = refl

  -- the first turn of a run can be taken alone
  pub first_turn : (n : ℕ) (tasks : List (Task E)) (w : W) →
      run_for places play (suc n) (record { world = w; tasks = tasks }) ≡
      run_for places play n (next_of places play tasks w)
  first_turn n [] w = sym (run_done n w)
  first_turn n (t ∷ rest) w = refl

  module _ (Good : List (Task E) → Type 0) (weigh : Task E → ℕ) (price : W → Task E → ℕ)
      (falls : (t : Task E) (rest : List (Task E)) (w : W) → Good (t ∷ rest) →
      Good (next_of places play (t ∷ rest) w).tasks →
      price w t + sum_by weigh (next_of places play (t ∷ rest) w).tasks ≤ sum_by weigh (t ∷ rest)) where
    pub run_spends : (n : ℕ) (tasks : List (Task E)) (w : W) →
        ((k : ℕ) → Good (run_for places play k (record { world = w; tasks = tasks })).tasks) →
        total_price places play price n w tasks + sum_by weigh
        (run_for places play n (record { world = w; tasks = tasks })).tasks ≤ sum_by weigh tasks
    run_spends zero tasks w good = omega arith
    run_spends (suc n) [] w good = omega arith
    run_spends (suc n) (t ∷ rest) w good =
        let r : Line W E = next_of places play (t ∷ rest) w in
        omega (
          arith,
          falls t rest w (good zero) (good (suc zero)),
          run_spends n r.tasks r.world (λ k. subst (λ q. Good q.tasks) (first_turn k (t ∷ rest) w) (good (suc k))),
        )

    pub run_ends : ((w : W) (t : Task E) → 1 ≤ price w t) → (n : ℕ) (tasks : List (Task E)) (w : W) →
        ((k : ℕ) → Good (run_for places play k (record { world = w; tasks = tasks })).tasks) → sum_by weigh tasks ≤ n →
        (run_for places play n (record { world = w; tasks = tasks })).tasks ≡ []
    run_ends some zero [] w good le = refl
    run_ends some zero (t ∷ rest) w good le =
        absurd (omega (arith, falls t rest w (good zero) (good (suc zero)), some w t))
    run_ends some (suc n) [] w good le = refl
    run_ends some (suc n) (t ∷ rest) w good le =
        let r : Line W E = next_of places play (t ∷ rest) w in
        run_ends some n r.tasks r.world (λ k. subst (λ q. Good q.tasks) (first_turn k (t ∷ rest) w) (good (suc k)))
        (omega (arith, falls t rest w (good zero) (good (suc zero)), some w t))

  -- a run that has reached its end stays as it is
  pub run_stays : (n m : ℕ) (tasks : List (Task E)) (w : W) → n ≤ m →
      (run_for places play n (record { world = w; tasks = tasks })).tasks ≡ [] →
      run_for places play m (record { world = w; tasks = tasks }) ≡
      run_for places play n (record { world = w; tasks = tasks })
  run_stays zero m tasks w le done =
      subst (λ ts. run_for places play m (record { world = w; tasks = ts }) ≡ record { world = w; tasks = ts })
      (sym done) (run_done m w)
  run_stays (suc n) zero tasks w le done = absurd (omega arith)
  run_stays (suc n) (suc m) [] w le done = refl
  run_stays (suc n) (suc m) (t ∷ rest) w le done =
      let r : Line W E = next_of places play (t ∷ rest) w in run_stays n m r.tasks r.world (omega arith) done
