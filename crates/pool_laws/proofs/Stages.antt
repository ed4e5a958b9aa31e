-- The references of stages, one by one.
use Rattle.std.proofs.Common.{◌≡◌, ℕ, ◌+◌, ◌≤◌, List, [], ◌∷◌, ◌++◌, map, length, flat_map, arith, length-append}
use Rattle.std.specs.List.{sum_by, AllByRecursion}
use Rattle.std.proofs.lemmas.List.Sums.{sum_by-cons}
use Rattle.slot_pool.specs.Held.{Held}
use Rattle.layer_mean.specs.Tree.{LayerTree}
use Rattle.layer_mean.specs.State.{State}
use Rattle.stack_mean.specs.Acceptance.{rows_of}
use Rattle.layer_stage.specs.Kept.{messages_kept}
use Rattle.pool_laws.specs.Room.{OwnPool, IsPoolFor}
use Rattle.pool_laws.proofs.Rows.{states_keep_rows}

module _ {S : Type 0} (refs : S → List ℕ) (state : List Held → S → State) (Ready : List Held → S → Type 0)
    (p : List Held)
    (kept : (s : S) → Ready p s → length (refs s) ≤ messages_kept (state p s)) where
  pub stages_keep_few : (stages : List S) → AllByRecursion (Ready p) stages →
      length (flat_map refs stages) ≤ sum_by messages_kept (map (state p) stages)
  stages_keep_few [] h = omega arith
  stages_keep_few (s ∷ stages) h =
      let first = kept s h.0 in
      let rest = stages_keep_few stages h.1 in
      let both : length (refs s ++ flat_map refs stages) ≡ length (refs s) + length (flat_map refs stages) =
      length-append (refs s) (flat_map refs stages) in
      let split = sum_by-cons messages_kept (state p s) (map (state p) stages) in
      omega arith

  pub own_pool_is_made : (stack : List LayerTree) (most : ℕ) (stages : List S) →
      OwnPool refs state Ready stack most p stages →
      IsPoolFor (rows_of stack most) p (flat_map refs stages)
  own_pool_is_made stack most stages own = record {
    exact = own.exact;
    few =
        let references = stages_keep_few stages own.ready in
        let rows = states_keep_rows stack (map (state p) stages) most own.chained own.members in
        omega (arith, references, rows);
    slots = own.slots;
    within = own.within;
  }
