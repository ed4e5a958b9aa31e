-- Each row, message and event has one reference at most, so rows that are few have few.
use Rattle.std.proofs.Common.{◌≡◌, ℕ, zero, suc, ◌+◌, ◌*◌, ◌≤◌, List, [], ◌∷◌, Option, Some, None, map, length}
use Rattle.std.proofs.Common.{flat_map, arith}
use Rattle.std.specs.List.{AllByRecursion}
use Rattle.std.proofs.lemmas.List.{length-append}
use Rattle.cell_store.specs.Kept.{KeptCell, queues_kept, capacity_of}
use Rattle.pool_message.specs.Seen.{body_refs, refs_if, row_refs}
use Rattle.pool_message.specs.declared.message.PoolMessage.{PoolMessage}
use Rattle.pool_message.specs.declared.part.Part.{Part}
use Rattle.pool_message.specs.declared.row.PoolRow.{PoolRow}
use Rattle.live_layer.specs.Stock.{queues_refs, cell_refs}
use Rattle.live_layer.specs.Fits.{QueueFits, CellFits, rows_most}
use Rattle.msg_core.specs.View.{most_members}

pub body_few : (body : Option Part) → length (body_refs body) ≤ 1
body_few None = omega arith
body_few (Some part) = omega arith

pub any_few : (m : Option PoolMessage) → length (refs_if m) ≤ 1
any_few None = omega arith
any_few (Some m) = body_few m.body

-- One reference each.
pub each_few : {A : Type 0} (f : A → List ℕ) → ((x : A) → length (f x) ≤ 1) → (xs : List A) →
    length (flat_map f xs) ≤ length xs
each_few f one [] = omega arith
each_few f one (x ∷ xs) = let first = one x in let rest = each_few f one xs in
    omega (arith, length-append (f x) (flat_map f xs))

queues_few : (n k : ℕ) (qs : List (List PoolRow)) → length qs ≤ k → AllByRecursion (QueueFits n) qs →
    length (queues_refs qs) ≤ k * n
queues_few n k [] many fit = omega arith
queues_few n zero (q ∷ qs) many fit = absurd (omega arith)
queues_few n (suc k) (q ∷ qs) many fit =
    let first = each_few row_refs (λ (r : PoolRow). any_few r.message) q in let few = fit.0.few in let rest =
    queues_few n k qs (omega arith) fit.1 in
    let more : suc k * n ≡ k * n + n = omega arith in
    omega (arith, length-append (flat_map row_refs q) (queues_refs qs))

pub cells_few : (cells : List (KeptCell PoolRow)) → AllByRecursion CellFits cells →
    length (flat_map cell_refs cells) ≤ rows_most (map capacity_of cells)
cells_few [] fit = omega arith
cells_few (cell ∷ cells) fit =
    let first = queues_few (capacity_of cell) most_members (queues_kept cell) fit.0.0 fit.0.1 in let rest =
    cells_few cells fit.1 in
    omega (arith, length-append (cell_refs cell) (flat_map cell_refs cells))
