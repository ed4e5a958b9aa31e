-- What is reserved for a desk.
use Rattle.std.proofs.Common.{◌≡◌, ℕ, ◌+◌, ◌*◌, ◌<◌, List, [], ◌∷◌, ◌++◌, map, take, length, slice_index_or, ap, ◌∙◌}
use Rattle.std.proofs.Common.{arith}
use Rattle.std.proofs.lemmas.List.{map-append}
use Rattle.layer_mean.specs.Tree.{CellTree}
use Rattle.desk_needs.specs.Layouts.{rows_kept}
use Rattle.typed_layer.specs.View.{cell_tree, form_tree}
use Rattle.typed_layer.specs.declared.tree.Cell.{Cell}
use Rattle.cell_store.proofs.Begun.{one_more}
use Rattle.live_layer.specs.Fits.{rows_most}

abbrev rows_in : List CellTree → List ℕ
rows_in cells = map (λ c. rows_kept c.form) cells

rows_more : (xs : List ℕ) (n : ℕ) → rows_most (xs ++ n ∷ []) ≡ rows_most xs + 32 * n
rows_more [] n = omega arith
rows_more (x ∷ xs) n = let rest = rows_more xs n in omega arith

-- The rows of one cell more.
pub rows_next : (i : ℕ) (cells : List Cell) (cell : Cell) (rows n : ℕ) → i < length cells →
    cell ≡ slice_index_or cells i cell →
    rows ≡ rows_most (map (λ (c : CellTree). rows_kept c.form) (map cell_tree (take i cells))) →
    n ≡ rows_kept (form_tree cell.form) →
    rows + 32 * n ≡ rows_most (map (λ (c : CellTree). rows_kept c.form) (map cell_tree (take (i + 1) cells)))
rows_next i cells cell rows n within read is here =
    let front = map cell_tree (take i cells) in
    let whole = ap rows_most
    (ap rows_in (one_more i cells cell within read) ∙ map-append (λ (c : CellTree). rows_kept c.form) front
    (cell_tree cell ∷ [])) in
    let more = rows_more (rows_in front) (rows_kept (form_tree cell.form)) in
    let one = ap (λ k. 32 * k) here in
    omega arith
