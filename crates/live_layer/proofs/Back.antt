-- Rows that are given back, one after the other.
use Rattle.std.proofs.Common.{◌≡◌, List, [], ◌∷◌, ◌++◌, flat_map, refl, sym, ap, subst, ◌∙◌, arith}
use Rattle.std.proofs.lemmas.Grind.{flat_map-append}
use Rattle.slot_pool.specs.Held.{Held}
use Rattle.slot_pool.specs.References.{Moved, Covers}
use Rattle.slot_pool.proofs.Times.{times-append}
use Rattle.slot_pool.proofs.References.{moved-same, moved-chain, moved-beside, covers-moved}
use Rattle.cell_store.specs.Kept.{KeptCell, Kept, queues_kept, rows_of, rows_in}
use Rattle.pool_message.specs.Seen.{row_refs}
use Rattle.pool_message.specs.Moves.{Returned}
use Rattle.pool_message.specs.declared.row.PoolRow.{PoolRow}
use Rattle.live_layer.specs.Stock.{queues_refs, cell_refs, kept_refs}
use Rattle.live_layer.specs.Back.{GoneTo}

queues_rows : (qs : List (List PoolRow)) → queues_refs qs ≡ flat_map row_refs (rows_of qs)
queues_rows [] = refl
queues_rows (q ∷ qs) = ap (λ r. flat_map row_refs q ++ r) (queues_rows qs) ∙
    sym (flat_map-append row_refs q (rows_of qs))

cells_rows : (cells : List (KeptCell PoolRow)) →
    flat_map cell_refs cells ≡
    flat_map row_refs (flat_map (λ (cell : KeptCell PoolRow). rows_of (queues_kept cell)) cells)
cells_rows [] = refl
cells_rows (cell ∷ cells) =
    (λ j. queues_rows (queues_kept cell) j ++ cells_rows cells j) ∙
    sym (flat_map-append row_refs (rows_of (queues_kept cell))
    (flat_map (λ (cell : KeptCell PoolRow). rows_of (queues_kept cell)) cells))

kept_rows_refs : (k : Kept PoolRow) → kept_refs k ≡ flat_map row_refs (rows_in k)
kept_rows_refs k = cells_rows k.cells

pub none_gone : (p : List Held) (k : Kept PoolRow) → Covers p (kept_refs k) → GoneTo p p (rows_in k) (rows_in k)
none_gone p k covers = record {
  covers = subst (Covers p) (kept_rows_refs k) covers;
  moved = moved-same p (flat_map row_refs (rows_in k));
  slots = omega arith;
}

module _ (start p q : List Held) (all rows rest : List PoolRow) (row : PoolRow) (is : rows ≡ row ∷ rest)
    (gone : GoneTo start p all rows) where
  whole : Covers p (row_refs row ++ flat_map row_refs rest)
  whole = subst (λ rs. Covers p (flat_map row_refs rs)) is gone.covers

  pub row_covered : Covers p (row_refs row)
  row_covered = record {
    covers = λ i. let every = whole.covers i in let both = times-append i (row_refs row) (flat_map row_refs rest) in
        omega arith;
  }

  pub one_gone : Returned p q (row_refs row) → GoneTo start q all rest
  one_gone back =
      let moved : Moved start p (flat_map row_refs all) (row_refs row ++ flat_map row_refs rest) =
      subst (λ rs. Moved start p (flat_map row_refs all) (flat_map row_refs rs)) is gone.moved in
      let slots = gone.slots in let more = back.slots in
      record {
        covers = covers-moved p q (row_refs row) [] (flat_map row_refs rest) whole back.moved;
        moved = moved-chain start p q (flat_map row_refs all) (row_refs row ++ flat_map row_refs rest)
            (flat_map row_refs rest) moved
            (moved-beside p q (row_refs row) [] (flat_map row_refs rest) back.moved);
        slots = omega arith;
      }

pub all_gone : (start p : List Held) (k l : Kept PoolRow) → GoneTo start p (rows_in k) (rows_in l) → rows_in l ≡ [] →
    Returned start p (kept_refs k)
all_gone start p k l gone none = record {
  moved = subst (λ r. Moved start p r []) (sym (kept_rows_refs k))
      (subst (λ rs. Moved start p (flat_map row_refs (rows_in k)) (flat_map row_refs rs)) none gone.moved);
  slots = gone.slots;
}
