use Rattle.std.proofs.Common.{length, ap, arith}
use Rattle.cell_store.specs.Kept.{Kept, KeptCell, numbers_kept}
use Rattle.cell_store.proofs.Laid.{looked, nothing_read}
use Rattle.cell_store.proofs.Counts.{few_numbers, numbers_counted}
use Rattle.cell_store.proofs.cells.Cells.numbers_count.Goals as goal

pub overflow_cast-result : goal.overflow_cast-result
overflow_cast-result g c =
    let few = few_numbers _ _ _ _ _ _ c.self.invariant.most_few c.self.invariant.laid
    (looked _ _ _ _ c.deref.ensures.value c.in-Some.ensures) in
    omega (arith, few)

pub returns-in-Some : goal.returns-in-Some
returns-in-Some g c =
    numbers_counted _ _ _ _ _ _ (ap (λ (k : Kept g.row.R.Denot). k.cells) c.self.view_is) c.self.invariant.laid
    (looked _ _ _ _ c.deref.ensures.value c.in-Some.ensures)

pub returns-in-None : goal.returns-in-None
returns-in-None g c = ap (λ (cell : KeptCell g.row.R.Denot). length (numbers_kept cell))
    (nothing_read _ _ _ _ (ap (λ (k : Kept g.row.R.Denot). k.cells) c.self.view_is)
    (looked _ _ _ _ c.deref.ensures.value c.in-None.ensures))
