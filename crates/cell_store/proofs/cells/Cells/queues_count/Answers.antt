use Rattle.std.proofs.Common.{◌∙◌, List, length, ap, arith}
use Rattle.cell_store.specs.Kept.{Kept, KeptCell, queues_kept}
use Rattle.cell_store.proofs.Laid.{looked, queues_read, nothing_read}
use Rattle.cell_store.proofs.Counts.{few_queues}
use Rattle.cell_store.proofs.cells.Cells.queues_count.Goals as goal

pub overflow_cast-result : goal.overflow_cast-result
overflow_cast-result g c =
    let count = c.count.ensures.count in let within = c.count.ensures.few in
    let few = few_queues _ _ _ _ _ _ c.self.invariant.most_few c.self.invariant.laid
    (looked _ _ _ _ c.deref.ensures.value c.in-Some.ensures)
    (omega arith) in
    omega (arith, few, count)

pub returns-in-Some : goal.returns-in-Some
returns-in-Some g c = c.count.ensures.count ∙ ap (λ (qs : List (List g.row.R.Denot)). length qs)
    (queues_read _ _ _ _ _ _ _ (ap (λ (k : Kept g.row.R.Denot). k.cells) c.self.view_is) c.self.invariant.laid
    (looked _ _ _ _ c.deref.ensures.value c.in-Some.ensures))

pub returns-in-None : goal.returns-in-None
returns-in-None g c = ap (λ (cell : KeptCell g.row.R.Denot). length (queues_kept cell))
    (nothing_read _ _ _ _ (ap (λ (k : Kept g.row.R.Denot). k.cells) c.self.view_is)
    (looked _ _ _ _ c.deref.ensures.value c.in-None.ensures))
