use Rattle.std.proofs.Common.{◌∙◌, ◌&&◌, nat_lt, List, [], length, slice_index_or, ap}
use Rattle.cell_store.specs.Kept.{Kept, KeptCell, queues_kept}
use Rattle.cell_store.proofs.Laid.{looked, queues_read, nothing_read, no_room}
use Rattle.cell_store.proofs.cells.Cells.has_room.Goals as goal

pub returns-in-Some : goal.returns-in-Some
returns-in-Some g c = c.has_room.ensures ∙
    ap (λ (qs : List (List g.row.R.Denot)). nat_lt c.args.index (length qs) &&
    nat_lt (length (slice_index_or qs c.args.index [])) c.args.capacity)
    (queues_read _ _ _ _ _ _ _ (ap (λ (k : Kept g.row.R.Denot). k.cells) c.self.view_is) c.self.invariant.laid
    (looked _ _ _ _ c.deref.ensures.value c.in-Some.ensures))

pub returns-in-None : goal.returns-in-None
returns-in-None g c = no_room c.args.index _ ∙ ap (λ (cell : KeptCell g.row.R.Denot).
    nat_lt c.args.index (length (queues_kept cell)) &&
    nat_lt (length (slice_index_or (queues_kept cell) c.args.index [])) c.args.capacity)
    (nothing_read _ _ _ _ (ap (λ (k : Kept g.row.R.Denot). k.cells) c.self.view_is)
    (looked _ _ _ _ c.deref.ensures.value c.in-None.ensures))
