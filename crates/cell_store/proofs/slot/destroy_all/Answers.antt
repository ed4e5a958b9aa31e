use Rattle.cell_store.proofs.Rows.{slots_popped}
use Rattle.cell_store.proofs.slot.destroy_all.Goals as goal

pub destroy-requires : goal.destroy-requires
destroy-requires g c = (slots_popped _ _ _ c.in-Some.ensures.items c.loop-slot.invariant).1

pub loop-slot-preserved : goal.loop-slot-preserved
loop-slot-preserved g c = (slots_popped _ _ _ c.in-Some.ensures.items c.loop-slot.invariant).0
