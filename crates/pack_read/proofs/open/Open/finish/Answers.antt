use Rattle.trace_core.proofs.Parts.{parts_hold}
use Rattle.pack_read.proofs.open.Open.finish.Goals as goal

pub invariant_of-result : goal.invariant_of-result
invariant_of-result c = record {
  parts = parts_hold c.args.self.store.nodes c.args.self.store.links c.args.self.operations.items c.requires;
}
