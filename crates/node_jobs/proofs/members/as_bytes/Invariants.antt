use Rattle.std.proofs.Common.{◌≡◌, take}
use Rattle.node_jobs.proofs.members.as_bytes.Given as goal

abbrev pub invariant-loop-id : goal.invariant-loop-id
invariant-loop-id l = l.bytes.items ≡ take l.id-index l.ids
