use Rattle.packet_full.proofs.Taken.{are_bytes}
use Rattle.node_loop.proofs.feeding.law_bytes.Goals as goal

pub returns : goal.returns
returns c = are_bytes c.args._bytes.now c.type_inv._bytes
