use Rattle.std.proofs.Common.{append_assoc}
use Rattle.packet_full.proofs.write.put_preamble.Goals as goal

pub returns-clause-items : goal.returns-clause-items
returns-clause-items c = rw (
  c.push_reserved-3.ensures.items,
  c.dest_byte.ensures,
  c.push_reserved-2.ensures.items,
  c.put_number-4.ensures.items,
  c.put_number-3.ensures.items,
  c.put_number-2.ensures.items,
  c.put_number.ensures.items,
  c.push_reserved.ensures.items,
) (simp append_assoc)
