use Rattle.std.proofs.Common.{◌≡◌, ◌+◌, ◌*◌, ◌≤◌, drop, vec_len, vec_capacity}
use Rattle.packet_short.proofs.Variable.{GoesOn}
use Rattle.packet_short.proofs.write.put_fields.Given as goal

abbrev pub invariant-loop-place : goal.invariant-loop-place
invariant-loop-place l = record {
  items : GoesOn l.planned l.fields l.left (drop l.place l.fields) l.fn.into.items l.into.items;
  len : vec_len l.into ≤ vec_len l.fn.into + 4 * l.place;
  capacity : vec_capacity l.into ≡ vec_capacity l.fn.into;
  few : l.place-end ≤ 4;
}
