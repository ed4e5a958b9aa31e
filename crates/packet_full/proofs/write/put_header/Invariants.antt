use Rattle.std.proofs.Common.{◌≡◌, ◌+◌, ◌*◌, ◌≤◌, ◌∷◌, ◌++◌, take, vec_len, vec_capacity}
use Rattle.std.specs.List.{flat_map}
use Rattle.packet_mean.specs.Spelling.{number_bytes}
use Rattle.packet_full.proofs.write.put_header.Given as goal

abbrev pub invariant-loop-k : goal.invariant-loop-k
invariant-loop-k l = record {
  items : l.into.items ≡ l.fn.into.items ++ l.header.tag ∷ flat_map number_bytes (take l.k l.fields);
  len : vec_len l.into ≡ vec_len l.fn.into + 1 + 4 * l.k;
  capacity : vec_capacity l.into ≡ vec_capacity l.fn.into;
  few : l.k-end ≤ 4;
}
