use Rattle.std.proofs.Common.{◌≡◌, ◌+◌, ◌*◌, ◌≤◌, ◌++◌, take, vec_len, vec_capacity}
use Rattle.std.specs.List.{flat_map}
use Rattle.packet_mean.specs.Spelling.{header_bytes}
use Rattle.packet_full.proofs.write.put_headers.Given as goal

abbrev pub invariant-loop-header : goal.invariant-loop-header
invariant-loop-header l = record {
  items : l.into.items ≡ l.fn.into.items ++ flat_map header_bytes (take l.header-index l.header-items);
  len : vec_len l.into ≤ vec_len l.fn.into + 17 * l.header-index;
  capacity : vec_capacity l.into ≡ vec_capacity l.fn.into;
}
