use Rattle.std.proofs.Common.{◌≡◌, ◌+◌, ◌≤◌, drop, length, map, vec_capacity, vec_len, []}
use Rattle.std.specs.List.{AllByRecursion}
use Rattle.packet_full.specs.Taking.{left}
use Rattle.packet_short.specs.Laid.{all_own, filled, IsWithin}
use Rattle.packet_short.specs.Layouts.{loose_tree}
use Rattle.packet_short.proofs.layout.Layout.read.Given as goal

abbrev pub invariant-loop-loose : goal.invariant-loop-loose
invariant-loop-loose l = record {
  read : filled (map loose_tree (drop l.loose-index l.loose-items)) l.headers l.fields.items (left l.following) ≡
      filled (map loose_tree l.loose-items) l.self.headers [] (left l.fn.cursor);
  all : AllByRecursion (IsWithin (length l.self.headers)) (map loose_tree (drop l.loose-index l.loose-items));
  count : length l.headers ≡ length l.self.headers;
  len : vec_len l.fields + all_own (map loose_tree (drop l.loose-index l.loose-items)) ≤ vec_capacity l.fn.fields;
  capacity : vec_capacity l.fields ≡ vec_capacity l.fn.fields;
}
