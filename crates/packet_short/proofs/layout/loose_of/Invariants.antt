use Rattle.std.proofs.Common.{◌≡◌, ◌++◌, drop, length, map}
use Rattle.std.specs.List.{AllByRecursion}
use Rattle.packet_short.specs.Laid.{loose_from, IsWithin}
use Rattle.packet_short.specs.Layouts.{loose_tree}
use Rattle.packet_short.proofs.layout.loose_of.Given as goal

abbrev pub invariant-loop-place : goal.invariant-loop-place
invariant-loop-place l = record {
  loose : map loose_tree l.loose.items ++ loose_from l.place l.planned (drop l.place l.all) ≡
      loose_from 0 l.plan.fields.items l.all;
  few : AllByRecursion (IsWithin (length l.all)) (map loose_tree l.loose.items);
}
