use Rattle.std.proofs.Common.{◌≡◌, ◌+◌, ◌≤◌, ◌++◌, ℕ, List, drop, length, vec_capacity, vec_len}
use Rattle.packet_full.specs.Taking.{left}
use Rattle.packet_mean.specs.Plan.{variable}
use Rattle.packet_mean.specs.Reading.{planned_fields}
use Rattle.packet_short.specs.Laid.{own_front}
use Rattle.packet_short.proofs.layout.Loose.fields.Given as goal

abbrev pub invariant-loop-planned : goal.invariant-loop-planned
invariant-loop-planned l = record {
  read : own_front l.own (planned_fields (drop l.planned-index l.planned-items) (left l.cursor)) ≡
      planned_fields l.planned-items (left l.fn.cursor);
  items : (more : List ℕ) → l.fn.into.items ++ variable l.planned-items (l.own ++ more) ≡
      l.into.items ++ variable (drop l.planned-index l.planned-items) more;
  count : length l.own ≡ l.planned-index;
  len : vec_len l.into ≤ vec_len l.fn.into + l.planned-index;
  capacity : vec_capacity l.into ≡ vec_capacity l.fn.into;
}
