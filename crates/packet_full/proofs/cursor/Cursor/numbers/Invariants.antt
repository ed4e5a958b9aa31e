use Rattle.std.proofs.Common.{◌≡◌, ◌-◌, ◌≤◌, length}
use Rattle.packet_mean.specs.Reading as reading
use Rattle.packet_full.specs.Taking.{left, with_front}
use Rattle.packet_full.proofs.cursor.Cursor.numbers.Given as goal

abbrev pub invariant-loop-place : goal.invariant-loop-place
invariant-loop-place l = record {
  reads : with_front l.fields (reading.numbers (l.count - l.place) (left l.cursor)) ≡
      reading.numbers l.count (left l.fn.self);
  count : length l.fields ≡ l.place;
  within : l.place ≤ l.count;
}
