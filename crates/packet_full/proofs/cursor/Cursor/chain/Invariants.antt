use Rattle.std.proofs.Common.{◌≡◌, ◌-◌, drop, length, take}
use Rattle.stack_judge.specs.Answer.{stack_tree}
use Rattle.packet_mean.specs.Reading as reading
use Rattle.packet_full.specs.Taking.{left, with_front}
use Rattle.packet_full.proofs.cursor.Cursor.chain.Given as goal

abbrev pub invariant-loop-at : goal.invariant-loop-at
invariant-loop-at l = record {
  read : with_front (take (l.at - l.place) l.headers)
      (reading.chain (drop l.at (stack_tree l.stack)) l.at (left l.cursor))
      ≡ reading.chain (drop l.place (stack_tree l.stack)) l.place (left l.fn.self);
  count : length l.headers ≡ length (stack_tree l.stack) - l.place;
}
