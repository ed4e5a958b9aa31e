use Rattle.std.proofs.Common.{◌≡◌, ◌-◌, length}
use Rattle.packet_full.specs.Taking.{left}
use Rattle.packet_short.specs.Dealing as dealing
use Rattle.packet_short.proofs.planned.Planned.fields.Given as goal

abbrev pub invariant-loop : goal.invariant-loop
invariant-loop l = record {
  reads : dealing.with_front l.fields (dealing.fields (l.count - l.counter) l.self.fields.now (left l.cursor)) ≡
      dealing.fields l.count l.fn.self.fields.now (left l.fn.cursor);
  count : length l.fields ≡ l.counter;
  tags : l.self.tags ≡ l.fn.self.tags;
}
