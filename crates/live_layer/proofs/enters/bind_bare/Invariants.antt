use Rattle.std.proofs.Common.{◌≡◌, ◌+◌, ◌-◌, ◌≤◌, length}
use Rattle.live_layer.specs.Entered.{with_bare}
use Rattle.live_layer.specs.Ready.{stock_of, room_of, IsReady}
use Rattle.live_layer.specs.Stock.{laid}
use Rattle.live_layer.proofs.enters.bind_bare.Given as goal

abbrev pub invariant-loop : goal.invariant-loop
invariant-loop g l =
    IsReady g.K.Start.begun l.pool l.desk ×
    (with_bare (l.fn.count - l.counter) (laid l.pool (stock_of l.desk)) ≡
    with_bare l.fn.count (laid l.pool (stock_of l.fn.desk))) ×
    (length l.desk.tray.messages.items + (l.fn.count - l.counter) ≤ l.desk.tray.messages.capacity) ×
    (room_of l.pool l.desk ≡ room_of l.pool l.fn.desk)
