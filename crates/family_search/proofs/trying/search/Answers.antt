use Rattle.std.proofs.Common.{arith}
use Rattle.family_search.proofs.Tried.{shortest, stopped_at}
use Rattle.family_search.proofs.trying.search.Goals as goal

pub returns-then-not-keep : goal.returns-then-not-keep
returns-then-not-keep g c =
    let got =
    shortest _ _ _ _ _ _ _ c.loop-left.invariant c.if-not-keep.true c.in-Ok.ensures
    (omega (arith, c.requires, c.loop-left-test.true)) in
    record { stays = got.0; answers = got.1 }

pub returns-in-Err : goal.returns-in-Err
returns-in-Err g c =
    stopped_at _ _ _ _ _ c.all_keep.new.past.items _ _ c.loop-left.invariant
    (omega (arith, c.requires, c.loop-left-test.true))
    c.in-Err.ensures c.stopped.ensures
