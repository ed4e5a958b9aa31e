use Rattle.std.proofs.Common.{sym}
use Rattle.std.specs.Prelude.{map}
use Rattle.audit_judge.specs.Lacks.{ended_shown}
use Rattle.audit_judge.proofs.First.{clear_further, lack_found, no_lack, none_further}
use Rattle.audit_judge.proofs.lacks.least_lack.Goals as goal
use Rattle.audit_judge.proofs.lacks.least_lack.Goals.{then-not-is_before+in_ok-lack+else-is_some, else-not-is_before}

pub loop-one-preserved : goal.loop-one-preserved
loop-one-preserved c = elim c.if-not-is_before.branch [
  | then-not-is_before+in_ok-lack+else-is_some w ↦
      none_further (map ended_shown c.args.ended.now) c.args.ended.now c.loop-one.one-index _ c.one-item.result
      w.in_ok-lack.lack c.loop-one-test.true c.one-item.is c.loop-one.invariant w.in_ok-lack.ensures
      (sym w.if-is_some.ensures)
  | else-not-is_before w ↦
      clear_further c.in_ok-line.line c.args.ended.now c.loop-one.one-index _ c.one-item.result c.loop-one-test.true
      c.one-item.is c.loop-one.invariant c.in_ok-line.ensures (sym w.if-not-is_before.ensures)
]

pub returns-then-is_some : goal.returns-then-is_some
returns-then-is_some c =
    lack_found c.args.ended.now c.loop-one.one-index _ c.one-item.result c.in_ok-lack.lack c.loop-one-test.true
    c.one-item.is c.requires.rises c.loop-one.invariant c.in_ok-lack.ensures (sym c.if-is_some.ensures)

pub returns : goal.returns
returns c = no_lack c.args.ended.now c.loop-one.one-index c.loop-one-test.false c.loop-one.invariant
