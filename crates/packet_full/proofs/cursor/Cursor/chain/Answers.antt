use Rattle.std.proofs.Common.{arith, ap, ◌+◌, ◌-◌, ◌∙◌, ◌≤◌, take}
use Rattle.std.proofs.lemmas.List.{length-set}
use Rattle.stack_judge.specs.Answer.{stack_tree}
use Rattle.packet_full.proofs.Chain.{last_set, none_read, none_set, one_set, still}
use Rattle.packet_full.proofs.cursor.Cursor.chain.Goals as goal

pub loop-at-preserved-then-takes_none : goal.loop-at-preserved-then-takes_none
loop-at-preserved-then-takes_none c = record {
  read =
      rw c.set.ensures (none_set (stack_tree c.args.stack.now) c.args.place c.loop-at.at c.loop-at.headers _
      (omega (arith, c.loop-at.auto.at))
      c.loop-at.invariant.count _ _ _ (omega (arith, c.loop-at-test.true, c.places-places.ensures))
      c.if-takes_none.ensures c.none_of.ensures
      c.loop-at.invariant.read);
  count = rw c.set.ensures (length-set _ _ _ ∙ c.loop-at.invariant.count);
}

pub returns-in_default-clause-read : goal.returns-in_default-clause-read
returns-in_default-clause-read c =
    let order : c.args.place ≤ c.loop-at.at = omega (arith, c.loop-at.auto.at) in
    let so = still (stack_tree c.args.stack.now) c.args.place c.loop-at.at c.loop-at.headers _ order
    c.loop-at.invariant.count _ _ c.if-takes_none.ensures
    c.loop-at.invariant.read in
    none_read (stack_tree c.args.stack.now) c.args.place c.loop-at.at c.loop-at.headers _ order
    c.loop-at.invariant.count _
    (omega (arith, c.loop-at-test.true, c.places-places.ensures)) c.in_default.ensures so

pub returns-then-ends-clause-read : goal.returns-then-ends-clause-read
returns-then-ends-clause-read c =
    let order : c.args.place ≤ c.loop-at.at = omega (arith, c.loop-at.auto.at) in
    let so = still (stack_tree c.args.stack.now) c.args.place c.loop-at.at c.loop-at.headers _ order
    c.loop-at.invariant.count _ _ c.if-takes_none.ensures
    c.loop-at.invariant.read in
    last_set (stack_tree c.args.stack.now) c.args.place c.loop-at.at c.loop-at.headers _ order c.loop-at.invariant.count
    _ c.in-Some.header c.in-Some.ends _ _
    (omega (arith, c.loop-at-test.true, c.places-places.ensures)) c.if-ends.true c.in-Some.ensures so
    (c.cut.ensures ∙ ap (λ hs. take (c.loop-at.at + 1 - c.args.place) hs) c.set-in-loop-at.ensures)

pub loop-at-preserved : goal.loop-at-preserved
loop-at-preserved c =
    let order : c.args.place ≤ c.loop-at.at = omega (arith, c.loop-at.auto.at) in
    let so = still (stack_tree c.args.stack.now) c.args.place c.loop-at.at c.loop-at.headers _ order
    c.loop-at.invariant.count _ _ c.if-takes_none.ensures
    c.loop-at.invariant.read in
    record {
      read =
          rw c.set-in-loop-at.ensures
          (one_set (stack_tree c.args.stack.now) c.args.place c.loop-at.at c.loop-at.headers _ order
          c.loop-at.invariant.count _
          c.in-Some.header c.in-Some.ends _ (omega (arith, c.loop-at-test.true, c.places-places.ensures))
          c.if-ends.false c.in-Some.ensures so);
      count = rw c.set-in-loop-at.ensures (length-set _ _ _ ∙ c.loop-at.invariant.count);
    }
