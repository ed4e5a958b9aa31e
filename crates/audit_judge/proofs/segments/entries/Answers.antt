use Rattle.std.proofs.Common.{refl}
use Rattle.audit_judge.proofs.Deliveries.{reads_on, all_read}
use Rattle.audit_judge.proofs.segments.entries.Goals as goal

pub loop-index-preserved : goal.loop-index-preserved
loop-index-preserved c =
    rw c.in_ok-push_some.ensures
    (reads_on c.loop-index.segments c.advance.new.self c.loop-index.entries.items c.entry.result c.args.lines.now
    c.loop-index.index _ _ c.loop-index-test.true refl c.loop-index.invariant c.entry.ensures c.advance.ensures.this)

pub returns : goal.returns
returns c = all_read c.loop-index.segments c.loop-index.entries.items c.args.lines.now c.loop-index.index
    c.loop-index-test.false c.loop-index.invariant
