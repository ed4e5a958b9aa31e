use Rattle.std.proofs.Common.{rules}
use Rattle.file_names.proofs.Twice.{seen_next, twice_next}
use Rattle.file_names.proofs.names.twice.Goals as goal

pub loop-name-preserved : goal.loop-name-preserved
loop-name-preserved c = (
  twice_next c.args.found.now c.loop-name.found c.note_unless.new.found c.args.names.now c.loop-name.name-index
      c.name-item.result
      c.loop-name.seen c.is_some-known.result (search rules) (search rules) c.loop-name.invariant.1 (search rules)
      c.loop-name.invariant.0 c.note_unless.ensures,
  seen_next c.args.names.now c.loop-name.name-index c.name-item.result c.loop-name.seen c.push.new.self (search rules)
      (search rules) c.loop-name.invariant.1 c.in_ok-push.ensures.pushed,
)
