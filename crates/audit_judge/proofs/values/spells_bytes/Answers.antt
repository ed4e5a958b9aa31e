use Rattle.audit_judge.proofs.Bodies.{spelled, odd}
use Rattle.audit_judge.proofs.values.spells_bytes.Goals as goal

pub returns-then-word-eq0 : goal.returns-then-word-eq0
returns-then-word-eq0 c = rw (spelled c.args.word.now, c.if-word-eq0.true) c.are_hex_digits.ensures

pub returns-else-word-eq0 : goal.returns-else-word-eq0
returns-else-word-eq0 c = odd c.args.word.now c.if-word-eq0.false
