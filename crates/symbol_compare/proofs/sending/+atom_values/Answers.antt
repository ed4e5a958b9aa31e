use Rattle.std.proofs.Common.{arith}
use Rattle.symbol_compare.proofs.Growing.{knows_grown}
use Rattle.symbol_compare.proofs.Sent.{none_some, next_some, positive}
use Rattle.symbol_compare.specs.Walk.{known_to}
use Rattle.trace_core.specs.Kept.{zero_atom}
use Rattle.symbol_compare.proofs.sending.+atom_values.Goals as goal

pub atom_values-requires : goal.atom_values-requires
atom_values-requires t c = (
  omega (arith, c.decreases, positive c.args.many c.if-many-eq0.false),
  (c.requires.few, (omega (arith, c.requires.many), c.requires.knows)),
)

pub atom_value-requires : goal.atom_value-requires
atom_value-requires t c = knows_grown c.in_ok-made.ensures.grows c.requires.knows

pub push-requires : goal.push-requires
push-requires t c = omega (
  arith,
  c.in_ok-made.ensures.long,
  positive c.args.many c.if-many-eq0.false,
  c.requires.many,
  c.requires.few,
)

pub returns-then-many-eq0 : goal.returns-then-many-eq0
returns-then-many-eq0 t c = none_some c.args.table.now (known_to c.args.walk.now) c.args.atoms.now c.args.many
    c.if-many-eq0.true _ c.new.ensures

pub returns : goal.returns
returns t c = next_some (known_to c.args.walk.now) c.args.atoms.now c.in_ok-made.made c.push.new.self c.args.many
    c.in_ok-next.next c.atom_at.result zero_atom
    (positive c.args.many c.if-many-eq0.false) c.requires.many c.atom_at.ensures c.in_ok-made.ensures
    c.in_ok-next.ensures c.push.ensures
