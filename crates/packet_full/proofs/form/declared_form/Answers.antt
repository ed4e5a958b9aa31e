use Rattle.std.proofs.Common.{arith, ap, length}
use Rattle.packet_full.proofs.Declared.{declared_header}
use Rattle.packet_full.proofs.form.declared_form.Goals as goal

pub returns-clause-is : goal.returns-clause-is
returns-clause-is c =
    let found = c.in_ok-header.ensures.lookup in
    declared_header c.args.layer.now c.args.tag c.in_ok-header.header.now c.if-tag-eq0.false
    (omega (arith, found.3.0, ap length c.deref.ensures.value)) (rw (← c.deref.ensures.value, ← c.from.ensures) found.1)
