use Rattle.std.proofs.Common.{◌∙◌, sym}
use Rattle.packet_short.proofs.Alike.{all_after}
use Rattle.packet_short.proofs.agreement.after_header.Goals as goal

pub returns-then-len-eq0-clause-rest : goal.returns-then-len-eq0-clause-rest
returns-then-len-eq0-clause-rest c = all_after c.args.planned.now c.args.header.now.fields
    (sym c.len.ensures.count ∙ c.if-len-eq0.true)
