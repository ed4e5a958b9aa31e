use Rattle.member_laws.proofs.Fit.{short_wires_spell}
use Rattle.member_laws.proofs.short_wires_spell.Goals as goal

pub returns : goal.returns
returns c = short_wires_spell
