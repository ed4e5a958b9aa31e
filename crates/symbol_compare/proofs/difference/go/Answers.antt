use Rattle.std.proofs.Common.{refl}
use Rattle.symbol_compare.proofs.Growing.{not_grown}
use Rattle.symbol_compare.proofs.difference.go.Goals as goal

pub loop-turn-init : goal.loop-turn-init
loop-turn-init c = (not_grown c.args.table.now, refl, c.requires.first, c.requires.walked)
