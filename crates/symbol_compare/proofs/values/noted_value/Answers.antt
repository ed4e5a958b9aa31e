use Rattle.symbol_compare.proofs.Leaves.{noted_known}
use Rattle.symbol_compare.specs.Walk.{known_to}
use Rattle.symbol_compare.proofs.values.noted_value.Goals as goal

pub returns-in-Some : goal.returns-in-Some
returns-in-Some c = noted_known c.args.table.now c.args.walk.now (known_to c.args.walk.now) c.args.message c.requires
    c.in-Some.value c.in-Some.ensures
