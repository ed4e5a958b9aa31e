-- The faults of items after which others follow.
use Rattle.std.specs.Prelude.{List}
use Rattle.layer_ast.specs.Tree.{ItemTree}
use Rattle.fault_mean.specs.Earliest.{unless}
use Rattle.fault_mean.specs.Faults.{NameFault, too_many}
use Rattle.fault_mean.specs.Kinds.{a_number, allows}

-- The fault of an item that others follow, if it is no number.
abbrev pub followed_faults : ItemTree → List NameFault
followed_faults i = unless (allows a_number i.sort) (too_many i.name.at)
