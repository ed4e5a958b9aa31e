-- What becomes of an event in a world, by what it gives.
use Rattle.std.specs.Prelude.{◌≡◌, ℕ, List}
use Rattle.layer_mean.specs.Tree.{LayerTree}
use Rattle.stack_mean.specs.Plan.{Plan}
use Rattle.run_mean.specs.World.{World, Happening, only, absent, shown, step_happening}
use Rattle.view_core.specs.Steps.{input_meant}
use Rattle.group_world.specs.declared.asked.Asked.{Asked}
use Rattle.group_world.specs.declared.asked.Asked.TheVariants.{Step, Absent, Shown}

-- If an input is given, it is given to this member.
abbrev pub IsFor : ℕ → Asked → Type 0
IsFor member (Step id input) = id ≡ member
IsFor member _ = Unit {0}

-- What happens is that the member steps by the input that it is given; or nothing happens, where it is given none.
abbrev pub Asks : List LayerTree → List Plan → World → Happening → Asked → Type 0
Asks stack plans w h (Step id input) = h ≡ step_happening stack plans w id (input_meant input)
Asks stack plans w h Absent = h ≡ only w absent
Asks stack plans w h Shown = h ≡ only w shown
