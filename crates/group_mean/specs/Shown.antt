-- The mode of a group, as the definitions see it.
use Rattle.run_mean.specs.Mode as mode
use Rattle.group_mean.specs.declared.mode.Mode.{Mode}
use Rattle.group_mean.specs.declared.mode.Mode.TheVariants.{Layered, Bypass}

-- The mode of a group in code, as the definitions have it.
abbrev pub shown_mode : Mode → mode.Mode
shown_mode Layered = mode.layered
shown_mode Bypass = mode.bypass
