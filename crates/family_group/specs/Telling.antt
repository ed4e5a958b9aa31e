-- Where a run is that is written with a gear.
use Rattle.std.specs.Prelude.{◌≡◌}
use Rattle.script_mean.specs.declared.script.Script.{Script}
use Rattle.group_feed.specs.Standing.{Peopled}
use Rattle.stack_play.specs.Turns.{Playing}
use Rattle.family_group.specs.declared.gear.Gear.{Gear}

-- Its group, for how many outputs of a step there is room, and how many visits were counted.
abbrev pub playing : Peopled → Gear → Playing
playing c g = record { group = c; places = g.outputs.places; visits = g.visits }

-- A group has the number and the stamp of a script.
pub record IsNamed (s : Script) (c : Peopled) : Type 0 where
  pub group : c.group ≡ s.group
  pub stamp : c.stamp ≡ s.stamp
