-- Where a decision stands, as the code keeps it.
use Rattle.miss_mean.specs.Spots as mean
use Rattle.miss_explain.specs.declared.spot.Spot.{Spot}

abbrev pub spot_tree : Spot → mean.Spot
spot_tree s = record { visit = s.visit; place = s.place; line = s.line }
