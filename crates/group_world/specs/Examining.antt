-- What a group needs that is examined.
use Rattle.layer_mean.specs.Tree.{LayerTree}
use Rattle.std.specs.Prelude.{List}
use Rattle.bypass_laws.specs.Making.{IsSound}
use Rattle.miss_laws.specs.Asked.{AllAsked}
use Rattle.miss_laws.specs.Told.{AreChecksOf}

-- Its stack is sound, and the checks are the stack's.
pub record IsExamined (stack : List LayerTree) (all : AllAsked) : Type 0 where
  pub sound : IsSound stack
  pub checks : AreChecksOf stack all
