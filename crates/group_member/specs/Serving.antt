-- The code by which members run, and what is kept ready for its runs.
use Rattle.std.specs.Prelude.{◌≡◌, List, vec_capacity, Option, Some, None}
use Rattle.std.specs.List.{AllByRecursion}
use Rattle.layer_mean.specs.Tree.{LayerTree}
use Rattle.stack_mean.specs.Plan.{Plan}
use Rattle.packet_short.specs.Keeping.{HasAtMost}
use Rattle.bypass_mean.specs.Bypasses.{Bypasses}
use Rattle.bypass_laws.specs.Stack.{AreOfStack}
use Rattle.code_tests.specs.Registers.{IsEmpty}
use Rattle.code_tests.specs.declared.values.Values.{Values}
use Rattle.code_table.specs.Codes.{CodesTree, codes_of}
use Rattle.code_table.specs.Room.{ServesAll}
use Rattle.group_member.specs.declared.scratch.Scratch.{Scratch}

-- The codes of a stack: those of bypasses that are the stack's.
pub record AreCodesOf (stack : List LayerTree) (codes : CodesTree) : Type 0 where
  pub bypasses : Bypasses
  pub of : AreOfStack stack bypasses
  pub is : codes ≡ codes_of bypasses

abbrev pub AreCodes : List LayerTree → Option CodesTree → Type 0
AreCodes stack (Some codes) = AreCodesOf stack codes
AreCodes stack None = Unit {0}

-- Nothing is kept, and there is room for a run of each code.
abbrev pub Serves : Option CodesTree → Values → Type 0
Serves (Some codes) v = ServesAll codes v
Serves None v = IsEmpty v

-- So a scratch is between two runs, and it has a place for each field of each plan.
pub record IsSpare (codes : Option CodesTree) (plans : List Plan) (s : Scratch) : Type 0 where
  pub values : Serves codes s.values
  pub fields : AllByRecursion (HasAtMost (vec_capacity s.fields)) plans
