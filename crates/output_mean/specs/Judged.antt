-- Which stack the bytes of a file mean, or why the file is refused.
use Rattle.std.specs.Prelude.{◌≡◌, ℕ, ◌<◌, ◌≤◌, List, length, Option, Some, None, Result, Ok, Err, ◌⊎◌}
use Rattle.layer_ast.specs.Spells.{longest_file}
use Rattle.layer_ast.specs.Stops.{StopsBad, StopsInside, StopsAtEnd}
use Rattle.layer_ast.specs.Tree.{FileTree}
use Rattle.layer_mean.specs.Tree.{LayerTree}
use Rattle.fault_mean.specs.Faults as faults
use Rattle.fault_mean.specs.FileFault.{file_fault}
use Rattle.file_mean.specs.Library.{IsFile}
use Rattle.file_mean.specs.Stack.{stack_of}
use Rattle.stack_mean.specs.Acceptance as limits
use Rattle.stack_mean.specs.Acceptance.{acceptance}
use Rattle.end_mean.specs.Status.{FileFault, too_large, bad_token, unexpected, unknown, twice, over_limit, wrong_kind}
use Rattle.end_mean.specs.Status.{arity, direction, header, initial, cycle, too_many, too_many_joins}

-- A fault of names, as the program says it.
abbrev pub said_name : faults.NameFault → FileFault
said_name (faults.unknown at) = unknown at
said_name (faults.twice at) = twice at
said_name (faults.too_many at) = over_limit at

-- A fault of types, as the program says it.
abbrev pub said_type : faults.TypeFault → FileFault
said_type (faults.kind at) = wrong_kind at
said_type (faults.arity at) = arity at
said_type (faults.direction at) = direction at
said_type (faults.header at) = header at
said_type (faults.initial at) = initial at

-- A fault of a file, of its names or of its types, as the program says it.
abbrev pub said_fault : faults.FileFault → FileFault
said_fault (faults.of_names fault) = said_name fault
said_fault (faults.of_types fault) = said_type fault

-- Why a stack isn't accepted, as the program says it.
abbrev pub said_refusal : limits.Refusal → FileFault
said_refusal (limits.cycle place kind) = cycle place kind
said_refusal (limits.too_many weight) = too_many weight
said_refusal limits.too_many_joins = too_many_joins

-- An accepted stack, or why it isn't.
abbrev pub said_accepted : Result (List LayerTree) limits.Refusal → Result (List LayerTree) FileFault
said_accepted (Ok stack) = Ok stack
said_accepted (Err refusal) = Err (said_refusal refusal)

-- A file is judged by its first fault; without one, by the stack that it means.
abbrev pub judged_by : FileTree → Option faults.FileFault → Result (List LayerTree) FileFault
judged_by file (Some fault) = Err (said_fault fault)
judged_by file None = said_accepted (acceptance (stack_of file))

-- The accepted stack of a file, or the first cause for which the file is refused: names, then types, then the stack.
abbrev pub judged_stack : FileTree → Result (List LayerTree) FileFault
judged_stack file = judged_by file (file_fault file)

-- The bytes of a file mean an accepted stack.
pub record Means (text : List ℕ) (stack : List LayerTree) : Type 0 where
  pub small : length text ≤ longest_file
  pub file : FileTree
  pub is_file : IsFile text file
  pub accepted : judged_stack file ≡ Ok stack

-- The bytes of a file mean a stack.
pub record IsGood (text : List ℕ) : Type 0 where
  pub stack : List LayerTree
  pub means : Means text stack

-- The bytes of a file spell one that is refused for this cause.
pub record Condemns (text : List ℕ) (fault : FileFault) : Type 0 where
  pub small : length text ≤ longest_file
  pub file : FileTree
  pub is_file : IsFile text file
  pub refused : judged_stack file ≡ Err fault

-- Why the bytes of a file are refused: there are too many; or they stop being the beginning of a file, at a bad token,
-- at a token that no file goes on with or at their end; or the file that they spell is refused.
abbrev pub Refuses : List ℕ → FileFault → Type 0
Refuses text too_large = longest_file < length text
Refuses text (bad_token at) = (length text ≤ longest_file) × StopsBad text at
Refuses text (unexpected at) = (length text ≤ longest_file) × (StopsInside text at ⊎ StopsAtEnd text at)
Refuses text fault = Condemns text fault
