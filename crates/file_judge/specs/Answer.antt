-- What may be answered for the bytes of a file.
use Rattle.std.specs.Prelude.{◌≡◌, ℕ, ◌≤◌, List, length, None, Result, Ok, Err}
use Rattle.layer_ast.specs.Spells.{longest_file}
use Rattle.layer_ast.specs.Tree.{FileTree}
use Rattle.layer_ast.specs.View.{file_tree}
use Rattle.layer_ast.specs.declared.syntax.File.{File}
use Rattle.layer_mean.specs.Tree.{LayerTree}
use Rattle.fault_mean.specs.FileFault.{file_fault}
use Rattle.file_mean.specs.Library.{IsFile}
use Rattle.file_mean.specs.Stack.{stack_of}
use Rattle.end_mean.specs.Status as cause
use Rattle.output_mean.specs.Judged.{Means, Refuses}
use Rattle.stack_judge.specs.Answer.{stack_tree}
use Rattle.stack_judge.specs.declared.stack.Stack.{Stack}
use Rattle.file_judge.specs.declared.error.FileError.{FileError}
use Rattle.file_judge.specs.declared.error.FileError.TheVariants.{TooLarge, BadToken, Unexpected, Unknown, Twice}
use Rattle.file_judge.specs.declared.error.FileError.TheVariants.{OverLimit, Kind, Arity, Direction, Header, Initial}
use Rattle.file_judge.specs.declared.error.FileError.TheVariants.{Cycle, TooMany, TooManyJoins, Memory}

-- The accepted stack that the bytes mean; the very cause for which they are refused; or want of memory.
abbrev pub Judges : List ℕ → Result Stack FileError → Type 0
Judges text (Ok s) = Means text (stack_tree s)
Judges text (Err TooLarge) = Refuses text cause.too_large
Judges text (Err (BadToken at)) = Refuses text (cause.bad_token at)
Judges text (Err (Unexpected at)) = Refuses text (cause.unexpected at)
Judges text (Err (Unknown at)) = Refuses text (cause.unknown at)
Judges text (Err (Twice at)) = Refuses text (cause.twice at)
Judges text (Err (OverLimit at)) = Refuses text (cause.over_limit at)
Judges text (Err (Kind at)) = Refuses text (cause.wrong_kind at)
Judges text (Err (Arity at)) = Refuses text (cause.arity at)
Judges text (Err (Direction at)) = Refuses text (cause.direction at)
Judges text (Err (Header at)) = Refuses text (cause.header at)
Judges text (Err (Initial at)) = Refuses text (cause.initial at)
Judges text (Err (Cycle place kind)) = Refuses text (cause.cycle place kind)
Judges text (Err (TooMany weight)) = Refuses text (cause.too_many weight)
Judges text (Err TooManyJoins) = Refuses text cause.too_many_joins
Judges text (Err Memory) = Unit {0}

-- The file that the bytes spell; the very cause for which they spell none; or want of memory.
abbrev pub Reads : List ℕ → Result File FileError → Type 0
Reads text (Ok f) = (length text ≤ longest_file) × IsFile text (file_tree f)
Reads text (Err e) = Judges text (Err e)

-- The bytes are a file without a fault of names or types, which means this stack.
pub record IsStackOf (text : List ℕ) (stack : List LayerTree) : Type 0 where
  pub small : length text ≤ longest_file
  pub file : FileTree
  pub is_file : IsFile text file
  pub faultless : file_fault file ≡ None
  pub means : stack ≡ stack_of file
