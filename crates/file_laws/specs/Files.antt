-- Files without faults mean typed stacks.
use Rattle.std.specs.Prelude.{◌≡◌, None}
use Rattle.layer_ast.specs.Tree.{FileTree}
use Rattle.fault_mean.specs.FileFault.{file_fault}
use Rattle.file_mean.specs.Stack.{stack_of}
use Rattle.chain_laws.specs.Runs.{TypedStack}
use Rattle.file_laws.specs.Literals.{LiteralFile}

-- A file with no fault of names or types means a typed stack.
abbrev pub FilesAreTyped : Type 0
FilesAreTyped = (file : FileTree) → LiteralFile file → file_fault file ≡ None → TypedStack (stack_of file)
