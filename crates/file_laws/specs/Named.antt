-- Files without faults mean stacks that name only what is there.
use Rattle.std.specs.Prelude.{◌≡◌, ℕ, List, None}
use Rattle.layer_ast.specs.Tree.{FileTree}
use Rattle.fault_mean.specs.FileFault.{file_fault}
use Rattle.file_mean.specs.Library.{IsFile}
use Rattle.file_mean.specs.Stack.{stack_of}
use Rattle.chain_laws.specs.Named.{NamedStack}

-- A file with no fault of names or types means such a stack; so does a text that is such a file.
abbrev pub FilesAreNamed : Type 0
FilesAreNamed = (file : FileTree) → file_fault file ≡ None → NamedStack (stack_of file)

abbrev pub TextsAreNamed : Type 0
TextsAreNamed = (text : List ℕ) (file : FileTree) → IsFile text file → file_fault file ≡ None →
    NamedStack (stack_of file)
