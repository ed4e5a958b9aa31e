-- The numbers that a text writes are below 2^32, so a text that is a file without faults means a typed stack.
use Rattle.std.specs.Prelude.{◌≡◌, ℕ, List, None}
use Rattle.layer_ast.specs.Tree.{FileTree}
use Rattle.fault_mean.specs.FileFault.{file_fault}
use Rattle.file_mean.specs.Library.{IsFile}
use Rattle.file_mean.specs.Stack.{stack_of}
use Rattle.chain_laws.specs.Runs.{TypedStack}
use Rattle.file_laws.specs.Literals.{LiteralFile}

-- The numbers of a file that a text is are below 2^32, and so are those of the layers that the library brings to it.
abbrev pub TextsAreLiteral : Type 0
TextsAreLiteral = (text : List ℕ) (file : FileTree) → IsFile text file → LiteralFile file

-- A text that is a file with no fault of names or types means a typed stack.
abbrev pub TextsAreTyped : Type 0
TextsAreTyped = (text : List ℕ) (file : FileTree) → IsFile text file → file_fault file ≡ None →
    TypedStack (stack_of file)
