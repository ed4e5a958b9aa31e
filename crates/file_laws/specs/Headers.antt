-- The headers of the layers of a stack that members run.
use Rattle.std.specs.Prelude.{◌≡◌, ◌≤◌, All, List, length, map}
use Rattle.std.specs.List.{AllByRecursion}
use Rattle.std.specs.declared.alloc.Global.{Global}
use Rattle.std.specs.declared.rc.Rc.{Rc}
use Rattle.layer_ast.specs.Tree.{FileTree}
use Rattle.file_mean.specs.Stack.{stack_of}
use Rattle.typed_layer.specs.declared.tree.TypedLayer.{TypedLayer}
use Rattle.typed_layer.specs.Headers.{HasFewHeaders}
use Rattle.typed_layer.specs.Places.{rc_tree}
use Rattle.file_laws.specs.Bounds.{HoldsFile}
use Rattle.msg_core.specs.Headers.{most_declared}

-- Each layer of the stack that such a file means declares at most seven headers; so does each of the typed layers that
-- are this stack.
abbrev pub StacksHaveFewHeaders : Type 0
StacksHaveFewHeaders = (file : FileTree) → HoldsFile file →
    AllByRecursion (λ layer. length layer.headers ≤ most_declared) (stack_of file)

abbrev pub TypedHaveFewHeaders : Type 0
TypedHaveFewHeaders =
    (file : FileTree) (layers : List (Rc TypedLayer Global)) →
    HoldsFile file → map rc_tree layers ≡ stack_of file → All HasFewHeaders layers
