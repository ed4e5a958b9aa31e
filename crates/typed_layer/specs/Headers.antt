-- What the layers of a stack have.
use Rattle.std.specs.Prelude.{◌≤◌, length}
use Rattle.std.specs.declared.alloc.Global.{Global}
use Rattle.std.specs.declared.rc.Rc.{Rc}
use Rattle.std.specs.Rc.{rc_value}
use Rattle.typed_layer.specs.declared.tree.TypedLayer.{TypedLayer}
use Rattle.msg_core.specs.Headers.{most_declared}

-- A layer declares at most seven headers.
abbrev pub HasFewHeaders : Rc TypedLayer Global → Type 0
HasFewHeaders layer = length (rc_value layer).headers.items ≤ most_declared
