-- What the code's headers, messages and events stand for.
use Rattle.std.specs.Prelude.{List, [], map, option_map}
use Rattle.std.specs.declared.alloc.Global.{Global}
use Rattle.std.specs.declared.vec.Vec.{Vec}
use Rattle.std.specs.Rc.{rc_slice_items}
use Rattle.layer_mean.specs.Marked as mean
use Rattle.layer_mean.specs.Marked.{Marked}
use Rattle.layer_mean.specs.Queue as queue
use Rattle.stack_mean.specs.Drawn as drawn
use Rattle.stack_mean.specs.Drawn.{DrawnMessage, DrawnEvent, chained, unknown}
use Rattle.shape_core.specs.declared.header.DrawnHeader.{DrawnHeader}
use Rattle.shape_core.specs.declared.types.Source.{Source}
use Rattle.shape_core.specs.declared.walk.Origin.{Origin}
use Rattle.shape_core.specs.declared.walk.Origin.TheVariants.{Entered, Bare, Stored}
use Rattle.shape_core.specs.declared.walk.Task.{Task}

abbrev pub header_tree : DrawnHeader → drawn.DrawnHeader
header_tree h = record { tag = h.tag; fields = rc_slice_items h.fields }

abbrev pub headers_tree : Vec DrawnHeader Global → List drawn.DrawnHeader
headers_tree headers = map header_tree headers.items

-- A message of the scope of a handler that was entered with these headers.
abbrev pub message_from : List drawn.DrawnHeader → Origin → DrawnMessage
message_from entered Entered = chained entered
message_from entered Bare = chained []
message_from entered Stored = unknown

abbrev pub source_tree : Source → mean.Source
source_tree s = record { visit = s.visit; emission = s.emission }

abbrev pub task_tree : Task → queue.Task (Marked DrawnEvent)
task_tree t = record {
  at = t.at;
  dir = t.dir;
  event = record {
    event = record { kind = t.kind; headers = option_map headers_tree t.headers };
    made_by = option_map source_tree t.made_by;
  };
}
