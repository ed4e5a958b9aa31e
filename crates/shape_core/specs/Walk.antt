-- A walk along the predicted way of a handler: the steps in order, with what they give so far. It says what a drawn
-- visit says, and beside it what is counted and whether a condition with two predicted ways was met, also where it
-- stops.
use Rattle.std.specs.Prelude.{ℕ, ◌+◌, Bool, true, List, [], ◌∷◌, ◌++◌, length, map, Option, Some, Result, Ok, Err}
use Rattle.layer_words.specs.declared.events.Dir.{Dir}
use Rattle.layer_words.specs.declared.events.Kind.{Kind}
use Rattle.layer_mean.specs.Tree.{EmissionTree}
use Rattle.layer_mean.specs.Way.{Step, fork, put, get, send, loop, weight_of}
use Rattle.layer_mean.specs.Marked.{Marked}
use Rattle.layer_mean.specs.Queue.{Task, beyond}
use Rattle.stack_mean.specs.Acceptance.{held_at_most}
use Rattle.stack_mean.specs.NoShape as no_shape
use Rattle.stack_mean.specs.NoShape.{NoShape}
use Rattle.stack_mean.specs.Drawn.{DrawnHeader, DrawnMessage, DrawnEvent, emission_headers, with_taken}
use Rattle.shape_core.specs.declared.walk.Visit.{Visit}
use Rattle.shape_core.specs.declared.walk.Walk as code
use Rattle.shape_core.specs.Trees.{headers_tree, message_from, task_tree}

-- What a walk has reached: the messages of its scope, the tasks of what it sent, how much it counts for together with
-- what was before, and whether a condition with two predicted ways was met.
pub record Walking : Type 0 where
  pub scope : List DrawnMessage
  pub sent : List (Task (Marked DrawnEvent))
  pub length : ℕ
  pub forks : Bool

-- Why a walk stops, and whether it met such a condition.
pub record Stop : Type 0 where
  pub reason : NoShape
  pub forks : Bool

-- The next step, unless the one before it stopped.
abbrev pub onward : {A B : Type 0} → (A → Result B Stop) → Result A Stop → Result B Stop
onward f (Ok x) = f x
onward f (Err stop) = Err stop

abbrev pub lengthened : Walking → ℕ → Walking
lengthened w n = record w { length = held_at_most (w.length + n) }

-- The task of an emission, which is the next of those that a visit sent.
abbrev pub task_of : Visit → Dir → Kind → Option (List DrawnHeader) → List (Task (Marked DrawnEvent)) →
    Task (Marked DrawnEvent)
task_of v dir kind headers sent = record {
  at = beyond dir (v.place + 1);
  dir = dir;
  event = record {
    event = record { kind = kind; headers = headers };
    made_by = Some (record { visit = v.number; emission = length sent });
  };
}

abbrev pub sends : Visit → Dir → Kind → Option (List DrawnHeader) → Walking → Walking
sends v dir kind headers w = record w { sent = w.sent ++ task_of v dir kind headers w.sent ∷ [] }

abbrev pub emission_walked : Visit → EmissionTree → Walking → Result (Option (List DrawnHeader)) NoShape →
    Result Walking Stop
emission_walked v e w (Ok headers) = Ok (lengthened (sends v e.direction e.kind headers w) (weight_of (send e)))
emission_walked v e w (Err reason) = Err (record { reason = reason; forks = w.forks })

abbrev pub walk_step : Visit → Step → Walking → Result Walking Stop
walk_step v (fork case e) w = Ok (record (lengthened w 1) { forks = true })
walk_step v (put c i capacity row) w = Ok (lengthened w 2)
walk_step v (get c i taken) w = Ok (lengthened (record w { scope = with_taken taken w.scope }) 2)
walk_step v (send e) w = emission_walked v e w (emission_headers v.place e.direction w.scope e.content)
walk_step v loop w = Err (record { reason = no_shape.loop v.place; forks = w.forks })
walk_step v _ w = Ok (lengthened w 1)

abbrev pub walked : Visit → List Step → Walking → Result Walking Stop
walked v [] w = Ok w
walked v (x ∷ xs) w = onward (walked v xs) (walk_step v x w)

abbrev pub walking : code.Walk → Walking
walking w = record {
  scope = map (message_from (headers_tree w.entered)) w.scope.items;
  sent = map task_tree w.sent.items;
  length = w.length;
  forks = w.forks;
}
