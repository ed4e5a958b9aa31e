-- The plans of a stack: one for each packet that an application's own cast or send is predicted to send, in one case or
-- the other.
use Rattle.std.specs.Prelude.{ℕ, Bool, false, List, [], ◌∷◌, map, take, length, Result, Ok, Err}
use Rattle.std.specs.List.{filter, flat_map, sum_by}
use Rattle.layer_words.specs.declared.events.Dir.{Dir}
use Rattle.layer_words.specs.declared.events.Dir.TheVariants.{Up, Down}
use Rattle.layer_mean.specs.declared.run.Case.{Case}
use Rattle.layer_mean.specs.declared.run.Case.TheVariants.{First, Second}
use Rattle.layer_mean.specs.Event.{carries}
use Rattle.layer_mean.specs.Tree.{LayerTree}
use Rattle.stack_mean.specs.Plan.{Plan}
use Rattle.stack_mean.specs.NoShape.{NoShape}
use Rattle.stack_mean.specs.Shape.{Known, ShapeOut, Shape, app_cast, app_send, shape}

-- The most plans of a stack.
abbrev pub plans_limit : ℕ
plans_limit = 250

-- Whether an output is a packet: a cast or a send at the lower edge.
abbrev pub is_packet : ShapeOut → Dir → Bool
is_packet out Up = false
is_packet out Down = carries out.kind

-- The plan of a packet output.
abbrev pub plan_of : ShapeOut → Plan
plan_of out = record {
  kind = out.kind;
  tags = map (λ h. h.tag) out.headers;
  fields = flat_map (λ h. h.fields) out.headers;
}

-- The outputs of a shape, and none where there is no shape.
abbrev pub outs_of : Result Shape NoShape → List ShapeOut
outs_of (Ok s) = s.outs
outs_of (Err reason) = []

-- An application's own event in a case.
pub record Group : Type 0 where
  pub entry : Known
  pub case : Case

-- The groups in which plans stand: a cast and a send in the first case, then both in the second.
abbrev pub groups : List Group
groups =
    record { entry = app_cast; case = First } ∷ record { entry = app_send; case = First } ∷
    record { entry = app_cast; case = Second } ∷ record { entry = app_send; case = Second } ∷ []

-- The packet outputs of a group, in order; none where it has no shape.
abbrev pub packets_of : List LayerTree → Group → List ShapeOut
packets_of stack g = filter (λ out. is_packet out out.dir) (outs_of (shape stack g.entry g.case))

-- The number of the first plan of the group that comes after `number` others.
abbrev pub plans_before : List LayerTree → ℕ → ℕ
plans_before stack number = sum_by (λ g. length (packets_of stack g)) (take number groups)

-- The plans of a stack, in the order of the groups and of their outputs; later packets have none.
abbrev pub plans_of : List LayerTree → List Plan
plans_of stack = take plans_limit (map plan_of (flat_map (packets_of stack) groups))
