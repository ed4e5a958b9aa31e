-- That an entry has a trace in a case exactly where it has a shape, and that the trace has the shape's length and its
-- outputs.
use Rattle.std.specs.Prelude.{◌≡◌, ℕ, List, [], ◌∷◌, map, length, Option, Ok}
use Rattle.std.specs.List.{flat_map}
use Rattle.std.specs.Option.{option_map_or}
use Rattle.layer_words.specs.declared.events.Dir.{Dir}
use Rattle.layer_words.specs.declared.events.Kind.{Kind}
use Rattle.layer_mean.specs.declared.run.Case.{Case}
use Rattle.layer_mean.specs.Tree.{LayerTree}
use Rattle.stack_mean.specs.Drawn.{DrawnHeader}
use Rattle.stack_mean.specs.NoShape.{drawn_from}
use Rattle.stack_mean.specs.Shape.{Known, ShapeOut, Shape, shape}
use Rattle.trace_mean.specs.Trace.{Link, Chained, Operation, output}
use Rattle.trace_mean.specs.Fuse.{trace_of}
use Rattle.trace_mean.specs.Counts.{trace_length, trace_outputs}

-- An output, as a shape and a trace both tell it: its edge by the direction, its kind, and the tags of its headers.
pub record Outlet : Type 0 where
  pub dir : Dir
  pub kind : Kind
  pub tags : List ℕ

-- The tags of the headers that a shape draws, and of the links of a trace.
abbrev pub tags_of_headers : List DrawnHeader → List ℕ
tags_of_headers headers = map (λ h. h.tag) headers

abbrev pub tags_of_links : List Link → List ℕ
tags_of_links links = map (λ l. l.tag) links

-- An output of a shape, told so.
abbrev pub shape_outlet : ShapeOut → Outlet
shape_outlet out = record { dir = out.dir; kind = out.kind; tags = tags_of_headers out.headers }

-- The tags of the headers of a message that a trace puts out; none where there is no message.
abbrev pub tags_of_message : Option Chained → List ℕ
tags_of_message message = option_map_or (λ m. tags_of_links m.chain) message []

-- The output of an operation that puts one out, told so; other operations have none.
abbrev pub outlets_of : Operation → List Outlet
outlets_of (output dir kind numbers message) = record { dir = dir; kind = kind; tags = tags_of_message message } ∷ []
outlets_of _ = []

-- The outputs of operations in order.
abbrev pub trace_outlets : List Operation → List Outlet
trace_outlets operations = flat_map outlets_of operations

-- What a shape and a trace both tell: how long they are, and their outputs in order.
pub record Told : Type 0 where
  pub length : ℕ
  pub outlets : List Outlet

-- What a shape tells.
abbrev pub told_by_shape : Shape → Told
told_by_shape s = record { length = s.length; outlets = map shape_outlet s.outs }

-- What a trace tells.
abbrev pub told_by_trace : List Operation → Told
told_by_trace operations = record { length = trace_length operations; outlets = trace_outlets operations }

-- Both are there, as long without notes and with the same outputs; or neither is, for the same reason.
abbrev pub TracesStandForShapes : Type 0
TracesStandForShapes = (case : Case) (stack : List LayerTree) (k : Known) (fields : List (Option ℕ)) →
    drawn_from (λ s. Ok (told_by_shape s)) (shape stack k case) ≡
    drawn_from (λ operations. Ok (told_by_trace operations)) (trace_of case stack k fields)

-- A trace has as many outputs as it tells.
abbrev pub OutputsAreTold : Type 0
OutputsAreTold = (operations : List Operation) → length (trace_outlets operations) ≡ trace_outputs operations
