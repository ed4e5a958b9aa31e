-- Stacks that are judged, drawn and planned by computing.
use Rattle.std.specs.Prelude.{◌≡◌, ℕ, ⊤, List, [], ◌∷◌, ◌++◌, map, replicate, Option, Some, None, Result, Ok, Err}
use Rattle.std.specs.Prelude.{codes}
use Rattle.msg_core.specs.Chain.{Content}
use Rattle.layer_words.specs.declared.events.Dir.{Dir}
use Rattle.layer_words.specs.declared.events.Dir.TheVariants.{Up, Down}
use Rattle.layer_words.specs.declared.events.Kind.TheVariants.{Cast, Send, Timer}
use Rattle.layer_mean.specs.declared.run.Event.{Event}
use Rattle.layer_mean.specs.declared.run.Case.TheVariants.{First}
use Rattle.layer_mean.specs.Tree.{LayerTree}
use Rattle.layer_words.specs.Spelling.{kinds}
use Rattle.layer_mean.specs.Effect.{unusual}
use Rattle.layer_mean.specs.Queue.{run}
use Rattle.layer_mean.specs.Visit.{Visited, fresh, step}
use Rattle.layer_mean.specs.Marked.{Source}
use Rattle.stack_mean.specs.Acceptance.{cycle, too_many, too_many_joins, acceptance, largest_weight, largest_joins}
use Rattle.stack_mean.specs.Acceptance.{rows_of}
use Rattle.stack_mean.specs.NoShape as no_shape
use Rattle.stack_mean.specs.NoShape.{NoShape, drawn_from}
use Rattle.stack_mean.specs.Drawn.{DrawnHeader}
use Rattle.stack_mean.specs.Shape.{app_cast, app_send, packet_entry, ShapeVisit, ShapeOut, Shape, drawn_shape, shape}
use Rattle.stack_mean.specs.Shape.{has_second_case}
use Rattle.stack_mean.specs.Plans.{plans_of}
use Rattle.stack_mean.specs.SampleLayers.{counter, bottom, mnak, local_copy, total, echo, fan, repeater, joiner}
use Rattle.stack_mean.specs.SampleLayers.{surprised_layer, late, mirror, memory, answering, doubler, silent_layer}

-- What small stacks compute with, which a proof by evaluation unfolds at once.
unfoldable pub evaluated : ⊤
unfolding kinds step run drawn_shape has_second_case
evaluated = tt

-- Two layers that send each cast back to each other go on forever; one alone doesn't.
abbrev pub TwoEchoes : Type 0
TwoEchoes = (acceptance (echo ∷ echo ∷ []) ≡ Err (cycle 0 Cast)) × (acceptance (echo ∷ []) ≡ Ok (echo ∷ []))

-- A stack of n layers that make sixteen events of one.
abbrev pub fans : ℕ → List LayerTree
fans n = replicate n fan

-- The weights of stacks of one to four layers that each make sixteen events of one.
abbrev pub FanWeights : Type 0
FanWeights = map (λ n. largest_weight (fans n)) (1 ∷ 2 ∷ 3 ∷ 4 ∷ []) ≡ 17 ∷ 273 ∷ 4369 ∷ 69905 ∷ []

-- Four layers that each make sixteen events of one are too many, and three are accepted.
abbrev pub FourFans : Type 0
FourFans = (acceptance (fans 4) ≡ Err (too_many 69905)) × (acceptance (fans 3) ≡ Ok (fans 3))

-- The joins of a loop's bound count outside it: three times one and, in a loop of 32, two; a layer above does this as
-- often as it sends.
abbrev pub NestedJoins : Type 0
NestedJoins =
    (largest_joins (joiner 32 ∷ []) ≡ 195) × (acceptance (joiner 32 ∷ []) ≡ Ok (joiner 32 ∷ [])) ×
    (acceptance (joiner 32 ∷ joiner 32 ∷ []) ≡ Err too_many_joins)

-- A message that comes back with its headers can't be answered again and again; one that isn't known may have any
-- header.
abbrev pub ReturnedHeaders : Type 0
ReturnedHeaders =
    (acceptance (mirror ∷ answering ∷ []) ≡ Ok (mirror ∷ answering ∷ [])) ×
    (acceptance (memory ∷ answering ∷ []) ≡ Err (cycle 0 Cast))

-- A queue of 64 messages, and one of 16 for each of five members.
abbrev pub MessageRows : Type 0
MessageRows = rows_of (bottom ∷ mnak ∷ []) 5 ≡ 144

-- Loops, rare handlers and messages that were stored can't be drawn; the first of them counts.
abbrev pub NotDrawn : Type 0
NotDrawn =
    (shape (repeater ∷ []) app_cast First ≡ Err (no_shape.loop 0)) ×
    (shape (repeater ∷ []) app_send First ≡ Err (no_shape.loop 0)) ×
    (shape (bottom ∷ surprised_layer ∷ late ∷ []) app_cast First ≡ Err (no_shape.stored 2)) ×
    (shape (late ∷ surprised_layer ∷ bottom ∷ []) app_cast First ≡ Err (no_shape.rare 1))

-- How long a shape is, without its visits.
abbrev pub length_of : Result Shape NoShape → Result ℕ NoShape
length_of = drawn_from (λ s. Ok s.length)

-- Nine layers of which each but the highest doubles a cast make 256 visits and as many outputs; one more is too long.
abbrev pub LongShapes : Type 0
LongShapes =
    (length_of (shape (replicate 8 doubler ++ silent_layer ∷ []) app_cast First) ≡ Ok 766) ×
    (shape (replicate 8 doubler ++ silent_layer ∷ silent_layer ∷ []) app_cast First ≡ Err no_shape.long)

-- A header as shapes show it.
abbrev pub header : ℕ → List (Option ℕ) → DrawnHeader
header tag fields = record { tag = tag; fields = fields }

-- The maker of an event: this visit, with this emission of it, both counted from 0.
abbrev pub made_by : ℕ → ℕ → Option Source
made_by visit emission = Some (record { visit = visit; emission = emission })

-- A visit of a cast, as shapes show it: its place from 0, its direction, the tag of its first header, and its maker.
abbrev pub visit : ℕ → Dir → ℕ → Option Source → ShapeVisit
visit place dir tag maker = record { place = place; dir = dir; kind = Cast; tag = tag; made_by = maker }

-- An output of a cast, as shapes show it: its direction, its headers, and its maker.
abbrev pub out : Dir → List DrawnHeader → Option Source → ShapeOut
out dir headers maker = record { dir = dir; kind = Cast; headers = headers; made_by = maker }

-- A stack of `bottom`, `local` and `total`: a numbered cast goes out, and then comes back to its sender.
abbrev pub ordering_stack : List LayerTree
ordering_stack = bottom ∷ local_copy ∷ total ∷ []

-- The shape of the application's cast over `bottom`, `local` and `total`: four visits, and the packet leaves before the
-- delivery.
abbrev pub OrderedShape : Type 0
OrderedShape = shape ordering_stack app_cast First ≡ Ok (record {
  visits = visit 2 Down 0 None ∷ visit 1 Down 1 (made_by 0 0) ∷ visit 0 Down 0 (made_by 1 0) ∷
      visit 2 Up 1 (made_by 1 1) ∷ [];
  outs =
      out Down (header 1 (Some 1 ∷ []) ∷ header 0 [] ∷ header 1 (None ∷ None ∷ []) ∷ []) (made_by 2 0) ∷
      out Up [] (made_by 3 0) ∷ [];
  length = 15;
})

-- A stack of `bottom`, `mnak`, `local` and `total`, of which `mnak` keeps what it sends: a cast comes back before it
-- goes out.
abbrev pub keeping_stack : List LayerTree
keeping_stack = bottom ∷ mnak ∷ local_copy ∷ total ∷ []

-- The shape of the application's cast over `bottom`, `mnak`, `local` and `total`: five visits, and the delivery comes
-- before the packet.
abbrev pub KeptShape : Type 0
KeptShape = shape keeping_stack app_cast First ≡ Ok (record {
  visits =
      visit 3 Down 0 None ∷ visit 2 Down 1 (made_by 0 0) ∷ visit 1 Down 0 (made_by 1 0) ∷ visit 3 Up 1 (made_by 1 1) ∷
      visit 0 Down 1 (made_by 2 0) ∷ [];
  outs =
      out Up [] (made_by 3 0) ∷
      out Down (header 1 (Some 1 ∷ []) ∷ header 1 (None ∷ []) ∷ header 0 [] ∷ header 1 (None ∷ None ∷ []) ∷ [])
      (made_by 4 0) ∷ [];
  length = 20;
})

-- Both stacks are accepted; over the one that keeps what it sends, sixteen casts that waited may go up after one.
abbrev pub OrderedAccepted : Type 0
OrderedAccepted =
    (acceptance ordering_stack ≡ Ok ordering_stack) × (acceptance keeping_stack ≡ Ok keeping_stack) ×
    (largest_weight ordering_stack ≡ 9) ×
    (largest_weight keeping_stack ≡ 55)

-- The plans of the stack without `mnak`, a cast's and a send's: the number in the lowest layer's header is constant.
abbrev pub OrderedPlans : Type 0
OrderedPlans = plans_of ordering_stack ≡
    record { kind = Cast; tags = 1 ∷ 0 ∷ 1 ∷ []; fields = Some 1 ∷ None ∷ None ∷ [] } ∷
    record { kind = Send; tags = 1 ∷ 0 ∷ 0 ∷ []; fields = Some 1 ∷ [] } ∷ []

-- The plans of the stack with `mnak`, a cast's and a send's: the number in the lowest layer's header is constant.
abbrev pub KeptPlans : Type 0
KeptPlans = plans_of keeping_stack ≡
    record { kind = Cast; tags = 1 ∷ 1 ∷ 0 ∷ 1 ∷ []; fields = Some 1 ∷ None ∷ None ∷ None ∷ [] } ∷
    record { kind = Send; tags = 1 ∷ 0 ∷ 0 ∷ 0 ∷ []; fields = Some 1 ∷ [] } ∷ []

-- The shapes of the counter's four entries: its own cast and send, and the packets of both.
abbrev pub CounterLengths : Type 0
CounterLengths = map (λ k. length_of (shape (counter ∷ []) k First))
    (app_cast ∷ app_send ∷ packet_entry Cast (1 ∷ []) ∷ packet_entry Send (0 ∷ []) ∷ []) ≡ Ok 4 ∷ Ok 1 ∷ Ok 4 ∷ Ok 1 ∷
    []

-- A cast of this message, with peer 1.
abbrev pub cast_of : Content → Event
cast_of m = record { kind = Cast; peer = 1; a = 0; b = 0; message = Some m }

-- The visit of an event at the layer `silent`, at place 3 of the member of rank 0 of two.
abbrev pub at_silent : Dir → Event → Visited
at_silent dir event = step 3 silent_layer (fresh silent_layer 0 2 0) dir event

-- A visit of the layer `silent` that sends this event on and leaves the state as it was.
abbrev pub passed_visit : Dir → Event → Visited
passed_visit dir event = record { state = fresh silent_layer 0 2 0; sent = (dir, event) ∷ []; decided = [] }

-- A message with a header of this tag at place 3, before the letter x.
abbrev pub tagged_content : ℕ → List ℕ → Content
tagged_content tag fields = record { headers = record { layer = 3; tag = tag; fields = fields } ∷ []; body = codes "x" }

-- A message without headers: the letter x.
abbrev pub untagged_content : Content
untagged_content = record { headers = []; body = codes "x" }

-- A tick of the clock at moment 5.
abbrev pub tick : Event
tick = record { kind = Timer; peer = 0; a = 5; b = 0; message = None }

-- An event without a message passes. A message passes going down, after `none`, and going up, where `none` was popped;
-- after another header it is dropped, which isn't predicted.
abbrev pub MissingHandlers : Type 0
MissingHandlers =
    (at_silent Up tick ≡ passed_visit Up tick) × (at_silent Down tick ≡ passed_visit Down tick) ×
    (at_silent Down (cast_of untagged_content) ≡ passed_visit Down (cast_of (tagged_content 0 []))) ×
    (at_silent Up (cast_of (tagged_content 0 [])) ≡ passed_visit Up (cast_of untagged_content)) ×
    (at_silent Up (cast_of (tagged_content 1 (7 ∷ []))) ≡
    record { state = fresh silent_layer 0 2 0; sent = []; decided = unusual ∷ [] })
