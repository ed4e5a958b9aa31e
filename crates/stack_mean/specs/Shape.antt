-- The shape of an entry in a case: which visits and outputs follow from it where all goes as predicted in the case,
-- told by the layers' texts alone. (After the common paths of the SOSP 1999 paper; that there may be two cases is this
-- project's own.)
use Rattle.std.specs.Prelude.{ℕ, ◌+◌, ◌-◌, Bool, false, ◌&&◌, ◌||◌, nat_lt, if◌then◌else◌, List, [], ◌∷◌, map}
use Rattle.std.specs.Prelude.{replicate, length, Option, Some, None, Result, Ok, Err}
use Rattle.std.specs.Option.{option_map_or}
use Rattle.layer_words.specs.declared.events.Dir.{Dir}
use Rattle.layer_words.specs.declared.events.Dir.TheVariants.{Up, Down}
use Rattle.layer_words.specs.declared.events.Kind.{Kind}
use Rattle.layer_words.specs.declared.events.Kind.TheVariants.{Cast, Send}
use Rattle.layer_mean.specs.declared.run.Case.{Case}
use Rattle.layer_mean.specs.declared.run.Case.TheVariants.{First, Second}
use Rattle.layer_mean.specs.Headers.{header_of_tag}
use Rattle.layer_mean.specs.Tree.{LayerTree}
use Rattle.layer_mean.specs.Queue.{Task, Turn, Player, run_for, starting, layer_at}
use Rattle.layer_mean.specs.Marked.{Source, Logged, Log, marking_player, marked_start}
use Rattle.stack_mean.specs.Acceptance.{weight_limit}
use Rattle.stack_mean.specs.NoShape as no_shape
use Rattle.stack_mean.specs.NoShape.{NoShape, drawn_from}
use Rattle.stack_mean.specs.Drawn.{DrawnHeader, DrawnEvent, DrawnVisit, drawn_visit, visit_forks}

-- The visits so far, and how many predicted statements, arguments and outputs they count for.
pub record Progress : Type 0 where
  pub visits : ℕ
  pub length : ℕ

-- The most visits of a shape.
abbrev pub visits_limit : ℕ
visits_limit = 256

-- A visit that can't be drawn ends all.
abbrev pub drawn_turn : Progress → Result DrawnVisit NoShape → Turn (Result Progress NoShape) DrawnEvent
drawn_turn p (Err reason) = record { world = Err reason; sent = [] }
drawn_turn p (Ok v) =
    record { world = Ok (record { visits = p.visits + 1; length = p.length + v.length }); sent = v.sent }

-- A visit is looked at if none failed before it and one more is allowed.
abbrev pub shaped_visit : Case → List LayerTree → ℕ → Dir → DrawnEvent → Result Progress NoShape →
    Turn (Result Progress NoShape) DrawnEvent
shaped_visit case stack at dir event (Err reason) = record { world = Err reason; sent = [] }
shaped_visit case stack at dir event (Ok p) = if nat_lt p.visits visits_limit
    then drawn_turn p (drawn_visit case (at - 1) (layer_at stack at) dir event)
    else record { world = Err no_shape.long; sent = [] }

-- An output counts for one.
abbrev pub with_output : Progress → Progress
with_output p = record p { length = p.length + 1 }

-- The player of the queue that draws a run in a case.
abbrev pub shaper : Case → List LayerTree → Player (Result Progress NoShape) DrawnEvent
shaper case stack = record {
  visit = λ at dir event w. shaped_visit case stack at dir event w;
  output = λ dir event w. drawn_from (λ p. Ok (with_output p)) w;
}

-- Nothing is drawn yet.
abbrev pub undrawn : Result Progress NoShape
undrawn = Ok (record { visits = 0; length = 0 })

-- The event that an entry begins with, as far as it is known: its direction, its kind and the tags of its headers.
pub record Known : Type 0 where
  pub dir : Dir
  pub kind : Kind
  pub tags : List ℕ

-- The application's own cast: it comes from above and has no headers yet.
abbrev pub app_cast : Known
app_cast = record { dir = Down; kind = Cast; tags = [] }

-- The application's own send: it comes from above and has no headers yet.
abbrev pub app_send : Known
app_send = record { dir = Down; kind = Send; tags = [] }

-- The cast or send of a packet: it comes from below with these tags, the lowest layer's first.
abbrev pub packet_entry : Kind → List ℕ → Known
packet_entry kind tags = record { dir = Up; kind = kind; tags = tags }

-- Where an entry begins: at the lowest place going up, at the highest going down.
abbrev pub entry_place : List LayerTree → Dir → ℕ
entry_place stack Up = 1
entry_place stack Down = length stack

-- A header of a layer of which the tag alone is known: none of its fields is.
abbrev pub unknown_header : LayerTree → ℕ → DrawnHeader
unknown_header layer tag =
    record { tag = tag; fields = replicate (option_map_or (λ h. h.fields) (header_of_tag layer tag) 0) None }

-- The headers of an entry, from these layers on; what stands after the highest layer's has no fields.
abbrev pub entry_headers : List LayerTree → List ℕ → List DrawnHeader
entry_headers layers [] = []
entry_headers [] (tag ∷ tags) = record { tag = tag; fields = [] } ∷ entry_headers [] tags
entry_headers (layer ∷ above) (tag ∷ tags) = unknown_header layer tag ∷ entry_headers above tags

-- The event of an entry at the place where it begins, with its headers as far as they are known.
abbrev pub entry_task : List LayerTree → Known → Task DrawnEvent
entry_task stack k = record {
  at = entry_place stack k.dir;
  dir = k.dir;
  event = record { kind = k.kind; headers = Some (entry_headers stack k.tags) };
}

-- What is drawn in the first case, and whether a condition with two predicted ways was met.
pub record Watched : Type 0 where
  pub drawn : Result Progress NoShape
  pub forks : Bool

-- A visit that is looked at may meet such a condition.
abbrev pub meets_fork : List LayerTree → ℕ → Dir → DrawnEvent → Result Progress NoShape → Bool
meets_fork stack at dir event (Err reason) = false
meets_fork stack at dir event (Ok p) = nat_lt p.visits visits_limit &&
    visit_forks (at - 1) (layer_at stack at) dir event

-- What a visit leaves that is drawn and watched, given what it leaves as drawn: that, and whether a condition with two
-- predicted ways was met so far.
abbrev pub watched_turn : List LayerTree → ℕ → Dir → DrawnEvent → Watched → Turn (Result Progress NoShape) DrawnEvent →
    Turn Watched DrawnEvent
watched_turn stack at dir event w turn = record {
  world = record { drawn = turn.world; forks = w.forks || meets_fork stack at dir event w.drawn };
  sent = turn.sent;
}

-- The player that draws a run in the first case and watches for such conditions.
abbrev pub watcher : List LayerTree → Player Watched DrawnEvent
watcher stack = record {
  visit = λ at dir event w. watched_turn stack at dir event w (shaped_visit First stack at dir event w.drawn);
  output = λ dir event w. record w { drawn = drawn_from (λ p. Ok (with_output p)) w.drawn };
}

-- The second case of an entry is made where its way in the first case meets a condition with two predicted ways before
-- it ends or can't be drawn.
unfoldable pub has_second_case : List LayerTree → Known → Bool
has_second_case stack k = (run_for (length stack) (watcher stack) weight_limit
    (starting (record { drawn = undrawn; forks = false }) (entry_task stack k))).world.forks

-- A visit of a shape: its place, counted from 0, the event's direction and kind, the tag of the first header (0 where
-- there is none), and the maker of the event.
pub record ShapeVisit : Type 0 where
  pub place : ℕ
  pub dir : Dir
  pub kind : Kind
  pub tag : ℕ
  pub made_by : Option Source

-- An output of a shape: its edge by the direction, its kind, its headers, and its maker.
pub record ShapeOut : Type 0 where
  pub dir : Dir
  pub kind : Kind
  pub headers : List DrawnHeader
  pub made_by : Option Source

-- A shape: its visits and outputs in order, and how many predicted statements, arguments and outputs it counts for.
pub record Shape : Type 0 where
  pub visits : List ShapeVisit
  pub outs : List ShapeOut
  pub length : ℕ

-- The tag of the first header, 0 where there is none.
abbrev pub first_tag : List DrawnHeader → ℕ
first_tag [] = 0
first_tag (h ∷ hs) = h.tag

-- The headers of an event, as far as they are known; none, if it has no message.
abbrev pub headers_of : DrawnEvent → List DrawnHeader
headers_of e = option_map_or (λ headers. headers) e.headers []

-- A logged visit as a shape shows it, with its place counted from 0.
abbrev pub shape_visit : Logged DrawnEvent → ShapeVisit
shape_visit x = record {
  place = x.at - 1;
  dir = x.dir;
  kind = x.marked.event.kind;
  tag = first_tag (headers_of x.marked.event);
  made_by = x.marked.made_by;
}

-- A logged output as a shape shows it.
abbrev pub shape_out : Logged DrawnEvent → ShapeOut
shape_out x = record {
  dir = x.dir;
  kind = x.marked.event.kind;
  headers = headers_of x.marked.event;
  made_by = x.marked.made_by;
}

-- What was logged, as a shape.
abbrev pub shape_with : Log (Result Progress NoShape) DrawnEvent → Progress → Shape
shape_with log p = record { visits = map shape_visit log.visits; outs = map shape_out log.outs; length = p.length }

-- The log of a run that was drawn as a shape, or why it can't be drawn.
abbrev pub shape_of : Log (Result Progress NoShape) DrawnEvent → Result Shape NoShape
shape_of log = drawn_from (λ p. Ok (shape_with log p)) log.world

-- What is drawn of an entry in a case, or the first reason why it can't be drawn. (As many turns as the heaviest entry
-- of an accepted stack may weigh are enough.)
unfoldable pub drawn_shape : List LayerTree → Known → Case → Result Shape NoShape
drawn_shape stack k case =
    shape_of (run_for (length stack) (marking_player (shaper case stack)) weight_limit
    (marked_start undrawn (entry_task stack k))).world

-- The shape of an entry in a case, or the first reason for which it has none: the first case is always made.
abbrev pub shape : List LayerTree → Known → Case → Result Shape NoShape
shape stack k First = drawn_shape stack k First
shape stack k Second = if has_second_case stack k then drawn_shape stack k Second else Err no_shape.same
