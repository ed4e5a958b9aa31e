-- A visit as its layer's text alone predicts it in a case: what is sent, whatever the numbers and the bytes are.
use Rattle.std.specs.Prelude.{ℕ, ◌==◌, Bool, true, false, if◌then◌else◌, List, [], ◌∷◌, ◌++◌, map, slice_index_or}
use Rattle.std.specs.Prelude.{slice_set, Option, Some, None, option_map, option_to_list, Result, Ok, Err}
use Rattle.std.specs.Option.{option_map_or, option_and_then}
use Rattle.layer_words.specs.declared.events.Dir.{Dir}
use Rattle.layer_words.specs.declared.events.Dir.TheVariants.{Up, Down}
use Rattle.layer_words.specs.declared.events.Kind.{Kind}
use Rattle.layer_mean.specs.Tree.{Carried, part, whole, ExpressionTree, number, binary, apply, pick, MessageTree}
use Rattle.layer_mean.specs.Tree.{message, nothing, held, cut, tail, join, ContentTree, EmissionTree, TakenTree}
use Rattle.layer_mean.specs.Tree.{HandlerTree, LayerTree}
use Rattle.layer_mean.specs.Value.{is_true, applied, function_of}
use Rattle.layer_mean.specs.Visit.{handler_for, with_room}
use Rattle.layer_mean.specs.Way.{Step, fork, get, send, loop, handler_way, way_length}
use Rattle.layer_mean.specs.declared.run.Case.{Case}
use Rattle.layer_mean.specs.declared.run.Case.TheVariants.{First}
use Rattle.stack_mean.specs.NoShape as no_shape
use Rattle.stack_mean.specs.NoShape.{NoShape, drawn_from}

-- A header as far as it is known: its tag, and for each field its constant number, or None if it varies.
pub record DrawnHeader : Type 0 where
  pub tag : ℕ
  pub fields : List (Option ℕ)

-- A message as far as it is known: its headers; or nothing of them, since it was stored.
pub data DrawnMessage : Type 0 where
  chained : List DrawnHeader → DrawnMessage
  unknown : DrawnMessage

-- An event as far as it is known: its kind, and the headers of its message, if it has one.
pub record DrawnEvent : Type 0 where
  pub kind : Kind
  pub headers : Option (List DrawnHeader)

-- What two numbers make, where both are known.
abbrev pub of_both : (ℕ → ℕ → ℕ) → Option ℕ → Option ℕ → Option ℕ
of_both f a b = option_and_then (λ x. option_map (f x) b) a

-- The constant number of an expression that is written with numbers, operators, functions and choices alone.
abbrev pub constant_of : ExpressionTree → Option ℕ
constant_of (number n) = Some n
constant_of (binary operator a b) = of_both (applied operator) (constant_of a) (constant_of b)
constant_of (apply function a) = option_map (function_of function) (constant_of a)
constant_of (pick c a b) =
    option_and_then (λ x. of_both (λ y z. if is_true x then y else z) (constant_of a) (constant_of b)) (constant_of c)
constant_of _ = None

-- The message of a row: a part has no headers, and those of a message aren't known.
abbrev pub drawn_row : Carried → DrawnMessage
drawn_row part = chained []
drawn_row (whole blank) = unknown

-- A message by the messages of the scope.
abbrev pub drawn_message : List DrawnMessage → MessageTree → DrawnMessage
drawn_message scope (message k) = slice_index_or scope k (chained [])
drawn_message scope nothing = chained []
drawn_message scope (held c i row carried) = drawn_row carried
drawn_message scope (cut m from length) = chained []
drawn_message scope (tail m from) = drawn_message scope m
drawn_message scope (join p m) = drawn_message scope m

-- What a visit has reached: the messages of its scope, and what it has sent.
pub record Drawing : Type 0 where
  pub scope : List DrawnMessage
  pub sent : List (Dir × DrawnEvent)

-- The headers with which a message is sent: going down, it gets one of its layer's.
abbrev pub with_header : Dir → ContentTree → List DrawnHeader → List DrawnHeader
with_header Up c headers = headers
with_header Down c headers = record { tag = c.tag; fields = map constant_of c.fields } ∷ headers

-- The headers with which a message is sent from a place: it can be sent where its headers are known.
abbrev pub sent_headers : ℕ → Dir → ContentTree → DrawnMessage → Result (Option (List DrawnHeader)) NoShape
sent_headers place dir c (chained headers) = Ok (Some (with_header dir c headers))
sent_headers place dir c unknown = Err (no_shape.stored place)

-- The headers of what an emission sends, by the messages of the scope; without a message there are none.
abbrev pub emission_headers : ℕ → Dir → List DrawnMessage → Option ContentTree →
    Result (Option (List DrawnHeader)) NoShape
emission_headers place dir scope None = Ok None
emission_headers place dir scope (Some c) = sent_headers place dir c (drawn_message scope c.message)

-- A drawing with one more event sent, whose message has these headers.
abbrev pub with_sent : Drawing → EmissionTree → Option (List DrawnHeader) → Drawing
with_sent d e headers = record d { sent = d.sent ++ (e.direction, record { kind = e.kind; headers = headers }) ∷ [] }

-- The scope with a taken row's message, where it has one.
abbrev pub with_taken : TakenTree → List DrawnMessage → List DrawnMessage
with_taken t scope = option_map_or (λ slot. slice_set scope slot.0 (drawn_row slot.1)) t.message scope

-- A predicted step: a take and an emission change what is drawn, and a loop can't be drawn.
abbrev pub draw_step : ℕ → Step → Drawing → Result Drawing NoShape
draw_step place (get c i taken) d = Ok (record d { scope = with_taken taken d.scope })
draw_step place (send e) d =
    drawn_from (λ headers. Ok (with_sent d e headers)) (emission_headers place e.direction d.scope e.content)
draw_step place loop d = Err (no_shape.loop place)
draw_step place _ d = Ok d

-- Predicted steps, in order.
abbrev pub draw_steps : ℕ → List Step → Drawing → Result Drawing NoShape
draw_steps place [] d = Ok d
draw_steps place (x ∷ xs) d = drawn_from (draw_steps place xs) (draw_step place x d)

-- Whether what follows a drawn step meets a condition with two predicted ways; nothing does after a step that can't be
-- drawn.
abbrev pub forks_after : (Drawing → Bool) → Result Drawing NoShape → Bool
forks_after go (Ok d) = go d
forks_after go (Err reason) = false

-- Whether steps meet a condition with two predicted ways before they end or one of them can't be drawn.
abbrev pub steps_fork : ℕ → List Step → Drawing → Bool
steps_fork place [] d = false
steps_fork place (fork case e ∷ xs) d = true
steps_fork place (x ∷ xs) d = forks_after (steps_fork place xs) (draw_step place x d)

-- What a visit sends, and how many predicted statements and arguments it counts for.
pub record DrawnVisit : Type 0 where
  pub sent : List (Dir × DrawnEvent)
  pub length : ℕ

-- An event as its layer meets it: the tag that is popped going up, 0 where there is no header, and the headers after
-- it.
pub record DrawnMet : Type 0 where
  pub tag : ℕ
  pub headers : Option (List DrawnHeader)

-- A message with these headers as its layer meets it going up: the first one's tag, and the headers after it.
abbrev pub popped_of : List DrawnHeader → DrawnMet
popped_of [] = record { tag = 0; headers = Some [] }
popped_of (h ∷ hs) = record { tag = h.tag; headers = Some hs }

-- The message of an event, if it has one, as its layer meets it: going up its first header is popped; going down none
-- is.
abbrev pub drawn_met : Dir → Option (List DrawnHeader) → DrawnMet
drawn_met dir None = record { tag = 0; headers = None }
drawn_met Up (Some headers) = popped_of headers
drawn_met Down (Some headers) = record { tag = 0; headers = Some headers }

-- An event that is sent on, with other headers; it counts for nothing.
abbrev pub drawn_on : Dir → DrawnEvent → Option (List DrawnHeader) → DrawnVisit
drawn_on dir event headers = record { sent = (dir, record event { headers = headers }) ∷ []; length = 0 }

-- A missing handler passes an event on: down after `none`, and up where `none` was popped.
abbrev pub drawn_unhandled : ℕ → Dir → DrawnEvent → ℕ → Option (List DrawnHeader) → Result DrawnVisit NoShape
drawn_unhandled place dir event tag None = Ok (drawn_on dir event None)
drawn_unhandled place Down event tag (Some headers) =
    Ok (drawn_on Down event (Some (record { tag = 0; fields = [] } ∷ headers)))
drawn_unhandled place Up event tag (Some headers) =
    if tag == 0 then Ok (drawn_on Up event (Some headers)) else Err (no_shape.rare place)

-- The drawing with which a handler begins: its message alone is known.
abbrev pub drawn_entered : HandlerTree → Option (List DrawnHeader) → Drawing
drawn_entered h headers =
    record { scope = with_room h.messages (chained []) (option_to_list (option_map chained headers)); sent = [] }

-- A handler goes its predicted way, if it has one.
abbrev pub drawn_way : ℕ → Option (List Step) → Drawing → Result DrawnVisit NoShape
drawn_way place None d = Err (no_shape.rare place)
drawn_way place (Some steps) d =
    drawn_from (λ e. Ok (record { sent = e.sent; length = way_length steps })) (draw_steps place steps d)

-- The predicted visit, in a case, of a layer that has this handler for the event, or none.
abbrev pub drawn_handled : Case → ℕ → Option HandlerTree → Dir → DrawnEvent → DrawnMet → Result DrawnVisit NoShape
drawn_handled case place None dir event m = drawn_unhandled place dir event m.tag m.headers
drawn_handled case place (Some h) dir event m = drawn_way place (handler_way case h) (drawn_entered h m.headers)

-- The predicted visit of the layer at a place, in a case.
abbrev pub drawn_visit : Case → ℕ → LayerTree → Dir → DrawnEvent → Result DrawnVisit NoShape
drawn_visit case place layer dir event =
    let m = drawn_met dir event.headers in drawn_handled case place (handler_for layer dir event.kind m.tag) dir event m

-- Whether a handler's way, if it has one, meets a condition with two predicted ways before it ends or can't be drawn.
abbrev pub way_forks : ℕ → Option (List Step) → Drawing → Bool
way_forks place None d = false
way_forks place (Some steps) d = steps_fork place steps d

-- Whether this handler's way in the first case meets a condition with two predicted ways before it ends or can't be
-- drawn; a missing handler meets none.
abbrev pub handled_forks : ℕ → Option HandlerTree → DrawnMet → Bool
handled_forks place None m = false
handled_forks place (Some h) m = way_forks place (handler_way First h) (drawn_entered h m.headers)

-- Whether the visit of an event, on its way in the first case, meets a condition with two predicted ways before it ends
-- or can't be drawn.
abbrev pub visit_forks : ℕ → LayerTree → Dir → DrawnEvent → Bool
visit_forks place layer dir event =
    let m = drawn_met dir event.headers in handled_forks place (handler_for layer dir event.kind m.tag) m
