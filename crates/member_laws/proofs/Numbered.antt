-- What is drawn of a typed stack's runs has constants below 2^32.
use Rattle.std.proofs.Common.{◌≡◌, ℕ, zero, suc, ◌+◌, ◌-◌, ◌<◌, Bool, true, false, List, [], ◌∷◌, map, length, Option}
use Rattle.std.proofs.Common.{Some, None}
use Rattle.std.specs.Prelude.{◌^◌, ◌==◌, IfSome, nat_lt, if◌then◌else◌, Result, Ok, Err, option_map, option_to_list}
use Rattle.std.specs.List.{All, AllByRecursion, enumerate_from, filter, flat_map}
use Rattle.std.specs.Option.{option_map_or, option_and_then}
use Rattle.msg_core.specs.declared.message.Header.{Header}
use Rattle.layer_words.specs.declared.operators.Function.{Function}
use Rattle.layer_words.specs.declared.sorts.Likely.TheVariants as likely
use Rattle.layer_words.specs.declared.sorts.Sort.{Sort}
use Rattle.layer_words.specs.declared.events.Dir.{Dir}
use Rattle.layer_words.specs.declared.events.Dir.TheVariants.{Up, Down}
use Rattle.layer_mean.specs.declared.run.Case.{Case}
use Rattle.layer_mean.specs.declared.run.Case.TheVariants.{First, Second}
use Rattle.layer_mean.specs.Event.{carries}
use Rattle.layer_mean.specs.Tree.{Carried, part, whole, ExpressionTree, number, me, count, ltime, local, element}
use Rattle.layer_mean.specs.Tree.{square, rows, item, size, binary, apply, pick, MessageTree, message, nothing, held}
use Rattle.layer_mean.specs.Tree.{cut, tail, join, ContentTree, EmissionTree, StatementTree, bind, assign}
use Rattle.layer_mean.specs.Tree.{assign_square, push, take as take_row, branch, each, emit, StatementTrees, none, more}
use Rattle.layer_mean.specs.Tree.{Expected, always, common, rare, HandlerTree, LayerTree, no_layer}
use Rattle.layer_mean.specs.Value.{is_true, applied, function_of}
use Rattle.layer_mean.specs.Visit.{is_for, handler_for}
use Rattle.layer_mean.specs.Way.{Step, test, fork, set_slot, set_number, set_square, put, get, send, loop, way, ways}
use Rattle.layer_mean.specs.Way.{expected_way, handler_way, way_length}
use Rattle.layer_mean.specs.Queue.{Task, Line, Turn, is_place, layer_at, tasks_of, next_of, run_for, taken_turn}
use Rattle.layer_mean.specs.Marked.{Log, Logged, Marked, marking_player, marked_sent, marked_start}
use Rattle.packet_mean.specs.ChainedState.{IsNumber}
use Rattle.stack_mean.specs.Acceptance.{weight_limit}
use Rattle.stack_mean.specs.Drawn.{DrawnHeader, DrawnMessage, chained, unknown, DrawnEvent, of_both, constant_of}
use Rattle.stack_mean.specs.Drawn.{drawn_row, drawn_message, Drawing, with_header, sent_headers, emission_headers}
use Rattle.stack_mean.specs.Drawn.{with_sent, with_taken, draw_step, draw_steps, DrawnVisit, DrawnMet, drawn_met}
use Rattle.stack_mean.specs.Drawn.{drawn_on, drawn_unhandled, drawn_entered, drawn_way, drawn_handled, drawn_visit}
use Rattle.stack_mean.specs.NoShape as no_shape
use Rattle.stack_mean.specs.NoShape.{NoShape, drawn_from}
use Rattle.stack_mean.specs.Plan.{Plan}
use Rattle.stack_mean.specs.Plans.{is_packet, plan_of, outs_of, Group, groups, packets_of, plans_of, plans_limit}
use Rattle.stack_mean.specs.Shape.{Progress, visits_limit, drawn_turn, shaped_visit, shaper, undrawn, Known, entry_task}
use Rattle.stack_mean.specs.Shape.{has_second_case, ShapeOut, shape_out, shape_with, drawn_shape, shape}
use Rattle.chain_laws.specs.Typed.{Small, Sends, with_taken_sort, Typed, TypedAll, sorts_of, TypedHandler}
use Rattle.chain_laws.specs.Runs.{TypedLayers}
use Rattle.chain_laws.proofs.Lists.{Where, each_append, each_map, each_or, each_room, each_set, each_take}
use Rattle.chain_laws.proofs.Small.{applied_small, function_small, pick_small}
use Rattle.chain_laws.proofs.Visits.{found}
use Rattle.member_laws.proofs.Members.{all_of, enters_in_range, moments_are_chained}
use Rattle.member_laws.specs.Plans.{PlansAreNumbered, InputsAreInRange, WorldsAreChained}

-- what is drawn with constants in range

abbrev FieldIs : Option ℕ → Type 0
FieldIs x = IfSome x (λ n. n < 2 ^ 32)

abbrev HeadersAre : List DrawnHeader → Type 0
HeadersAre headers = AllByRecursion (λ h. AllByRecursion FieldIs h.fields) headers

abbrev MessageIs : DrawnMessage → Type 0
MessageIs (chained headers) = HeadersAre headers
MessageIs unknown = Unit {0}

abbrev EventIs : DrawnEvent → Type 0
EventIs e = Where HeadersAre e.headers

abbrev SentAre : List (Dir × DrawnEvent) → Type 0
SentAre sent = AllByRecursion (λ x. EventIs x.1) sent

record DrawingIs (d : Drawing) : Type 0 where
  scope : AllByRecursion MessageIs d.scope
  sent : SentAre d.sent

abbrev DrawnIs : Result Drawing NoShape → Type 0
DrawnIs (Ok d) = DrawingIs d
DrawnIs (Err reason) = Unit {0}

abbrev VisitIs : Result DrawnVisit NoShape → Type 0
VisitIs (Ok v) = SentAre v.sent
VisitIs (Err reason) = Unit {0}

-- constants

both_small : (f : ℕ → ℕ → ℕ) → ((x y : ℕ) → IsNumber x → IsNumber y → IsNumber (f x y)) → (a b : Option ℕ) → FieldIs a →
    FieldIs b →
    FieldIs (of_both f a b)
both_small f small None b h i = tt
both_small f small (Some x) None h i = tt
both_small f small (Some x) (Some y) h i = small x y h i

worth_small : (f : Function) (a : Option ℕ) → FieldIs (option_map (function_of f) a)
worth_small f None = tt
worth_small f (Some x) = function_small f x

picked_small : (c a b : Option ℕ) → FieldIs a → FieldIs b →
    FieldIs (option_and_then (λ x. of_both (λ y z. if is_true x then y else z) a b) c)
picked_small None a b h i = tt
picked_small (Some x) a b h i = both_small (λ y z. if is_true x then y else z) (λ y z. pick_small (is_true x) y z) a b h
    i

constant_small : (e : ExpressionTree) → Small e → FieldIs (constant_of e)
constant_small (number n) h = h
constant_small (binary operator a b) h =
    both_small (applied operator) (applied_small operator) (constant_of a) (constant_of b) (constant_small a h.0)
    (constant_small b h.1)
constant_small (apply function a) h = worth_small function (constant_of a)
constant_small (pick c a b) h = picked_small (constant_of c) (constant_of a) (constant_of b) (constant_small a h.0)
    (constant_small b h.1)
constant_small me h = tt
constant_small count h = tt
constant_small ltime h = tt
constant_small (local k) h = tt
constant_small (element c i) h = tt
constant_small (square c row column) h = tt
constant_small (rows c i) h = tt
constant_small (item c i row k) h = tt
constant_small (size m) h = tt

-- the steps of typed statements

abbrev SmallContent : Option ContentTree → Dir → Type 0
SmallContent None dir = Unit {0}
SmallContent (Some c) Up = Unit {0}
SmallContent (Some c) Down = AllByRecursion Small c.fields

abbrev SmallStep : Step → Type 0
SmallStep (send e) = SmallContent e.content e.direction
SmallStep _ = Unit {0}

content_small : (layer : LayerTree) (blank : List Header) (sorts : List Sort) (b : Bool) (dir : Dir)
    (c : Option ContentTree) →
    Sends layer blank sorts b dir c → SmallContent c dir
content_small layer blank sorts b dir None h = tt
content_small layer blank sorts b Up (Some c) h = tt
content_small layer blank sorts true Down (Some c) h = h.fields
content_small layer blank sorts false Down (Some c) h = absurd h

mutual
  statement_small : (layer : LayerTree) (blank : List Header) (case : Case) (x : StatementTree) (sorts : List Sort) →
      Typed layer blank sorts x → AllByRecursion SmallStep (way case x)
  statement_small layer blank case (bind k e) sorts h = (tt, tt)
  statement_small layer blank case (assign c i e) sorts h = (tt, tt)
  statement_small layer blank case (assign_square c row column e) sorts h = (tt, tt)
  statement_small layer blank case (push c i capacity row otherwise) sorts h = (tt, tt)
  statement_small layer blank case (take_row c i taken block otherwise) sorts h =
      (tt, block_small layer blank case block (with_taken_sort sorts taken.message) h.1)
  statement_small layer blank case (branch likely.First e block otherwise) sorts h =
      (tt, block_small layer blank case block sorts h.0)
  statement_small layer blank case (branch likely.Else e block otherwise) sorts h =
      (tt, block_small layer blank case otherwise sorts h.1)
  statement_small layer blank First (branch likely.Two e block otherwise) sorts h =
      (tt, block_small layer blank First block sorts h.0)
  statement_small layer blank Second (branch likely.Two e block otherwise) sorts h =
      (tt, block_small layer blank Second otherwise sorts h.1)
  statement_small layer blank case (each k below most block) sorts h = (tt, tt)
  statement_small layer blank case (emit e) sorts h =
      (content_small layer blank sorts (carries e.kind) e.direction e.content h.1, tt)

  block_small : (layer : LayerTree) (blank : List Header) (case : Case) (xs : StatementTrees) (sorts : List Sort) →
      TypedAll layer blank sorts xs → AllByRecursion SmallStep (ways case xs)
  block_small layer blank case none sorts h = tt
  block_small layer blank case (more x xs) sorts h =
      each_append SmallStep (way case x) (ways case xs) (statement_small layer blank case x sorts h.0)
      (block_small layer blank case xs sorts h.1)

expected_small : (x : Expected) (steps : List Step) → AllByRecursion SmallStep steps →
    Where (AllByRecursion SmallStep) (expected_way x steps)
expected_small always steps h = h
expected_small (common e) steps h = (tt, h)
expected_small rare steps h = tt

-- what they draw

row_drawn : (carried : Carried) → MessageIs (drawn_row carried)
row_drawn part = tt
row_drawn (whole blank) = tt

message_drawn : (scope : List DrawnMessage) (m : MessageTree) → AllByRecursion MessageIs scope →
    MessageIs (drawn_message scope m)
message_drawn scope (message k) h = each_or MessageIs scope k (chained []) h tt
message_drawn scope nothing h = tt
message_drawn scope (held c i row carried) h = row_drawn carried
message_drawn scope (cut m from n) h = tt
message_drawn scope (tail m from) h = message_drawn scope m h
message_drawn scope (join p m) h = message_drawn scope m h

taken_drawn : (slots : List ℕ) (slot : Option (ℕ × Carried)) (scope : List DrawnMessage) →
    AllByRecursion MessageIs scope →
    AllByRecursion MessageIs (with_taken (record { numbers = slots; message = slot }) scope)
taken_drawn slots None scope h = h
taken_drawn slots (Some slot) scope h = each_set MessageIs scope slot.0 (drawn_row slot.1) h (row_drawn slot.1)

sent_drawn : (d : Drawing) (e : EmissionTree) (headers : Option (List DrawnHeader)) → DrawingIs d →
    Where HeadersAre headers →
    DrawingIs (with_sent d e headers)
sent_drawn d e headers h i =
    record {
      scope = h.scope;
      sent =
          each_append _ d.sent ((e.direction, record { kind = e.kind; headers = headers }) ∷ []) h.sent (i, tt);
    }

header_drawn : (dir : Dir) (c : ContentTree) (headers : List DrawnHeader) → SmallContent (Some c) dir →
    HeadersAre headers →
    HeadersAre (with_header dir c headers)
header_drawn Up c headers small h = h
header_drawn Down c headers small h = (each_map Small FieldIs constant_of constant_small c.fields small, h)

emission_drawn : (place : ℕ) (d : Drawing) (e : EmissionTree) (dir : Dir) (c : Option ContentTree) →
    SmallContent c dir → DrawingIs d →
    DrawnIs (drawn_from (λ headers. Ok (with_sent d e headers)) (emission_headers place dir d.scope c))
emission_drawn place d e dir None small h = sent_drawn d e None h tt
emission_drawn place d e dir (Some c) small h =
    go (drawn_message d.scope c.message) (message_drawn d.scope c.message h.scope) where
      go : (m : DrawnMessage) → MessageIs m →
          DrawnIs (drawn_from (λ headers. Ok (with_sent d e headers)) (sent_headers place dir c m))
      go (chained headers) is = sent_drawn d e (Some (with_header dir c headers)) h
          (header_drawn dir c headers small is)
      go unknown is = tt

step_drawn : (place : ℕ) (x : Step) (d : Drawing) → SmallStep x → DrawingIs d → DrawnIs (draw_step place x d)
step_drawn place (get c i taken) d small h =
    record { scope = taken_drawn taken.numbers taken.message d.scope h.scope; sent = h.sent }
step_drawn place (send e) d small h = emission_drawn place d e e.direction e.content small h
step_drawn place loop d small h = tt
step_drawn place (test wanted e) d small h = h
step_drawn place (fork case e) d small h = h
step_drawn place (set_slot k e) d small h = h
step_drawn place (set_number c i e) d small h = h
step_drawn place (set_square c row column e) d small h = h
step_drawn place (put c i capacity row) d small h = h

steps_drawn : (place : ℕ) (xs : List Step) (d : Drawing) → AllByRecursion SmallStep xs → DrawingIs d →
    DrawnIs (draw_steps place xs d)
steps_drawn place [] d small h = h
steps_drawn place (x ∷ xs) d small h = go (draw_step place x d) (λ e is. steps_drawn place xs e small.1 is)
    (step_drawn place x d small.0 h) where
      go : (r : Result Drawing NoShape) → ((e : Drawing) → DrawingIs e → DrawnIs (draw_steps place xs e)) → DrawnIs r →
          DrawnIs (drawn_from (draw_steps place xs) r)
      go (Ok e) so is = so e is
      go (Err reason) so is = tt

-- visits

way_drawn : (place : ℕ) (w : Option (List Step)) (d : Drawing) → Where (AllByRecursion SmallStep) w → DrawingIs d →
    VisitIs (drawn_way place w d)
way_drawn place None d small h = tt
way_drawn place (Some steps) d small h = go (draw_steps place steps d) (steps_drawn place steps d small h) where
  go : (r : Result Drawing NoShape) → DrawnIs r →
      VisitIs (drawn_from (λ e. Ok (record { sent = e.sent; length = way_length steps })) r)
  go (Ok e) is = is.sent
  go (Err reason) is = tt

unhandled_drawn : (place : ℕ) (dir : Dir) (e : DrawnEvent) (tag : ℕ) (headers : Option (List DrawnHeader)) →
    Where HeadersAre headers →
    VisitIs (drawn_unhandled place dir e tag headers)
unhandled_drawn place dir e tag None h = (tt, tt)
unhandled_drawn place Down e tag (Some headers) h = ((tt, h), tt)
unhandled_drawn place Up e tag (Some headers) h = go (tag == 0) where
  go : (b : Bool) → VisitIs (if b then Ok (drawn_on Up e (Some headers)) else Err (no_shape.rare place))
  go true = (h, tt)
  go false = tt

entered_drawn : (headers : Option (List DrawnHeader)) → Where HeadersAre headers →
    AllByRecursion MessageIs (option_to_list (option_map chained headers))
entered_drawn None h = tt
entered_drawn (Some headers) h = (h, tt)

handled_drawn : (layer : LayerTree) (blank : List Header) (case : Case) (place : ℕ) (p : HandlerTree → Bool)
    (o : Option HandlerTree) (dir : Dir)
    (e : DrawnEvent) (m : DrawnMet) → Where (λ h. TypedHandler layer blank h × (p h ≡ true)) o →
    Where HeadersAre m.headers →
    VisitIs (drawn_handled case place o dir e m)
handled_drawn layer blank case place p None dir e m typed h = unhandled_drawn place dir e m.tag m.headers h
handled_drawn layer blank case place p (Some x) dir e m typed h =
    way_drawn place (handler_way case x) (drawn_entered x m.headers)
    (expected_small x.expected (ways case x.block) (block_small layer blank case x.block (sorts_of layer x) typed.0))
    (record { scope = each_room MessageIs x.messages (chained []) _ tt (entered_drawn m.headers h); sent = tt })

met_drawn : (dir : Dir) (headers : Option (List DrawnHeader)) → Where HeadersAre headers →
    Where HeadersAre (drawn_met dir headers).headers
met_drawn dir None h = tt
met_drawn Up (Some []) h = tt
met_drawn Up (Some (x ∷ xs)) h = h.1
met_drawn Down (Some headers) h = h

-- a layer whose handlers are typed with some blank headers above
record Handles (layer : LayerTree) : Type 0 where
  blank : List Header
  handlers : AllByRecursion (TypedHandler layer blank) layer.handlers

visit_drawn : (case : Case) (place : ℕ) (layer : LayerTree) (dir : Dir) (e : DrawnEvent) → Handles layer → EventIs e →
    VisitIs (drawn_visit case place layer dir e)
visit_drawn case place layer dir e typed h =
    let m = drawn_met dir e.headers in
    handled_drawn layer typed.blank case place (is_for dir e.kind m.tag) (handler_for layer dir e.kind m.tag) dir e m
    (found (TypedHandler layer typed.blank) (is_for dir e.kind m.tag) layer.handlers typed.handlers)
    (met_drawn dir e.headers h)

layers_handle : (place : ℕ) (layers : List LayerTree) → TypedLayers place layers → AllByRecursion Handles layers
layers_handle place [] h = tt
layers_handle place (layer ∷ above) h =
    (record { blank = _; handlers = h.0.handlers }, layers_handle (suc place) above h.1)

-- runs

abbrev Progressed : Type 0
Progressed = Result Progress NoShape

abbrev TasksAre : List (Task (Marked DrawnEvent)) → Type 0
TasksAre tasks = AllByRecursion (λ t. EventIs t.event.event) tasks

abbrev OutsAre : List (Logged DrawnEvent) → Type 0
OutsAre outs = AllByRecursion (λ x. EventIs x.marked.event) outs

marked_drawn : (at visit n : ℕ) (sent : List (Dir × DrawnEvent)) → SentAre sent →
    TasksAre (tasks_of at
    (map (λ x. (x.1.0, record { event = x.1.1; made_by = Some (record { visit = visit; emission = x.0 }) }))
    (enumerate_from n sent)))
marked_drawn at visit n [] h = tt
marked_drawn at visit n (x ∷ xs) h = (h.0, marked_drawn at visit (n + 1) xs h.1)

module _ (case : Case) (stack : List LayerTree) (typed : AllByRecursion Handles stack) where
  turn_drawn : (p : Progress) (r : Result DrawnVisit NoShape) → VisitIs r → SentAre (drawn_turn p r).sent
  turn_drawn p (Ok v) h = h
  turn_drawn p (Err reason) h = tt

  shaped_drawn : (at : ℕ) (dir : Dir) (e : DrawnEvent) (r : Progressed) → EventIs e →
      SentAre (shaped_visit case stack at dir e r).sent
  shaped_drawn at dir e (Err reason) h = tt
  shaped_drawn at dir e (Ok p) h = go (nat_lt p.visits visits_limit) where
    visit : Result DrawnVisit NoShape
    visit = drawn_visit case (at - 1) (layer_at stack at) dir e

    go : (b : Bool) → SentAre (if b then drawn_turn p visit else record { world = Err no_shape.long; sent = [] }).sent
    go true = turn_drawn p visit (visit_drawn case (at - 1) (layer_at stack at) dir e
        (each_or Handles stack (at - 1) no_layer typed (record { blank = []; handlers = tt })) h)
    go false = tt

  next_drawn : (t : Task (Marked DrawnEvent)) (rest : List (Task (Marked DrawnEvent)))
      (log : Log Progressed DrawnEvent) → TasksAre (t ∷ rest) →
      OutsAre log.outs →
      let r = next_of (length stack) (marking_player (shaper case stack)) (t ∷ rest) log in TasksAre r.tasks ×
      OutsAre r.world.outs
  next_drawn t rest log h outs = go (is_place (length stack) t.at) where
    turn : Turn Progressed DrawnEvent
    turn = shaped_visit case stack t.at t.dir t.event.event log.world

    line : Bool → Line (Log Progressed DrawnEvent) (Marked DrawnEvent)
    line b = if b
        then taken_turn t.at rest ((marking_player (shaper case stack)).visit t.at t.dir t.event log)
        else record { world = (marking_player (shaper case stack)).output t.dir t.event log; tasks = rest }

    go : (b : Bool) → TasksAre (line b).tasks × OutsAre (line b).world.outs
    go true = (
      each_append _ rest (tasks_of t.at (marked_sent (length log.visits) turn.sent)) h.1
          (marked_drawn t.at (length log.visits) 0 turn.sent (shaped_drawn t.at t.dir t.event.event log.world h.0)),
      outs,
    )
    go false = (h.1, each_append _ log.outs (record { at = 0; dir = t.dir; marked = t.event } ∷ []) outs (h.0, tt))

  run_drawn : (n : ℕ) (tasks : List (Task (Marked DrawnEvent))) (log : Log Progressed DrawnEvent) → TasksAre tasks →
      OutsAre log.outs →
      OutsAre (run_for (length stack) (marking_player (shaper case stack)) n
      (record { world = log; tasks = tasks })).world.outs
  run_drawn zero tasks log h outs = outs
  run_drawn (suc n) [] log h outs = outs
  run_drawn (suc n) (t ∷ rest) log h outs =
      let r = next_of (length stack) (marking_player (shaper case stack)) (t ∷ rest) log in
      let is = next_drawn t rest log h outs in
      run_drawn n r.tasks r.world is.0 is.1

-- shapes and plans

abbrev OutIs : ShapeOut → Type 0
OutIs out = HeadersAre out.headers

headers_drawn : (headers : Option (List DrawnHeader)) → Where HeadersAre headers →
    HeadersAre (option_map_or (λ headers. headers) headers [])
headers_drawn None h = tt
headers_drawn (Some headers) h = h

outs_drawn : (log : Log Progressed DrawnEvent) (r : Progressed) → OutsAre log.outs →
    AllByRecursion OutIs (outs_of (drawn_from (λ p. Ok (shape_with log p)) r))
outs_drawn log (Err reason) h = tt
outs_drawn log (Ok p) h = each_map (λ x. EventIs x.marked.event) OutIs shape_out
    (λ x is. headers_drawn x.marked.event.headers is) log.outs h

first_drawn : (stack : List LayerTree) (k : Known) (case : Case) → AllByRecursion Handles stack →
    EventIs (entry_task stack k).event →
    AllByRecursion OutIs (outs_of (drawn_shape stack k case))
unfolding drawn_shape
first_drawn stack k case typed h =
    let first = marked_start undrawn (entry_task stack k) in
    let log = (run_for (length stack) (marking_player (shaper case stack)) weight_limit first).world in
    outs_drawn log log.world (run_drawn case stack typed weight_limit first.tasks first.world (h, tt) tt)

shape_drawn : (stack : List LayerTree) (k : Known) (case : Case) → AllByRecursion Handles stack →
    EventIs (entry_task stack k).event →
    AllByRecursion OutIs (outs_of (shape stack k case))
shape_drawn stack k First typed h = first_drawn stack k First typed h
shape_drawn stack k Second typed h = go (has_second_case stack k) where
  go : (b : Bool) → AllByRecursion OutIs (outs_of (if b then drawn_shape stack k Second else Err no_shape.same))
  go true = first_drawn stack k Second typed h
  go false = tt

pub each_filter : {A : Type 0} (P : A → Type 0) (p : A → Bool) (xs : List A) → AllByRecursion P xs →
    AllByRecursion P (filter p xs)
each_filter P p [] h = tt
each_filter P p (x ∷ xs) h = go (p x) (each_filter P p xs h.1) where
  go : (b : Bool) → AllByRecursion P (filter p xs) → AllByRecursion P (if b then x ∷ filter p xs else filter p xs)
  go true rest = (h.0, rest)
  go false rest = rest

each_flat : {A B : Type 0} (P : A → Type 0) (Q : B → Type 0) (f : A → List B) →
    ((x : A) → P x → AllByRecursion Q (f x)) → (xs : List A) →
    AllByRecursion P xs → AllByRecursion Q (flat_map f xs)
each_flat P Q f so [] h = tt
each_flat P Q f so (x ∷ xs) h = each_append Q (f x) (flat_map f xs) (so x h.0) (each_flat P Q f so xs h.1)

packets_drawn : (stack : List LayerTree) (g : Group) → AllByRecursion Handles stack →
    EventIs (entry_task stack g.entry).event →
    AllByRecursion OutIs (packets_of stack g)
packets_drawn stack g typed h = each_filter OutIs (λ out. is_packet out out.dir) (outs_of (shape stack g.entry g.case))
    (shape_drawn stack g.entry g.case typed h)

pub plans_are_numbered : PlansAreNumbered
plans_are_numbered stack typed =
    let handles = layers_handle 0 stack typed in
    let outs = flat_map (packets_of stack) groups in
    let are : AllByRecursion OutIs outs = each_flat (λ g. EventIs (entry_task stack g.entry).event) OutIs
    (packets_of stack)
    (λ g h. packets_drawn stack g handles h) groups (tt, (tt, (tt, (tt, tt)))) in
    all_of (λ (plan : Plan). All FieldIs plan.fields) (plans_of stack)
    (each_take _ plans_limit (map plan_of outs)
    (each_map OutIs (λ (plan : Plan). All FieldIs plan.fields) plan_of
    (λ out is. all_of FieldIs (plan_of out).fields
    (each_flat (λ (h : DrawnHeader). AllByRecursion FieldIs h.fields) FieldIs (λ (h : DrawnHeader). h.fields)
    (λ h fields. fields) out.headers is))
    outs are))

pub inputs_are_in_range : InputsAreInRange
inputs_are_in_range stack here input what typed h is =
    enters_in_range stack (plans_of stack) here input what (plans_are_numbered stack typed) h is

pub worlds_are_chained : WorldsAreChained
worlds_are_chained stack w events typed given h =
    moments_are_chained stack (plans_of stack) w events typed (plans_are_numbered stack typed) given h
