-- Plans have as many fields as their headers have, so their entries fit.
use Rattle.std.proofs.Common.{◌≡◌, ℕ, zero, suc, ◌+◌, ◌-◌, ◌≤◌, Bool, true, false, List, [], ◌∷◌, map, flat_map, length}
use Rattle.std.proofs.Common.{Option, Some, None, refl, ◌∙◌, subst, arith}
use Rattle.std.specs.Prelude.{◌==◌, nat_lt, if◌then◌else◌, Result, Ok, Err, option_map, option_to_list}
use Rattle.std.specs.List.{AllByRecursion, enumerate_from, filter}
use Rattle.std.specs.Option.{option_map_or}
use Rattle.std.proofs.lemmas.List.{length-append, length-map}
use Rattle.layer_words.specs.declared.events.Dir.{Dir}
use Rattle.layer_words.specs.declared.events.Dir.TheVariants.{Up, Down}
use Rattle.layer_words.specs.declared.events.Kind.{Kind}
use Rattle.layer_words.specs.declared.events.Kind.TheVariants as kind
use Rattle.layer_mean.specs.declared.run.Case.{Case}
use Rattle.layer_mean.specs.declared.run.Case.TheVariants.{First, Second}
use Rattle.layer_mean.specs.Tree.{Carried, part, whole, MessageTree, message, nothing, held, cut, tail, join}
use Rattle.layer_mean.specs.Tree.{ContentTree, EmissionTree, HandlerTree, LayerTree}
use Rattle.layer_mean.specs.Visit.{is_for, handler_for}
use Rattle.layer_mean.specs.Way.{Step, test, fork, set_slot, set_number, set_square, put, get, send, loop, handler_way}
use Rattle.layer_mean.specs.Way.{way_length}
use Rattle.layer_mean.specs.Queue.{Task, Line, Turn, beyond, is_place, layer_at, tasks_of, next_of, run_for, taken_turn}
use Rattle.layer_mean.specs.Marked.{Log, Logged, Marked, marking_player, marked_sent, marked_start}
use Rattle.stack_mean.specs.Acceptance.{weight_limit}
use Rattle.stack_mean.specs.Drawn.{DrawnHeader, DrawnMessage, chained, unknown, DrawnEvent, constant_of, drawn_row}
use Rattle.stack_mean.specs.Drawn.{drawn_message, Drawing, with_header, sent_headers, emission_headers, with_sent}
use Rattle.stack_mean.specs.Drawn.{with_taken, draw_step, draw_steps, DrawnVisit, drawn_met, drawn_on, drawn_unhandled}
use Rattle.stack_mean.specs.Drawn.{drawn_entered, drawn_way, drawn_handled, drawn_visit}
use Rattle.stack_mean.specs.NoShape as no_shape
use Rattle.stack_mean.specs.NoShape.{NoShape, drawn_from}
use Rattle.stack_mean.specs.Plan.{Plan}
use Rattle.stack_mean.specs.Plans.{is_packet, plan_of, outs_of, groups, packets_of, plans_of, plans_limit}
use Rattle.stack_mean.specs.Shape.{Progress, visits_limit, drawn_turn, shaped_visit, shaper, undrawn, Known, entry_task}
use Rattle.stack_mean.specs.Shape.{has_second_case, ShapeOut, shape_out, shape_with, drawn_shape, shape}
use Rattle.weight_laws.proofs.Nodes.{found}
use Rattle.chain_laws.specs.Runs.{IsOnItsWay, task_place}
use Rattle.chain_laws.proofs.Lists.{Where, each_append, each_map, each_or, each_room, each_set, each_take}
use Rattle.trace_mean.specs.Fuse.{fields_of}
use Rattle.trace_form_laws.proofs.Turns.{placed}
use Rattle.bypass_mean.specs.Text.{layer_of}
use Rattle.pack_round_laws.proofs.Traced.{layers_fit_at, under}
use Rattle.pack_round_laws.proofs.Layers.{HeaderFits, SentContentFits, StepFits, WayFits, HandlerFits, LayerFits}
use Rattle.pack_round_laws.proofs.Layers.{LayersFit}

module _ (stack : List LayerTree) where
  -- headers with as many fields as the layers at their places say
  abbrev Counts : ℕ → List DrawnHeader → Type 0
  Counts place [] = Unit {0}
  Counts place (h ∷ hs) = (length h.fields ≡ fields_of (layer_of stack place) h.tag) × Counts (place + 1) hs

  abbrev MessageIs : ℕ → DrawnMessage → Type 0
  MessageIs place (chained headers) = Counts place headers
  MessageIs place unknown = Unit {0}

  abbrev EventIs : ℕ → DrawnEvent → Type 0
  EventIs place e = Where (Counts place) e.headers

  abbrev sent_place : ℕ → Dir → ℕ
  sent_place p Up = p + 1
  sent_place p Down = p

  abbrev SentAre : ℕ → List (Dir × DrawnEvent) → Type 0
  SentAre p sent = AllByRecursion (λ x. EventIs (sent_place p x.0) x.1) sent

  record DrawingIs (p : ℕ) (d : Drawing) : Type 0 where
    scope : AllByRecursion (MessageIs (p + 1)) d.scope
    sent : SentAre p d.sent

  abbrev DrawnIs : ℕ → Result Drawing NoShape → Type 0
  DrawnIs p (Ok d) = DrawingIs p d
  DrawnIs p (Err reason) = Unit {0}

  abbrev VisitIs : ℕ → Result DrawnVisit NoShape → Type 0
  VisitIs p (Ok v) = SentAre p v.sent
  VisitIs p (Err reason) = Unit {0}

  row_drawn : (place : ℕ) (carried : Carried) → MessageIs place (drawn_row carried)
  row_drawn place part = tt
  row_drawn place (whole blank) = tt

  message_drawn : (place : ℕ) (scope : List DrawnMessage) (m : MessageTree) → AllByRecursion (MessageIs place) scope →
      MessageIs place (drawn_message scope m)
  message_drawn place scope (message k) h = each_or (MessageIs place) scope k (chained []) h tt
  message_drawn place scope nothing h = tt
  message_drawn place scope (held c i row carried) h = row_drawn place carried
  message_drawn place scope (cut m from n) h = tt
  message_drawn place scope (tail m from) h = message_drawn place scope m h
  message_drawn place scope (join p m) h = message_drawn place scope m h

  taken_drawn : (place : ℕ) (slots : List ℕ) (slot : Option (ℕ × Carried)) (scope : List DrawnMessage) →
      AllByRecursion (MessageIs place) scope →
      AllByRecursion (MessageIs place) (with_taken (record { numbers = slots; message = slot }) scope)
  taken_drawn place slots None scope h = h
  taken_drawn place slots (Some slot) scope h = each_set (MessageIs place) scope slot.0 (drawn_row slot.1) h
      (row_drawn place slot.1)

  module _ (p : ℕ) where
    header_drawn : (dir : Dir) (c : ContentTree) (headers : List DrawnHeader) → HeaderFits (layer_of stack p) dir c →
        Counts (p + 1) headers →
        Counts (sent_place p dir) (with_header dir c headers)
    header_drawn Up c headers fits h = h
    header_drawn Down c headers fits h = (length-map c.fields constant_of ∙ fits.1, h)

    emission_drawn : (d : Drawing) (e : EmissionTree) (c : Option ContentTree) →
        SentContentFits (layer_of stack p) e.direction c → DrawingIs p d →
        DrawnIs p (drawn_from (λ headers. Ok (with_sent d e headers)) (emission_headers p e.direction d.scope c))
    emission_drawn d e None fits h = record { scope = h.scope; sent = each_append _ d.sent _ h.sent (tt, tt) }
    emission_drawn d e (Some c) fits h =
        go (drawn_message d.scope c.message) (message_drawn (p + 1) d.scope c.message h.scope) where
          go : (m : DrawnMessage) → MessageIs (p + 1) m →
              DrawnIs p (drawn_from (λ headers. Ok (with_sent d e headers)) (sent_headers p e.direction c m))
          go (chained headers) is =
              record {
                scope = h.scope;
                sent =
                    each_append _ d.sent _ h.sent (header_drawn e.direction c headers fits.header_fits is, tt);
              }
          go unknown is = tt

    step_drawn : (x : Step) (d : Drawing) → StepFits (layer_of stack p) x → DrawingIs p d → DrawnIs p (draw_step p x d)
    step_drawn (get c i taken) d fits h =
        record { scope = taken_drawn (p + 1) taken.numbers taken.message d.scope h.scope; sent = h.sent }
    step_drawn (send e) d fits h = emission_drawn d e e.content fits.content_fits h
    step_drawn loop d fits h = tt
    step_drawn (test wanted e) d fits h = h
    step_drawn (fork case e) d fits h = h
    step_drawn (set_slot k e) d fits h = h
    step_drawn (set_number c i e) d fits h = h
    step_drawn (set_square c row column e) d fits h = h
    step_drawn (put c i capacity row) d fits h = h

    steps_drawn : (xs : List Step) (d : Drawing) → AllByRecursion (StepFits (layer_of stack p)) xs → DrawingIs p d →
        DrawnIs p (draw_steps p xs d)
    steps_drawn [] d fits h = h
    steps_drawn (x ∷ xs) d fits h = go (draw_step p x d) (λ e is. steps_drawn xs e fits.1 is) (step_drawn x d fits.0 h)
      where
        go : (r : Result Drawing NoShape) → ((e : Drawing) → DrawingIs p e → DrawnIs p (draw_steps p xs e)) →
            DrawnIs p r →
            DrawnIs p (drawn_from (draw_steps p xs) r)
        go (Ok e) so is = so e is
        go (Err reason) so is = tt

    way_drawn : (w : Option (List Step)) (d : Drawing) → WayFits (layer_of stack p) w → DrawingIs p d →
        VisitIs p (drawn_way p w d)
    way_drawn None d fits h = tt
    way_drawn (Some steps) d fits h = go (draw_steps p steps d) (steps_drawn steps d fits h) where
      go : (r : Result Drawing NoShape) → DrawnIs p r →
          VisitIs p (drawn_from (λ e. Ok (record { sent = e.sent; length = way_length steps })) r)
      go (Ok e) is = is.sent
      go (Err reason) is = tt

    unhandled_drawn : (dir : Dir) (e : DrawnEvent) (tag : ℕ) (headers : Option (List DrawnHeader)) →
        Where (Counts (p + 1)) headers →
        VisitIs p (drawn_unhandled p dir e tag headers)
    unhandled_drawn dir e tag None h = (tt, tt)
    unhandled_drawn Down e tag (Some headers) h = ((refl, h), tt)
    unhandled_drawn Up e tag (Some headers) h = go (tag == 0) where
      go : (b : Bool) → VisitIs p (if b then Ok (drawn_on Up e (Some headers)) else Err (no_shape.rare p))
      go true = (h, tt)
      go false = tt

    entered_drawn : (headers : Option (List DrawnHeader)) → Where (Counts (p + 1)) headers →
        AllByRecursion (MessageIs (p + 1)) (option_to_list (option_map chained headers))
    entered_drawn None h = tt
    entered_drawn (Some headers) h = (h, tt)

    abbrev met_place : Dir → ℕ
    met_place Up = p
    met_place Down = p + 1

    met_drawn_is : (dir : Dir) (headers : Option (List DrawnHeader)) → Where (Counts (met_place dir)) headers →
        Where (Counts (p + 1)) (drawn_met dir headers).headers
    met_drawn_is dir None h = tt
    met_drawn_is Up (Some []) h = tt
    met_drawn_is Up (Some (x ∷ xs)) h = h.1
    met_drawn_is Down (Some headers) h = h

    visit_drawn : LayerFits (layer_of stack p) → (case : Case) (dir : Dir) (e : DrawnEvent) →
        EventIs (met_place dir) e →
        VisitIs p (drawn_visit case p (layer_of stack p) dir e)
    visit_drawn fits case dir e h = go (handler_for (layer_of stack p) dir e.kind (drawn_met dir e.headers).tag) refl
        (met_drawn_is dir e.headers h) where
          go : (o : Option HandlerTree) → handler_for (layer_of stack p) dir e.kind (drawn_met dir e.headers).tag ≡ o →
              Where (Counts (p + 1)) (drawn_met dir e.headers).headers →
              VisitIs p (drawn_handled case p o dir e (drawn_met dir e.headers))
          go None is k = unhandled_drawn dir e (drawn_met dir e.headers).tag (drawn_met dir e.headers).headers k
          go (Some x) is k =
              let chosen = found (HandlerFits (layer_of stack p)) (is_for dir e.kind (drawn_met dir e.headers).tag)
              (layer_of stack p).handlers x fits is in
              way_drawn (handler_way case x) (drawn_entered x (drawn_met dir e.headers).headers) (chosen.0 case)
              (record {
                scope = each_room (MessageIs (p + 1)) x.messages (chained []) _ tt
                    (entered_drawn (drawn_met dir e.headers).headers k);
                sent = tt;
              })

  -- runs
  abbrev Progressed : Type 0
  Progressed = Result Progress NoShape

  record TaskIs (t : Task (Marked DrawnEvent)) : Type 0 where
    way : IsOnItsWay stack t.dir t.at
    event : EventIs (task_place t.dir t.at) t.event.event

  abbrev OutIs : Dir → DrawnEvent → Type 0
  OutIs Up e = Unit {0}
  OutIs Down e = EventIs 0 e

  abbrev OutsAre : List (Logged DrawnEvent) → Type 0
  OutsAre outs = AllByRecursion (λ x. OutIs x.dir x.marked.event) outs

  task_drawn : (at visit n : ℕ) → 1 ≤ at → at ≤ length stack → (x : Dir × DrawnEvent) →
      EventIs (sent_place (at - 1) x.0) x.1 →
      TaskIs (record {
        at = beyond x.0 at;
        dir = x.0;
        event =
            record { event = x.1; made_by = Some (record { visit = visit; emission = n }) };
      })
  task_drawn at visit n low high (Up, e) h =
      let same : at - 1 + 1 ≡ at + 1 - 1 = omega (arith, low) in
      record { way = (omega arith, omega (arith, high)); event = subst (λ place. EventIs place e) same h }
  task_drawn at visit n low high (Down, e) h = record { way = omega (arith, high); event = h }

  marked_drawn : (at visit n : ℕ) → 1 ≤ at → at ≤ length stack → (sent : List (Dir × DrawnEvent)) →
      SentAre (at - 1) sent →
      AllByRecursion TaskIs (tasks_of at
      (map (λ x. (x.1.0, record { event = x.1.1; made_by = Some (record { visit = visit; emission = x.0 }) }))
      (enumerate_from n sent)))
  marked_drawn at visit n low high [] h = tt
  marked_drawn at visit n low high (x ∷ xs) h =
      (task_drawn at visit n low high x h.0, marked_drawn at visit (n + 1) low high xs h.1)

  module _ (case : Case) (fits : LayersFit stack) where
    turn_drawn : (place : ℕ) (p : Progress) (r : Result DrawnVisit NoShape) → VisitIs place r →
        SentAre place (drawn_turn p r).sent
    turn_drawn place p (Ok v) h = h
    turn_drawn place p (Err reason) h = tt

    met_here : (dir : Dir) (at : ℕ) (e : DrawnEvent) → 1 ≤ at → EventIs (task_place dir at) e →
        EventIs (met_place (at - 1) dir) e
    met_here Up at e low h = h
    met_here Down at e low h = let same : at ≡ at - 1 + 1 = omega (arith, low) in
        subst (λ place. EventIs place e) same h

    shaped_drawn : (at : ℕ) → 1 ≤ at → (dir : Dir) (e : DrawnEvent) (r : Progressed) → EventIs (task_place dir at) e →
        SentAre (at - 1) (shaped_visit case stack at dir e r).sent
    shaped_drawn at low dir e (Err reason) h = tt
    shaped_drawn at low dir e (Ok p) h = go (nat_lt p.visits visits_limit) where
      visit : Result DrawnVisit NoShape
      visit = drawn_visit case (at - 1) (layer_at stack at) dir e

      go : (b : Bool) → SentAre (at - 1)
          (if b then drawn_turn p visit else record { world = Err no_shape.long; sent = [] }).sent
      go true = turn_drawn (at - 1) p visit
          (visit_drawn (at - 1) (layers_fit_at stack (at - 1) fits) case dir e (met_here dir at e low h))
      go false = tt

    out_drawn : (dir : Dir) (at : ℕ) (e : DrawnEvent) → IsOnItsWay stack dir at → is_place (length stack) at ≡ false →
        EventIs (task_place dir at) e → OutIs dir e
    out_drawn Up at e way off h = tt
    out_drawn Down at e way off h = subst (λ place. EventIs place e) (under (length stack) at off way) h

    next_drawn : (t : Task (Marked DrawnEvent)) (rest : List (Task (Marked DrawnEvent)))
        (log : Log Progressed DrawnEvent) →
        AllByRecursion TaskIs (t ∷ rest) →
        OutsAre log.outs →
        let r = next_of (length stack) (marking_player (shaper case stack)) (t ∷ rest) log in
        AllByRecursion TaskIs r.tasks ×
        OutsAre r.world.outs
    next_drawn t rest log h outs = go (is_place (length stack) t.at) refl where
      turn : Turn Progressed DrawnEvent
      turn = shaped_visit case stack t.at t.dir t.event.event log.world

      line : Bool → Line (Log Progressed DrawnEvent) (Marked DrawnEvent)
      line b = if b
          then taken_turn t.at rest ((marking_player (shaper case stack)).visit t.at t.dir t.event log)
          else record { world = (marking_player (shaper case stack)).output t.dir t.event log; tasks = rest }

      go : (b : Bool) → is_place (length stack) t.at ≡ b → AllByRecursion TaskIs (line b).tasks ×
          OutsAre (line b).world.outs
      go true place =
          let here = placed (length stack) t.at place in (
            each_append TaskIs rest (tasks_of t.at (marked_sent (length log.visits) turn.sent)) h.1
                (marked_drawn t.at (length log.visits) 0 here.0 here.1 turn.sent
                (shaped_drawn t.at here.0 t.dir t.event.event log.world h.0.event)),
            outs,
          )
      go false off = (
        h.1,
        each_append _ log.outs (record { at = 0; dir = t.dir; marked = t.event } ∷ []) outs
            (out_drawn t.dir t.at t.event.event h.0.way off h.0.event, tt),
      )

    run_drawn : (n : ℕ) (tasks : List (Task (Marked DrawnEvent))) (log : Log Progressed DrawnEvent) →
        AllByRecursion TaskIs tasks → OutsAre log.outs →
        OutsAre (run_for (length stack) (marking_player (shaper case stack)) n
        (record { world = log; tasks = tasks })).world.outs
    run_drawn zero tasks log h outs = outs
    run_drawn (suc n) [] log h outs = outs
    run_drawn (suc n) (t ∷ rest) log h outs =
        let r = next_of (length stack) (marking_player (shaper case stack)) (t ∷ rest) log in
        let is = next_drawn t rest log h outs in
        run_drawn n r.tasks r.world is.0 is.1

  -- shapes and plans
  abbrev ShapeOutIs : ShapeOut → Type 0
  ShapeOutIs out = (out.dir ≡ Down) → Counts 0 out.headers

  headers_drawn : (headers : Option (List DrawnHeader)) → Where (Counts 0) headers →
      Counts 0 (option_map_or (λ headers. headers) headers [])
  headers_drawn None h = tt
  headers_drawn (Some headers) h = h

  one_drawn : (x : Logged DrawnEvent) → OutIs x.dir x.marked.event → ShapeOutIs (shape_out x)
  one_drawn x h down = headers_drawn x.marked.event.headers (subst (λ dir. OutIs dir x.marked.event) down h)

  outs_drawn : (log : Log Progressed DrawnEvent) (r : Progressed) → OutsAre log.outs →
      AllByRecursion ShapeOutIs (outs_of (drawn_from (λ p. Ok (shape_with log p)) r))
  outs_drawn log (Err reason) h = tt
  outs_drawn log (Ok p) h = each_map (λ x. OutIs x.dir x.marked.event) ShapeOutIs shape_out one_drawn log.outs h

  first_drawn : LayersFit stack → (k : Kind) (case : Case) →
      AllByRecursion ShapeOutIs (outs_of (drawn_shape stack (record { dir = Down; kind = k; tags = [] }) case))
  unfolding drawn_shape
  first_drawn fits k case =
      let known : Known = record { dir = Down; kind = k; tags = [] } in
      let first = marked_start undrawn (entry_task stack known) in
      let log = (run_for (length stack) (marking_player (shaper case stack)) weight_limit first).world in
      outs_drawn log log.world
      (run_drawn case fits weight_limit first.tasks first.world (record { way = omega arith; event = tt }, tt) tt)

  shape_drawn : LayersFit stack → (k : Kind) (case : Case) →
      AllByRecursion ShapeOutIs (outs_of (shape stack (record { dir = Down; kind = k; tags = [] }) case))
  shape_drawn fits k First = first_drawn fits k First
  shape_drawn fits k Second = go (has_second_case stack (record { dir = Down; kind = k; tags = [] })) where
    go : (b : Bool) → AllByRecursion ShapeOutIs
        (outs_of (if b then drawn_shape stack (record { dir = Down; kind = k; tags = [] }) Second else Err
        no_shape.same))
    go true = first_drawn fits k Second
    go false = tt

  -- how many fields headers have by their tags
  abbrev pub total : ℕ → List ℕ → ℕ
  total place [] = 0
  total place (tag ∷ tags) = fields_of (layer_of stack place) tag + total (place + 1) tags

  abbrev pub PlanCounts : Plan → Type 0
  PlanCounts plan = length plan.fields ≡ total 0 plan.tags

  counted : (place : ℕ) (hs : List DrawnHeader) → Counts place hs →
      length (flat_map (λ (h : DrawnHeader). h.fields) hs) ≡ total place (map (λ (h : DrawnHeader). h.tag) hs)
  counted place [] h = refl
  counted place (x ∷ hs) h =
      let size = length-append x.fields (flat_map (λ (h : DrawnHeader). h.fields) hs) in
      let more = counted (place + 1) hs h.1 in
      let own = h.0 in
      omega (arith, size, more, own)

  packets_counted : (outs : List ShapeOut) → AllByRecursion ShapeOutIs outs →
      AllByRecursion (λ out. PlanCounts (plan_of out)) (filter (λ out. is_packet out out.dir) outs)
  packets_counted [] h = tt
  packets_counted (out ∷ outs) h = go (is_packet out out.dir) refl (packets_counted outs h.1) where
    down : (dir : Dir) → is_packet out dir ≡ true → dir ≡ Down
    down Up is = absurd (cc is)
    down Down is = refl

    go : (b : Bool) → is_packet out out.dir ≡ b →
        AllByRecursion (λ out. PlanCounts (plan_of out)) (filter (λ out. is_packet out out.dir) outs) →
        AllByRecursion (λ out. PlanCounts (plan_of out))
        (if b then out ∷ filter (λ out. is_packet out out.dir) outs else filter (λ out. is_packet out out.dir) outs)
    go true is rest = (counted 0 out.headers (h.0 (down out.dir is)), rest)
    go false is rest = rest

  group_counted : LayersFit stack → (k : Kind) (case : Case) →
      AllByRecursion (λ out. PlanCounts (plan_of out))
      (packets_of stack (record { entry = record { dir = Down; kind = k; tags = [] }; case = case }))
  group_counted fits k case = packets_counted _ (shape_drawn fits k case)

  flat_all : {A B : Type 0} (P : B → Type 0) (f : A → List B) (xs : List A) →
      AllByRecursion (λ x. AllByRecursion P (f x)) xs →
      AllByRecursion P (flat_map f xs)
  flat_all P f [] h = tt
  flat_all P f (x ∷ xs) h = each_append P (f x) (flat_map f xs) h.0 (flat_all P f xs h.1)

  pub plans_counted : LayersFit stack → AllByRecursion PlanCounts (plans_of stack)
  plans_counted fits = each_take PlanCounts plans_limit (map plan_of (flat_map (packets_of stack) groups))
      (each_map (λ out. PlanCounts (plan_of out)) PlanCounts plan_of (λ out h. h) (flat_map (packets_of stack) groups)
      (flat_all (λ out. PlanCounts (plan_of out)) (packets_of stack) groups (
        group_counted fits kind.Cast First,
        (
          group_counted fits kind.Send First,
          (group_counted fits kind.Cast Second, (group_counted fits kind.Send Second, tt)),
        ),
      )))
