-- What a traced visit adds: its notes join no more than its handler, and what it sends follows the arrows of its node.
use Rattle.std.proofs.Common.{◌≡◌, ℕ, zero, suc, ◌+◌, ◌-◌, ◌*◌, ◌≤◌, ◌==◌, Bool, true, false, List, [], ◌∷◌, ◌++◌, map}
use Rattle.std.proofs.Common.{length, drop, Option, Some, None, is_some, option_map, option_to_list, refl, sym, ap, ◌∙◌}
use Rattle.std.proofs.Common.{subst, inl, arith}
use Rattle.std.specs.Prelude.{if◌then◌else◌, slice_index_or, Ok, Err}
use Rattle.std.specs.List.{sum_by, AllByRecursion}
use Rattle.std.specs.Option.{option_map_or}
use Rattle.std.proofs.lemmas.List.Sums.{sum_by-cons}
use Rattle.layer_words.specs.declared.events.Dir.{Dir}
use Rattle.layer_words.specs.declared.events.Dir.TheVariants.{Up, Down}
use Rattle.layer_words.specs.declared.events.Kind.{Kind}
use Rattle.layer_mean.specs.declared.run.Case.{Case}
use Rattle.layer_mean.specs.Headers.{header_of_tag}
use Rattle.layer_mean.specs.Tree.{HandlerTree, Expected, always, common, rare, LayerTree, no_layer}
use Rattle.layer_mean.specs.Way.{Step, test, ways, expected_way}
use Rattle.layer_mean.specs.Visit.{is_for, handler_for, with_room}
use Rattle.layer_mean.specs.Queue.{layer_at}
use Rattle.stack_mean.specs.Emissions.{Repeated, emissions_in, handler_joins, joins_of, joins_expected}
use Rattle.stack_mean.specs.Graph.{Node, tags_for, goes_down, arrow_to, emission_arrow, passing, popped_tag}
use Rattle.stack_mean.specs.Graph.{entered_handler, handler_arrows}
use Rattle.stack_mean.specs.Acceptance.{largest}
use Rattle.stack_mean.specs.NoShape.{NoShape}
use Rattle.stack_mean.specs.NoShape as no_shape
use Rattle.weight_laws.specs.Orderly.{IsOrderly, IsOrderlyHandler, IsOrderlyBlock}
use Rattle.weight_laws.specs.Costs.{after_arrows}
use Rattle.chain_laws.proofs.Lists.{each_room}
use Rattle.weight_laws.proofs.Members.{In}
use Rattle.weight_laws.proofs.Nodes.{had_in, zero_had, orderly_at, found, for_these}
use Rattle.weight_laws.proofs.Sends.{total_in, total_in_is}
use Rattle.trace_mean.specs.Trace.{Core, Link, Chained}
use Rattle.trace_mean.specs.Scope.{Named, no_message}
use Rattle.trace_mean.specs.Fuse.{TracedEvent, Made, Tracing, TracedVisit, TracedMet, popped_chain, traced_met}
use Rattle.trace_mean.specs.Fuse.{traced_on, traced_unhandled, named_chain, traced_entered, traced_way, traced_handled}
use Rattle.trace_mean.specs.Fuse.{traced_visit, trace_steps}
use Rattle.trace_mean.specs.Counts.{trace_joins}
use Rattle.trace_form_laws.proofs.Turns.{IfMade, from_made, more_made}
use Rattle.trace_form_laws.proofs.Links.{LinksFit, link_tag, front_fits, rest_fits, more_fits}
use Rattle.trace_form_laws.proofs.Prices.{priced, step_joins, step_sends, OrderlyStep, ways_join, ways_send}
use Rattle.trace_form_laws.proofs.Prices.{ways_orderly}
use Rattle.trace_form_laws.proofs.Steps.{traced_tag, MessageFits, sent_gap, SentFits, NamedFits, NamesFit, bound_of}
use Rattle.trace_form_laws.proofs.Steps.{one_more, worth, leads, Comes, steps_come}

-- the gap that an event crosses on its way to a place
abbrev pub arrival : Dir → ℕ → ℕ
arrival Up at = at - 1
arrival Down at = at

abbrev pub node_at : ℕ → Dir → TracedEvent → Node
node_at at dir event = record { at = at; dir = dir; kind = event.kind; tag = traced_tag event.message }

-- scopes at entry
room_keeps : (k : ℕ) (x : Named) (xs : List Named) → slice_index_or (with_room k no_message (x ∷ xs)) 0 no_message ≡ x
room_keeps zero x xs = refl
room_keeps (suc k) x xs = room_keeps k x (xs ++ no_message ∷ [])

room_empty : (k : ℕ) → slice_index_or (with_room k no_message []) 0 no_message ≡ no_message
room_empty zero = refl
room_empty (suc k) = room_keeps k no_message []

first_tag : (k : ℕ) (m : Option Chained) →
    link_tag (slice_index_or (with_room k no_message (option_to_list (option_map named_chain m))) 0
    no_message).message.chain
    ≡ traced_tag m
first_tag k None = ap (λ x. link_tag x.message.chain) (room_empty k)
first_tag k (Some c) = ap (λ x. link_tag x.message.chain) (room_keeps k (named_chain c) [])

module _ (stack : List LayerTree) (at : ℕ) (here : (1 ≤ at) × (at ≤ length stack)) where
  met_fits : (dir : Dir) (kind : Kind) (m : Option Chained) → MessageFits stack (arrival dir at) kind m →
      MessageFits stack at kind (traced_met dir m).message
  met_fits dir kind None h = tt
  met_fits Down kind (Some m) h = h
  met_fits Up kind (Some m) h = go m.chain h.1 where
    go : (chain : List Link) → LinksFit (drop (at - 1) stack) chain →
        MessageFits stack at kind (popped_chain m.core chain).message
    go [] k = (h.0, tt)
    go (l ∷ ls) k = (
      h.0,
      (let above : suc (at - 1) ≡ at = omega (arith, here.0) in
          subst (λ j. LinksFit (drop j stack) ls) above (rest_fits stack (at - 1) l ls k)),
    )

  met_tag : (dir : Dir) (event : TracedEvent) → (traced_met dir event.message).tag ≡
      popped_tag (node_at at dir event) dir
  met_tag dir event = go dir event.message where
    front : (c : Core) (chain : List Link) → (popped_chain c chain).tag ≡ link_tag chain
    front c [] = refl
    front c (l ∷ ls) = refl

    go : (d : Dir) (m : Option Chained) →
        (traced_met d m).tag ≡ popped_tag (record { at = at; dir = d; kind = event.kind; tag = traced_tag m }) d
    go Up None = refl
    go Down None = refl
    go Up (Some c) = front c.core c.chain
    go Down (Some c) = refl

  entered_fits : (h : HandlerTree) (dir : Dir) (event : TracedEvent) →
      MessageFits stack (arrival dir at) event.kind event.message →
      NamesFit stack (node_at at dir event) (traced_entered h event (traced_met dir event.message))
  entered_fits h dir event fits = record {
    each = each_room (NamedFits stack at) h.messages no_message _ tt
        (alone (traced_met dir event.message).message (met_fits dir event.kind event.message fits));
    first = λ down. go dir event.message down;
  } where
    alone : (m : Option Chained) → MessageFits stack at event.kind m →
        AllByRecursion (NamedFits stack at) (option_to_list (option_map named_chain m))
    alone None k = tt
    alone (Some m) k = (k.1, tt)

    go : (d : Dir) (m : Option Chained) → goes_down d event.kind ≡ true →
        let names = with_room h.messages no_message (option_to_list (option_map named_chain (traced_met d m).message))
        in
        link_tag (slice_index_or names 0 no_message).message.chain ≡ traced_tag m
    go Up m down = absurd (cc down)
    go Down None down = first_tag h.messages None
    go Down (Some m) down = first_tag h.messages (Some m)

  module _ (f : Node → ℕ) where
    pub record VisitComes (n : Node) (sends joins : ℕ) (v : TracedVisit) : Type 0 where
      pub each : AllByRecursion (SentFits stack n.at) v.sent
      pub sent : sum_by (worth stack f n) v.sent ≤ sends
      pub joined : trace_joins v.made.operations ≤ joins

    arrows_total : (n : Node) (rs : List Repeated) →
        after_arrows f (map (emission_arrow stack n) rs) ≡ sum_by (λ r. r.times * bound_of stack f n r.emission) rs
    arrows_total n [] = refl
    arrows_total n (r ∷ rs) =
        sum_by-cons (λ arrow. arrow.times * largest (map f arrow.targets)) (emission_arrow stack n r)
        (map (emission_arrow stack n) rs)
        ∙ ap (λ x. r.times * bound_of stack f n r.emission + x) (arrows_total n rs)
        ∙ sym (sum_by-cons (λ q. q.times * bound_of stack f n q.emission) r rs)

    -- an event that passes
    passed : (dir : Dir) (event : TracedEvent) (way : Dir) (m : Made) (message : Option Chained) (tags : List ℕ) →
        MessageFits stack (sent_gap way at) event.kind message → In (traced_tag message) tags →
        VisitComes (node_at at dir event) (after_arrows f (arrow_to 1 (node_at at dir event) way event.kind tags ∷ []))
        (trace_joins m.operations)
        (traced_on m way event message)
    passed dir event way m message tags fits is = record {
      each = (fits, tt);
      sent = omega (arith, leads stack f (node_at at dir event) way event.kind tags (traced_tag message) is);
      joined = omega arith;
    }

    up_tag : (kind : Kind) (m : Option Chained) → MessageFits stack at kind m →
        In (traced_tag m) (tags_for kind (layer_at stack (at + 1)))
    up_tag kind None fits = had_in kind (layer_at stack (at + 1)) 0 (zero_had kind (layer_at stack (at + 1)))
    up_tag kind (Some m) fits = had_in kind (layer_at stack (at + 1)) (link_tag m.chain)
        (rw fits.0 (subst (λ j. is_some (header_of_tag (slice_index_or stack j no_layer) (link_tag m.chain)) ≡ true)
        (sym (one_more at))
        (front_fits stack at m.chain fits.1)))

    up_one : (event : TracedEvent) (m : Made) (c : Core) (chain : List Link) →
        MessageFits stack (at - 1) event.kind (Some (record { chain = chain; core = c })) →
        let e : TracedEvent = record event { message = Some (record { chain = chain; core = c }) } in
        let met : TracedMet = popped_chain c chain in
        IfMade (VisitComes (node_at at Up e) (after_arrows f (passing stack (node_at at Up e) Up))
        (trace_joins m.operations))
        (traced_unhandled (at - 1) m Up e met.tag met.message)
    up_one event m c [] fits =
        passed Up (record event { message = Some (record { chain = []; core = c }) }) Up m
        (Some (record { chain = []; core = c })) _ (fits.0, tt)
        (up_tag event.kind (Some (record { chain = []; core = c })) (fits.0, tt))
    up_one event m c (l ∷ ls) fits = go (l.tag == 0) where
      e : TracedEvent
      e = record event { message = Some (record { chain = l ∷ ls; core = c }) }

      rest : MessageFits stack at event.kind (Some (record { chain = ls; core = c }))
      rest = met_fits Up event.kind (Some (record { chain = l ∷ ls; core = c })) fits

      go : (b : Bool) → let e : TracedEvent = record event { message = Some (record { chain = l ∷ ls; core = c }) } in
          let n : Node = node_at at Up e in
          IfMade (VisitComes n
          (after_arrows f (if b then arrow_to 1 n Up event.kind (tags_for event.kind (layer_at stack (at + 1))) ∷
          [] else []))
          (trace_joins m.operations))
          (if b then Ok (traced_on m Up e (Some (record { chain = ls; core = c }))) else Err (no_shape.rare (at - 1)))
      go true = passed Up e Up m (Some (record { chain = ls; core = c }))
          (tags_for event.kind (layer_at stack (at + 1))) rest
          (up_tag event.kind (Some (record { chain = ls; core = c })) rest)
      go false = tt

    passes : (dir : Dir) (event : TracedEvent) (m : Made) (message : Option Chained) → event.message ≡ message →
        MessageFits stack (arrival dir at) event.kind message →
        let e : TracedEvent = record event { message = message } in
        let met : TracedMet = traced_met dir message in
        IfMade (VisitComes (node_at at dir e) (after_arrows f (passing stack (node_at at dir e) dir))
        (trace_joins m.operations))
        (traced_unhandled (at - 1) m dir e met.tag met.message)
    passes Up event m None is fits = passed Up (record event { message = None }) Up m None _ tt
        (up_tag event.kind None tt)
    passes Down event m None is fits = passed Down (record event { message = None }) Down m None (0 ∷ []) tt (inl refl)
    passes Down event m (Some c) is fits = passed Down (record event { message = Some c }) Down m
        (Some (record c { chain = record { place = at - 1; tag = 0; fields = [] } ∷ c.chain })) (0 ∷ []) (
          fits.0,
          (let above : at ≡ suc (at - 1) = omega (arith, here.0) in
              more_fits stack (at - 1) (record { place = at - 1; tag = 0; fields = [] }) c.chain
              (omega (arith, here.0, here.1)) refl (subst (λ j. LinksFit (drop j stack) c.chain) above fits.1)),
        )
        (inl refl)
    passes Up event m (Some c) is fits = up_one event m c.core c.chain fits

    way_made : (case : Case) (dir : Dir) (event : TracedEvent) (m : Made) (h : HandlerTree) (steps : List Step)
        (joins : ℕ) →
        MessageFits stack (arrival dir at) event.kind event.message →
        AllByRecursion (OrderlyStep (layer_at stack at) (goes_down dir event.kind)) steps →
        priced step_joins steps ≤ joins →
        priced (step_sends (bound_of stack f (node_at at dir event))) steps ≤ total_in
        (bound_of stack f (node_at at dir event)) h.block →
        let n : Node = node_at at dir event in
        IfMade (VisitComes n (after_arrows f (map (emission_arrow stack n) (emissions_in 1 h.block)))
        (trace_joins m.operations + joins))
        (traced_way (layer_at stack at) (at - 1) m (Some steps) (traced_entered h event (traced_met dir event.message)))
    way_made case dir event m h steps joins fits orderly le sends =
        let n : Node = node_at at dir event in
        let start : Tracing =
        record { made = m; names = traced_entered h event (traced_met dir event.message); sent = [] } in
        let begun : Comes stack f n 0 (trace_joins m.operations) start =
        record { names = entered_fits h dir event fits; each = tt; sent = omega arith; joined = omega arith } in
        from_made (Comes stack f n (0 + priced (step_sends (bound_of stack f n)) steps)
        (trace_joins m.operations + priced step_joins steps))
        (VisitComes n (after_arrows f (map (emission_arrow stack n) (emissions_in 1 h.block)))
        (trace_joins m.operations + joins))
        (λ y. Ok (record { made = y.made; sent = y.sent })) (trace_steps (layer_at stack at) (at - 1) steps start)
        (steps_come stack f n (layer_at stack at) steps start 0 (trace_joins m.operations) here orderly begun)
        (λ z k. record {
          each = k.each;
          sent = omega (
            arith,
            k.sent,
            arrows_total n (emissions_in 1 h.block),
            total_in_is (bound_of stack f n) h.block 1,
            sends,
          );
          joined = omega (arith, k.joined, le);
        })

    expected : (case : Case) (dir : Dir) (event : TracedEvent) (m : Made) (h : HandlerTree) (x : Expected) →
        MessageFits stack (arrival dir at) event.kind event.message →
        AllByRecursion (OrderlyStep (layer_at stack at) (goes_down dir event.kind)) (ways case h.block) →
        let n : Node = node_at at dir event in
        IfMade (VisitComes n (after_arrows f (map (emission_arrow stack n) (emissions_in 1 h.block)))
        (trace_joins m.operations + (joins_expected x + joins_of h.block)))
        (traced_way (layer_at stack at) (at - 1) m (expected_way x (ways case h.block))
        (traced_entered h event (traced_met dir event.message)))
    expected case dir event m h always fits orderly =
        way_made case dir event m h (ways case h.block) (0 + joins_of h.block) fits orderly
        (omega (arith, ways_join case h.block)) (ways_send (bound_of stack f (node_at at dir event)) case h.block)
    expected case dir event m h rare fits orderly = tt
    expected case dir event m h (common e) fits orderly =
        way_made case dir event m h (test true e ∷ ways case h.block) (joins_expected (common e) + joins_of h.block)
        fits (tt, orderly)
        (omega (arith, ways_join case h.block))
        (omega (arith, ways_send (bound_of stack f (node_at at dir event)) case h.block))

    handled : (case : Case) (dir : Dir) (event : TracedEvent) (m : Made) (o : Option HandlerTree) →
        ((h : HandlerTree) → o ≡ Some h → IsOrderlyHandler (layer_at stack at) h ×
        (goes_down h.direction h.kind ≡ goes_down dir event.kind)) →
        MessageFits stack (arrival dir at) event.kind event.message →
        let n : Node = node_at at dir event in
        IfMade (VisitComes n (after_arrows f (handler_arrows stack n o))
        (trace_joins m.operations + option_map_or handler_joins o 0))
        (traced_handled case (layer_at stack at) (at - 1) m o dir event (traced_met dir event.message))
    handled case dir event m None is fits = more_made _
        (VisitComes (node_at at dir event) (after_arrows f (handler_arrows stack (node_at at dir event) None))
        (trace_joins m.operations + 0)) _
        (passes dir event m event.message refl fits)
        (λ v h. record { each = h.each; sent = h.sent; joined = omega (arith, h.joined) })
    handled case dir event m (Some h) is fits =
        let chosen = is h refl in
        let orderly : IsOrderlyBlock (layer_at stack at) (goes_down dir event.kind) h.block =
        subst (λ b. IsOrderlyBlock (layer_at stack at) b h.block) chosen.1 chosen.0 in
        expected case dir event m h h.expected fits
        (ways_orderly (layer_at stack at) (goes_down dir event.kind) case h.block orderly)

    pub visit_comes : (case : Case) (dir : Dir) (event : TracedEvent) (m : Made) → IsOrderly stack →
        MessageFits stack (arrival dir at) event.kind event.message →
        let n : Node = node_at at dir event in
        IfMade (VisitComes n (after_arrows f (handler_arrows stack n (entered_handler stack n)))
        (trace_joins m.operations + option_map_or handler_joins (entered_handler stack n) 0))
        (traced_visit case (layer_at stack at) (at - 1) m dir event)
    visit_comes case dir event m orderly fits =
        let n : Node = node_at at dir event in
        subst (λ tag. IfMade (VisitComes n
        (after_arrows f (handler_arrows stack n (handler_for (layer_at stack at) dir event.kind tag)))
        (trace_joins m.operations + option_map_or handler_joins (handler_for (layer_at stack at) dir event.kind tag) 0))
        (traced_visit case (layer_at stack at) (at - 1) m dir event))
        (met_tag dir event)
        (handled case dir event m (handler_for (layer_at stack at) dir event.kind (traced_met dir event.message).tag)
        (λ h is.
        let chosen = found (IsOrderlyHandler (layer_at stack at))
        (is_for dir event.kind (traced_met dir event.message).tag) (layer_at stack at).handlers h
        (orderly_at stack (at - 1) orderly) is in
        let these = for_these dir event.kind (traced_met dir event.message).tag h chosen.1 in
        (chosen.0, λ i. goes_down (these.0 i) (these.1 i))) fits)
