-- A visit is drawn exactly where it is traced, with the same tags, and as long.
use Rattle.std.proofs.Common.{◌≡◌, ℕ, suc, ◌+◌, Bool, true, false, List, [], ◌∷◌, ◌++◌, map, length, Option, Some, None}
use Rattle.std.proofs.Common.{refl, sym, ap, ◌∙◌, subst, arith}
use Rattle.std.specs.Prelude.{if◌then◌else◌, ◌==◌, slice_index_or, slice_set, option_map, option_to_list, Result, Ok}
use Rattle.std.specs.Prelude.{Err}
use Rattle.std.specs.Option.{option_map_or}
use Rattle.std.proofs.Math.ListN.{get_or-map}
use Rattle.std.proofs.lemmas.List.{map-append, map-set, length-append, append-nil}
use Rattle.std.proofs.lemmas.Grind.{flat_map-append}
use Rattle.std.proofs.lemmas.List.Concat.{flat_map-cons}
use Rattle.std.proofs.lemmas.List.Sums.{sum_by-append, sum_by-cons}
use Rattle.layer_words.specs.declared.events.Dir.{Dir}
use Rattle.layer_words.specs.declared.events.Dir.TheVariants.{Up, Down}
use Rattle.layer_words.specs.declared.events.Kind.{Kind}
use Rattle.layer_mean.specs.declared.run.Case.{Case}
use Rattle.layer_mean.specs.declared.run.Case.TheVariants.{First, Second}
use Rattle.layer_mean.specs.Tree.{Carried, part, whole, ExpressionTree, MessageTree, ContentTree, EmissionTree}
use Rattle.layer_mean.specs.Tree.{TakenTree, HandlerTree, LayerTree}
use Rattle.layer_mean.specs.Tree as tree
use Rattle.layer_mean.specs.Visit.{handler_for, with_room}
use Rattle.layer_mean.specs.Way.{Step, test, fork, set_slot, set_number, set_square, put, get, send, loop, weight_of}
use Rattle.layer_mean.specs.Way.{way_length, handler_way}
use Rattle.stack_mean.specs.NoShape.{NoShape, drawn_from}
use Rattle.stack_mean.specs.NoShape as no_shape
use Rattle.stack_mean.specs.Drawn.{DrawnHeader, DrawnMessage, chained, unknown, DrawnEvent, drawn_row, drawn_message}
use Rattle.stack_mean.specs.Drawn.{Drawing, with_header, sent_headers, emission_headers, with_sent, with_taken}
use Rattle.stack_mean.specs.Drawn.{draw_step, draw_steps, DrawnVisit, DrawnMet, popped_of, drawn_met, drawn_on}
use Rattle.stack_mean.specs.Drawn.{drawn_unhandled, drawn_entered, drawn_way, drawn_handled, drawn_visit}
use Rattle.trace_mean.specs.Trace.{Atom, Core, TraceMessage, Link, Chained, Operation, note, check}
use Rattle.trace_mean.specs.Scope.{Named, Names, no_message, Worded, traced_message, bounds, taken_name, fill_message}
use Rattle.trace_mean.specs.Fuse.{TracedEvent, Made, Tracing, core_if_settled, notes_of, core_of, pushing, row_word}
use Rattle.trace_mean.specs.Fuse.{room_in}
use Rattle.trace_mean.specs.Fuse.{binds_one, binding, sent_chain, sending_known, traced_send, trace_step, trace_steps}
use Rattle.trace_mean.specs.Fuse.{TracedVisit, TracedMet, popped_chain, traced_met, traced_on, traced_unhandled}
use Rattle.trace_mean.specs.Fuse.{named_chain}
use Rattle.trace_mean.specs.Fuse.{traced_entered, traced_way, traced_handled, traced_visit}
use Rattle.trace_laws.specs.Shapes.{Told, told_by_trace, outlets_of, trace_outlets}
use Rattle.trace_laws.proofs.Visits.{map_room}
use Rattle.trace_mean.specs.Counts.{operation_length, trace_length}

-- what operations tell, and n more of them that put nothing out
abbrev pub more : Told → ℕ → Told
more t n = record t { length = t.length + n }

long_both : (xs ys : List Operation) → trace_length (xs ++ ys) ≡ trace_length xs + trace_length ys
long_both xs ys = sum_by-append operation_length xs ys

pub told_both : (xs ys : List Operation) → told_by_trace (xs ++ ys) ≡
    record { length = trace_length xs + trace_length ys; outlets = trace_outlets xs ++ trace_outlets ys }
told_both xs ys = λ t. record { length = long_both xs ys t; outlets = flat_map-append outlets_of xs ys t }

abbrev Inside : List Operation → ℕ → Type 0
Inside os n = told_by_trace os ≡ record { length = n; outlets = [] }

inside_both : (xs ys : List Operation) (n m : ℕ) → Inside xs n → Inside ys m → Inside (xs ++ ys) (n + m)
inside_both xs ys n m is too = told_both xs ys ∙
    (λ t. record { length = (is t).length + (too t).length; outlets = (is t).outlets ++ (too t).outlets })

inside_binds : (p : ℕ) (l : Names) (es : List ExpressionTree) → Inside (binding p l es) (length es)
inside_binds p l [] = refl
inside_binds p l (e ∷ es) =
    let rest = inside_binds p l es in
    let long : trace_length (binding p l (e ∷ es)) ≡ suc (length es) =
    omega (arith, sum_by-cons operation_length (binds_one p l e) (binding p l es), ap (λ x. x.length) rest) in
    let none : trace_outlets (binding p l (e ∷ es)) ≡ [] = flat_map-cons outlets_of (binds_one p l e) (binding p l es) ∙
    ap (λ x. x.outlets) rest in
    λ t. record { length = long t; outlets = none t }

inside_notes : (m : TraceMessage) → Inside (notes_of m) 0
inside_notes m = go (core_if_settled m) where
  go : (s : Option Core) → Inside (option_map_or (λ c. []) s (note m ∷ [])) 0
  go None = refl
  go (Some c) = refl

inside_push : (p : ℕ) (l : Names) (c : ℕ) (e : ExpressionTree) (es : List ExpressionTree) (next : ℕ)
    (w : Option Worded) →
    Inside (pushing p l c e es next w) 1
inside_push p l c e es next None = refl
inside_push p l c e es next (Some x) = inside_both (notes_of x.message) (_ ∷ []) 0 1 (inside_notes x.message) refl

-- the tags of what is known of a message
abbrev drawn_tags : DrawnMessage → Option (List ℕ)
drawn_tags (chained headers) = Some (map (λ h. h.tag) headers)
drawn_tags unknown = None

abbrev tags_if : Bool → List Link → Option (List ℕ)
tags_if true chain = Some (map (λ l. l.tag) chain)
tags_if false chain = None

abbrev named_tags : Named → Option (List ℕ)
named_tags n = tags_if n.known n.message.chain

abbrev pub header_tags : Option (List DrawnHeader) → Option (List ℕ)
header_tags headers = option_map (map (λ h. h.tag)) headers

abbrev pub chain_tags : Option Chained → Option (List ℕ)
chain_tags m = option_map (λ c. map (λ l. l.tag) c.chain) m

-- an event's kind and tags
abbrev pub Outline : Type 0
Outline = Kind × Option (List ℕ)

abbrev pub drawn_outline : DrawnEvent → Outline
drawn_outline e = (e.kind, header_tags e.headers)

abbrev pub traced_outline : TracedEvent → Outline
traced_outline e = (e.kind, chain_tags e.message)

abbrev pub drawn_sent : Dir × DrawnEvent → Dir × Outline
drawn_sent x = (x.0, drawn_outline x.1)

abbrev pub traced_sent : Dir × TracedEvent → Dir × Outline
traced_sent x = (x.0, traced_outline x.1)

abbrev Alike : Drawing → Tracing → Type 0
Alike d y = (map drawn_tags d.scope ≡ map named_tags y.names.messages) ×
    (map drawn_sent d.sent ≡ map traced_sent y.sent)

abbrev StepAlike : Told → Result Drawing NoShape → Result Tracing NoShape → Type 0
StepAlike n (Err r) (Err q) = r ≡ q
StepAlike n (Ok d) (Ok y) = Alike d y × (told_by_trace y.made.operations ≡ n)
StepAlike n _ _ = ⊥

worded_alike : (p : ℕ) (l : Names) (scope : List DrawnMessage) → map drawn_tags scope ≡ map named_tags l.messages →
    (m : MessageTree) →
    drawn_tags (drawn_message scope m) ≡ tags_if (traced_message p l m).known (traced_message p l m).chain
worded_alike p l scope same (tree.message k) =
    sym (get_or-map drawn_tags scope k (chained [])) ∙ ap (λ ts. slice_index_or ts k (Some [])) same ∙
    get_or-map named_tags l.messages k no_message
worded_alike p l scope same tree.nothing = refl
worded_alike p l scope same (tree.held c e row part) = refl
worded_alike p l scope same (tree.held c e row (whole blank)) = refl
worded_alike p l scope same (tree.cut m from n) = refl
worded_alike p l scope same (tree.tail m from) = worded_alike p l scope same m
worded_alike p l scope same (tree.join q m) = worded_alike p l scope same m

taken_tags : (row : ℕ) (carried : Carried) → drawn_tags (drawn_row carried) ≡ named_tags (taken_name row carried)
taken_tags row part = refl
taken_tags row (whole blank) = refl

taken_alike : (row : ℕ) (t : TakenTree) (scope : List DrawnMessage) (ns : List Named) →
    map drawn_tags scope ≡ map named_tags ns →
    map drawn_tags (with_taken t scope) ≡ map named_tags (fill_message row t.message ns)
taken_alike row t scope ns same = go t.message where
  go : (item : Option (ℕ × Carried)) →
      map drawn_tags (option_map_or (λ slot. slice_set scope slot.0 (drawn_row slot.1)) item scope) ≡
      map named_tags (fill_message row item ns)
  go None = same
  go (Some slot) = map-set drawn_tags scope slot.0 (drawn_row slot.1) ∙
      (λ t. slice_set (same t) slot.0 (taken_tags row slot.1 t))
      ∙ sym (map-set named_tags ns slot.0 (taken_name row slot.1))

header_alike : (p : ℕ) (dir : Dir) (c : ContentTree) (fields : List Atom) (headers : List DrawnHeader)
    (chain : List Link) →
    map (λ (h : DrawnHeader). h.tag) headers ≡ map (λ (l : Link). l.tag) chain →
    map (λ (h : DrawnHeader). h.tag) (with_header dir c headers) ≡
    map (λ (l : Link). l.tag) (sent_chain p dir c.tag fields chain)
header_alike p Up c fields headers chain same = same
header_alike p Down c fields headers chain same = ap (λ ts. c.tag ∷ ts) same

pub more_nothing : (n : Told) → n ≡ more n 0
more_nothing n = let same : n.length ≡ n.length + 0 = omega arith in λ t. record n { length = same t }

module _ (layer : LayerTree) (p : ℕ) where
  -- operations after those that there are
  longer : (y : Tracing) (os : List Operation) (n : ℕ) → Inside os n →
      told_by_trace (y.made.operations ++ os) ≡ more (told_by_trace y.made.operations) n
  longer y os n is = told_both y.made.operations os
      ∙ (λ t. record {
        length = trace_length y.made.operations + (is t).length;
        outlets =
            trace_outlets y.made.operations ++ (is t).outlets;
      })
      ∙ (λ t. record {
        length = trace_length y.made.operations + n;
        outlets =
            append-nil (trace_outlets y.made.operations) t;
      })

  so_many : {n m : ℕ} → n ≡ m →
      ◌≡◌ {A = Told} (record { length = n; outlets = [] }) (record { length = m; outlets = [] })
  so_many is = λ t. record { length = is t; outlets = [] }

  more_none : (n : ℕ) → ◌≡◌ {A = Told} (record { length = n; outlets = [] }) (record { length = n + 0; outlets = [] })
  more_none n = so_many (omega arith)

  send_alike : (e : EmissionTree) (content : Option ContentTree) (d : Drawing) (y : Tracing) → Alike d y →
      StepAlike (more (told_by_trace y.made.operations)
      (length e.numbers + option_map_or (λ c. length c.fields) content 0))
      (drawn_from (λ headers. Ok (with_sent d e headers)) (emission_headers p e.direction d.scope content))
      (traced_send p y e content)
  send_alike e None d y alike = (
    (
      alike.0,
      map-append drawn_sent d.sent _ ∙ (λ t. alike.1 t ++ (e.direction, (e.kind, None)) ∷ []) ∙
          sym (map-append traced_sent y.sent _),
    ),
    longer y (binding p y.names e.numbers) _ (inside_binds p y.names e.numbers ∙ more_none (length e.numbers)),
  )
  send_alike e (Some c) d y alike =
      go (drawn_message d.scope c.message) x.known (worded_alike p y.names d.scope alike.0 c.message) where
        x : Worded
        x = traced_message p y.names c.message

        go : (m : DrawnMessage) (b : Bool) → drawn_tags m ≡ tags_if b x.chain →
            StepAlike (more (told_by_trace y.made.operations) (length e.numbers + length c.fields))
            (drawn_from (λ headers. Ok (with_sent d e headers)) (sent_headers p e.direction c m))
            (sending_known b p y e c x)
        go (chained headers) true same =
            let tags : map (λ (h : DrawnHeader). h.tag) headers ≡ map (λ (l : Link). l.tag) x.chain = cc in (
              (
                alike.0,
                map-append drawn_sent d.sent
                    ((e.direction, record { kind = e.kind; headers = Some (with_header e.direction c headers) }) ∷ [])
                    ∙ (λ t. alike.1 t ++ (
                      e.direction,
                      (
                        e.kind,
                        Some (header_alike p e.direction c
                            (bounds (y.made.binds + length e.numbers) c.fields) headers x.chain tags t),
                      ),
                    ) ∷ [])
                    ∙ sym (map-append traced_sent y.sent ((
                      e.direction,
                      record {
                        kind = e.kind;
                        numbers = bounds y.made.binds e.numbers;
                        message = Some (record {
                          chain = sent_chain p e.direction c.tag (bounds (y.made.binds + length e.numbers) c.fields)
                              x.chain;
                          core = core_of y.made.notes x.message;
                        });
                      },
                    ) ∷ [])),
              ),
              longer y (binding p y.names (e.numbers ++ c.fields) ++ notes_of x.message)
                  (length e.numbers + length c.fields)
                  (inside_both (binding p y.names (e.numbers ++ c.fields)) (notes_of x.message) _ 0
                  (inside_binds p y.names (e.numbers ++ c.fields))
                  (inside_notes x.message)
                  ∙ so_many (omega (arith, length-append e.numbers c.fields))),
            )
        go unknown false same = refl
        go (chained headers) false same = absurd (cc same)
        go unknown true same = absurd (cc same)

  step_alike : (x : Step) (d : Drawing) (y : Tracing) → Alike d y →
      StepAlike (more (told_by_trace y.made.operations) (weight_of x)) (draw_step p x d) (trace_step layer p x y)
  step_alike (test true e) d y alike = (alike, longer y _ 1 refl)
  step_alike (test false e) d y alike = (alike, longer y _ 1 refl)
  step_alike (fork First e) d y alike = (alike, longer y _ 1 refl)
  step_alike (fork Second e) d y alike = (alike, longer y _ 1 refl)
  step_alike (set_slot k e) d y alike = (alike, longer y _ 1 refl)
  step_alike (set_number c e x) d y alike = (alike, longer y _ 1 refl)
  step_alike (set_square c row column x) d y alike = (alike, longer y _ 1 refl)
  step_alike (put c e capacity row) d y alike = (
    alike,
    longer y (_ ∷ pushing p y.names c e row.numbers y.made.notes (row_word p y.names row)) 2
        (inside_both (check (room_in layer p y.names c e capacity) ∷ [])
        (pushing p y.names c e row.numbers y.made.notes (row_word p y.names row)) 1 1 refl
        (inside_push p y.names c e row.numbers y.made.notes (row_word p y.names row))),
  )
  step_alike (get c e taken) d y alike =
      ((taken_alike y.made.takes taken d.scope y.names.messages alike.0, alike.1), longer y _ 2 refl)
  step_alike (send e) d y alike = send_alike e e.content d y alike
  step_alike loop d y alike = refl

  on_alike : (xs : List Step) (n m : Told) → ((d : Drawing) (y : Tracing) → Alike d y →
      StepAlike (more (told_by_trace y.made.operations) (way_length xs)) (draw_steps p xs d) (trace_steps layer p xs y))
      →
      (r : Result Drawing NoShape) (q : Result Tracing NoShape) → StepAlike n r q → more n (way_length xs) ≡ m →
      StepAlike m (drawn_from (draw_steps p xs) r) (drawn_from (trace_steps layer p xs) q)
  on_alike xs n m rest (Err r) (Err q) same sum = same
  on_alike xs n m rest (Ok d) (Ok y) same sum =
      subst (λ k. StepAlike k (draw_steps p xs d) (trace_steps layer p xs y))
      (ap (λ k. more k (way_length xs)) same.1 ∙ sum) (rest d y same.0)
  on_alike xs n m rest (Err r) (Ok y) same sum = absurd same
  on_alike xs n m rest (Ok d) (Err q) same sum = absurd same

  longer_way : (x : Step) (xs : List Step) (n : Told) → more (more n (weight_of x)) (way_length xs) ≡
      more n (way_length (x ∷ xs))
  longer_way x xs n = let sum : (n.length + weight_of x) + way_length xs ≡ n.length + way_length (x ∷ xs) =
      omega (arith, sum_by-cons weight_of x xs) in
      λ t. record n { length = sum t }

  steps_alike : (xs : List Step) (d : Drawing) (y : Tracing) → Alike d y →
      StepAlike (more (told_by_trace y.made.operations) (way_length xs)) (draw_steps p xs d) (trace_steps layer p xs y)
  steps_alike [] d y alike = (alike, more_nothing (told_by_trace y.made.operations))
  steps_alike (x ∷ xs) d y alike = on_alike xs (more (told_by_trace y.made.operations) (weight_of x)) _ (steps_alike xs)
      (draw_step p x d) (trace_step layer p x y) (step_alike x d y alike)
      (longer_way x xs (told_by_trace y.made.operations))

-- visits
abbrev pub VisitAlike : Told → Result DrawnVisit NoShape → Result TracedVisit NoShape → Type 0
VisitAlike n (Err r) (Err q) = r ≡ q
VisitAlike n (Ok v) (Ok u) = (map drawn_sent v.sent ≡ map traced_sent u.sent) ×
    (more n v.length ≡ told_by_trace u.made.operations)
VisitAlike n _ _ = ⊥

record MetAlike (d : DrawnMet) (t : TracedMet) : Type 0 where
  tag : d.tag ≡ t.tag
  tags : header_tags d.headers ≡ chain_tags t.message

popped_alike : (c : Core) (headers : List DrawnHeader) (chain : List Link) →
    map (λ (h : DrawnHeader). h.tag) headers ≡ map (λ (l : Link). l.tag) chain →
    MetAlike (popped_of headers) (popped_chain c chain)
popped_alike c [] [] same = record { tag = refl; tags = refl }
popped_alike c (h ∷ hs) (l ∷ ls) same =
    let head : h.tag ≡ l.tag = cc in
    let rest : map (λ (h : DrawnHeader). h.tag) hs ≡ map (λ (l : Link). l.tag) ls = cc in
    record { tag = head; tags = ap Some rest }
popped_alike c [] (l ∷ ls) same = absurd (cc same)
popped_alike c (h ∷ hs) [] same = absurd (cc same)

met_alike : (dir : Dir) (headers : Option (List DrawnHeader)) (m : Option Chained) →
    header_tags headers ≡ chain_tags m →
    MetAlike (drawn_met dir headers) (traced_met dir m)
met_alike dir None None same = record { tag = refl; tags = refl }
met_alike Up (Some headers) (Some m) same = popped_alike m.core headers m.chain cc
met_alike Down (Some headers) (Some m) same = record { tag = refl; tags = same }
met_alike dir None (Some m) same = absurd (cc same)
met_alike dir (Some headers) None same = absurd (cc same)

unhandled_alike : (p : ℕ) (m : Made) (dir : Dir) (d : DrawnEvent) (t : TracedEvent) (tag tag' : ℕ)
    (headers : Option (List DrawnHeader)) (c : Option Chained) →
    d.kind ≡ t.kind → tag ≡ tag' → header_tags headers ≡ chain_tags c →
    VisitAlike (told_by_trace m.operations) (drawn_unhandled p dir d tag headers) (traced_unhandled p m dir t tag' c)
unhandled_alike p m dir d t tag tag' None None kind is same =
    (λ r. (dir, (kind r, None)) ∷ [], sym (more_nothing (told_by_trace m.operations)))
unhandled_alike p m Down d t tag tag' (Some headers) (Some c) kind is same =
    let tags : map (λ (h : DrawnHeader). h.tag) headers ≡ map (λ (l : Link). l.tag) c.chain = cc in
    (λ r. (Down, (kind r, Some (0 ∷ tags r))) ∷ [], sym (more_nothing (told_by_trace m.operations)))
unhandled_alike p m Up d t tag tag' (Some headers) (Some c) kind is same =
    subst (λ k. VisitAlike (told_by_trace m.operations)
    (if k == 0 then Ok (drawn_on Up d (Some headers)) else Err (no_shape.rare p))
    (if tag' == 0 then Ok (traced_on m Up t (Some c)) else Err (no_shape.rare p))) (sym is) (go (tag' == 0)) where
      go : (b : Bool) → VisitAlike (told_by_trace m.operations)
          (if b then Ok (drawn_on Up d (Some headers)) else Err (no_shape.rare p))
          (if b then Ok (traced_on m Up t (Some c)) else Err (no_shape.rare p))
      go true = (λ r. (Up, (kind r, same r)) ∷ [], sym (more_nothing (told_by_trace m.operations)))
      go false = refl
unhandled_alike p m dir d t tag tag' None (Some c) kind is same = absurd (cc same)
unhandled_alike p m dir d t tag tag' (Some headers) None kind is same = absurd (cc same)

own_alike : (headers : Option (List DrawnHeader)) (c : Option Chained) → header_tags headers ≡ chain_tags c →
    map drawn_tags (option_to_list (option_map chained headers)) ≡
    map named_tags (option_to_list (option_map named_chain c))
own_alike None None same = refl
own_alike (Some headers) (Some c) same = λ r. same r ∷ []
own_alike None (Some c) same = absurd (cc same)
own_alike (Some headers) None same = absurd (cc same)

way_alike : (layer : LayerTree) (p : ℕ) (m : Made) (w : Option (List Step)) (d : Drawing) (l : Names) →
    map drawn_tags d.scope ≡ map named_tags l.messages → d.sent ≡ [] →
    VisitAlike (told_by_trace m.operations) (drawn_way p w d) (traced_way layer p m w l)
way_alike layer p m None d l same none = refl
way_alike layer p m (Some steps) d l same none =
    go (draw_steps p steps d) (trace_steps layer p steps y)
    (steps_alike layer p steps d y (same, ap (map drawn_sent) none)) where
      y : Tracing
      y = record { made = m; names = l; sent = [] }

      go : (r : Result Drawing NoShape) (q : Result Tracing NoShape) →
          StepAlike (more (told_by_trace m.operations) (way_length steps)) r q →
          VisitAlike (told_by_trace m.operations)
          (drawn_from (λ e. Ok (record { sent = e.sent; length = way_length steps })) r)
          (drawn_from (λ z. Ok (record { made = z.made; sent = z.sent })) q)
      go (Err r) (Err q) same = same
      go (Ok e) (Ok z) same = (same.0.1, sym same.1)
      go (Err r) (Ok z) same = absurd same
      go (Ok e) (Err q) same = absurd same

handled_alike : (case : Case) (layer : LayerTree) (p : ℕ) (m : Made) (x : Option HandlerTree) (dir : Dir)
    (d : DrawnEvent) (t : TracedEvent) (dm : DrawnMet)
    (tm : TracedMet) →
    d.kind ≡ t.kind → MetAlike dm tm →
    VisitAlike (told_by_trace m.operations) (drawn_handled case p x dir d dm) (traced_handled case layer p m x dir t tm)
handled_alike case layer p m None dir d t dm tm kind met = unhandled_alike p m dir d t dm.tag tm.tag dm.headers
    tm.message kind met.tag met.tags
handled_alike case layer p m (Some x) dir d t dm tm kind met =
    way_alike layer p m (handler_way case x) (drawn_entered x dm.headers) (traced_entered x t tm)
    (map_room drawn_tags x.messages (chained []) _
    ∙ ap (with_room x.messages (Some [])) (own_alike dm.headers tm.message met.tags)
    ∙ sym (map_room named_tags x.messages no_message _)) refl

pub visit_alike : (case : Case) (layer : LayerTree) (p : ℕ) (m : Made) (dir : Dir) (d : DrawnEvent) (t : TracedEvent) →
    drawn_outline d ≡ traced_outline t →
    VisitAlike (told_by_trace m.operations) (drawn_visit case p layer dir d) (traced_visit case layer p m dir t)
visit_alike case layer p m dir d t same =
    let kind = ap (λ x. x.0) same in
    let met = met_alike dir d.headers t.message (ap (λ x. x.1) same) in
    let chosen : handler_for layer dir d.kind (drawn_met dir d.headers).tag ≡
    handler_for layer dir t.kind (traced_met dir t.message).tag =
    λ r. handler_for layer dir (kind r) (met.tag r) in
    subst (λ x. VisitAlike (told_by_trace m.operations)
    (drawn_handled case p (handler_for layer dir d.kind (drawn_met dir d.headers).tag) dir d
    (drawn_met dir d.headers))
    (traced_handled case layer p m x dir t (traced_met dir t.message)))
    chosen (handled_alike case layer p m (handler_for layer dir d.kind (drawn_met dir d.headers).tag) dir d t
    (drawn_met dir d.headers)
    (traced_met dir t.message) kind met)
