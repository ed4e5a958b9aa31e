-- How many decisions a visit has: as many as its handler's way, where all go as predicted, and more than go so before
-- the first that doesn't.
use Rattle.std.proofs.Common.{◌≡◌, ◌∙◌, ℕ, suc, ◌+◌, ◌-◌, ◌<◌, ◌≤◌, Bool, true, false, not, ◌&&◌, List, [], ◌∷◌, ◌++◌}
use Rattle.std.proofs.Common.{length, Option, Some, None, refl, sym, ap, subst, arith}
use Rattle.std.specs.Prelude.{cond, filter, if◌then◌else◌, nat_lt, ◌==◌, Result, Ok, Err}
use Rattle.std.specs.List.{fold, list_all, prefix_len}
use Rattle.std.specs.Option.{option_and_then, option_map_or}
use Rattle.std.proofs.lemmas.Bool.{and_parts, ltb-true}
use Rattle.std.proofs.lemmas.List.{length-append}
use Rattle.std.proofs.lemmas.List.Elements.{filter-append}
use Rattle.std.proofs.lemmas.List.Sums.{length-filter}
use Rattle.msg_core.specs.Chain.{Content}
use Rattle.msg_core.specs.declared.message.Header.{Header}
use Rattle.layer_words.specs.declared.sorts.Likely.TheVariants as likely
use Rattle.layer_words.specs.declared.events.Dir.{Dir}
use Rattle.layer_words.specs.declared.events.Dir.TheVariants.{Up, Down}
use Rattle.layer_mean.specs.declared.run.Case.{Case}
use Rattle.layer_mean.specs.declared.run.Case.TheVariants.{First, Second}
use Rattle.layer_mean.specs.declared.run.Event.{Event}
use Rattle.layer_mean.specs.declared.run.Row.{Row}
use Rattle.layer_mean.specs.Tree.{StatementTree, bind, assign, assign_square, push, take, branch, each, emit}
use Rattle.layer_mean.specs.Tree.{StatementTrees, none, more, Expected, always, common, rare, HandlerTree, LayerTree}
use Rattle.layer_mean.specs.State.{State, has_room, row_at, with_row, without_front}
use Rattle.layer_mean.specs.Value.{Scope, is_true, val}
use Rattle.layer_mean.specs.Effect.{Decision, usual, unusual, forked, went_as, first_missed, Outcome, after, done}
use Rattle.layer_mean.specs.Effect.{decides, in_order, does, acts, chosen_outcome, taking, with_taken, row_of}
use Rattle.layer_mean.specs.Visit.{Met, met, handler_for, entered_scope, sent_on, unhandled_visit, expecting}
use Rattle.layer_mean.specs.Visit.{handled_visit, step}
use Rattle.layer_mean.specs.Way as steps
use Rattle.layer_mean.specs.Way.{way, ways, expected_way, handler_way}
use Rattle.stack_mean.specs.NoShape.{NoShape}
use Rattle.stack_mean.specs.NoShape as no_shape
use Rattle.stack_mean.specs.Drawn.{DrawnHeader, DrawnEvent, Drawing, DrawnVisit, DrawnMet, drawn_met, drawn_on}
use Rattle.stack_mean.specs.Drawn.{drawn_unhandled, drawn_entered, drawn_way, drawn_handled, drawn_visit}
use Rattle.stack_mean.specs.Shape.{first_tag}
use Rattle.shape_laws.specs.Known.{HeadersAre, MessageIs, EventIs}
use Rattle.shape_laws.proofs.Predicted.{AllAs}
use Rattle.miss_mean.specs.Spots.{popped_tag}
use Rattle.replay_laws.specs.Missed.{is_decision, way_decisions}

-- decisions that are this many, as far as they go as predicted: once one doesn't, nothing is said of those after it
abbrev pub Counts : Case → List Decision → ℕ → Type 0
Counts case [] d = d ≡ 0
Counts case (x ∷ ds) d = (1 ≤ d) × (went_as case x ≡ true → Counts case ds (d - 1))

and_true : (x y : Bool) → x ≡ true → y ≡ true → (x && y) ≡ true
and_true true true p q = refl
and_true true false p q = q
and_true false y p q = absurd (cc p)

pub counts_both : (case : Case) (ds es : List Decision) (d e : ℕ) → Counts case ds d →
    (AllAs case ds → Counts case es e) →
    Counts case (ds ++ es) (d + e)
counts_both case [] es d e h k =
    let same : e ≡ d + e = omega (arith, h) in
    subst (Counts case es) same (k refl)
counts_both case (x ∷ ds) es d e h k = (
  omega (arith, h.0),
  (λ went.
      let same : d - 1 + e ≡ d + e - 1 = omega (arith, h.0) in
      subst (Counts case (ds ++ es)) same
      (counts_both case ds es (d - 1) e (h.1 went)
      (λ all. k (and_true (went_as case x) (list_all (went_as case) ds) went all)))),
)

-- one decision before others
counts_one : (case : Case) (x : Decision) (ds : List Decision) (n : ℕ) → (went_as case x ≡ true → Counts case ds n) →
    Counts case (x ∷ ds) (suc n)
counts_one case x ds n h = (
  omega arith,
  (λ went. let same : n ≡ suc n - 1 = omega arith in subst (Counts case ds) same (h went)),
)

-- all, and the first that doesn't go as predicted

pub counts_all : (case : Case) (ds : List Decision) (d : ℕ) → Counts case ds d → AllAs case ds → length ds ≡ d
counts_all case [] d h all = sym h
counts_all case (x ∷ ds) d h all =
    let parts = and_parts (went_as case x) (list_all (went_as case) ds) all in
    omega (arith, h.0, counts_all case ds (d - 1) (h.1 parts.0) parts.1)

leading : (case : Case) (ds : List Decision) (d : ℕ) → Counts case ds d →
    prefix_len (λ x. not (not (went_as case x))) ds < length ds → prefix_len (λ x. not (not (went_as case x))) ds < d
leading case [] d h less = absurd (omega (arith, less))
leading case (x ∷ ds) d h less = go (went_as case x) refl less (leading case ds (d - 1)) where
  n : ℕ
  n = prefix_len (λ x. not (not (went_as case x))) ds

  go : (b : Bool) → went_as case x ≡ b → cond (not (not b)) (1 + n) 0 < suc (length ds) →
      (Counts case ds (d - 1) → n < length ds → n < d - 1) →
      cond (not (not b)) (1 + n) 0 < d
  go true went less rest =
      let fewer : n < length ds = omega (arith, less) in
      omega (arith, rest (h.1 went) fewer)
  go false went less rest = omega (arith, h.0)

pub counts_missed : (case : Case) (ds : List Decision) (d n : ℕ) → Counts case ds d → first_missed case ds ≡ Some n →
    n < d
counts_missed case ds d n h is = go (nat_lt (prefix_len (λ x. not (not (went_as case x))) ds) (length ds)) refl is where
  m : ℕ
  m = prefix_len (λ x. not (not (went_as case x))) ds

  go : (b : Bool) → nat_lt m (length ds) ≡ b → cond b (Some m) None ≡ Some n → n < d
  go true less is =
      let same : m ≡ n = cc is in
      let below : m < length ds = ltb-true m (length ds) less in
      omega (arith, leading case ds d h below, same)
  go false less is = absurd (cc is)

-- ways

abbrev pub decisions : List steps.Step → ℕ
decisions xs = length (filter is_decision xs)

pub decisions_append : (xs ys : List steps.Step) → decisions (xs ++ ys) ≡ decisions xs + decisions ys
decisions_append xs ys = ap length (filter-append is_decision xs ys) ∙
    length-append (filter is_decision xs) (filter is_decision ys)

false_true : {A : Type 0} → false ≡ true → A
false_true e = absurd (cc e)

module _ (case : Case) (place : ℕ) where
  push_counts : (room : Bool) (o other : Outcome) → o.decided ≡ [] →
      Counts case (if room then decides usual o else decides unusual other).decided 1
  push_counts true o other undecided =
      counts_one case usual o.decided 0 (λ _. subst (λ ds. Counts case ds 0) (sym undecided) refl)
  push_counts false o other undecided = counts_one case unusual other.decided 0 (λ e. false_true e)

  taking_counts : (n : ℕ) (row : Option Row) (first : Row → Outcome) (second : Outcome) →
      ((r : Row) → Counts case (first r).decided n) →
      Counts case (taking row first second).decided (suc n)
  taking_counts n (Some r) first second h = counts_one case usual (first r).decided n (λ _. h r)
  taking_counts n None first second h = counts_one case unusual second.decided n (λ e. false_true e)

  first_counts : (n : ℕ) (b : Bool) (first second : Outcome) → Counts case first.decided n →
      Counts case (chosen_outcome b likely.First first second).decided (suc n)
  first_counts n true first second h = counts_one case usual first.decided n (λ _. h)
  first_counts n false first second h = counts_one case unusual second.decided n (λ e. false_true e)

  else_counts : (n : ℕ) (b : Bool) (first second : Outcome) → Counts case second.decided n →
      Counts case (chosen_outcome b likely.Else first second).decided (suc n)
  else_counts n true first second h = counts_one case unusual first.decided n (λ e. false_true e)
  else_counts n false first second h = counts_one case usual second.decided n (λ _. h)

fork_first : (n : ℕ) (b : Bool) (first second : Outcome) → Counts First first.decided n →
    Counts First (chosen_outcome b likely.Two first second).decided (suc n)
fork_first n true first second h = counts_one First (forked First) first.decided n (λ _. h)
fork_first n false first second h = counts_one First (forked Second) second.decided n (λ e. false_true e)

fork_second : (n : ℕ) (b : Bool) (first second : Outcome) → Counts Second second.decided n →
    Counts Second (chosen_outcome b likely.Two first second).decided (suc n)
fork_second n true first second h = counts_one Second (forked First) first.decided n (λ e. false_true e)
fork_second n false first second h = counts_one Second (forked Second) second.decided n (λ _. h)

-- what counts from nothing on
from_zero : (case : Case) (ds : List Decision) (n : ℕ) → Counts case ds (0 + n) → Counts case ds n
from_zero case ds n h = let same : 0 + n ≡ n = omega arith in subst (Counts case ds) same h

mutual
  does_counts : (case : Case) (place : ℕ) (x : StatementTree) (s : State) (l : Scope) →
      Counts case (does place x s l).decided (decisions (way case x))
  does_counts case place (bind k e) s l = refl
  does_counts case place (assign c i e) s l = refl
  does_counts case place (assign_square c row column e) s l = refl
  does_counts case place (push c i capacity row otherwise) s l =
      push_counts case place (has_room s c (val i s l) capacity)
      (done (with_row s c (val i s l) (row_of row s l)) l) (in_order (acts place otherwise) s l) refl
  does_counts case place (take c i taken block otherwise) s l = taking_counts case place (decisions (ways case block))
      (row_at s c (val i s l) 0)
      (λ row. in_order (acts place block) (without_front s c (val i s l)) (with_taken taken row l))
      (in_order (acts place otherwise) s l)
      (λ row. from_zero case _ _
      (acts_count case place block (done (without_front s c (val i s l)) (with_taken taken row l)) 0 refl))
  does_counts case place (branch likely.First e block otherwise) s l =
      first_counts case place (decisions (ways case block)) (is_true (val e s l))
      (in_order (acts place block) s l) (in_order (acts place otherwise) s l)
      (from_zero case _ _ (acts_count case place block (done s l) 0 refl))
  does_counts case place (branch likely.Else e block otherwise) s l =
      else_counts case place (decisions (ways case otherwise)) (is_true (val e s l))
      (in_order (acts place block) s l) (in_order (acts place otherwise) s l)
      (from_zero case _ _ (acts_count case place otherwise (done s l) 0 refl))
  does_counts First place (branch likely.Two e block otherwise) s l =
      fork_first (decisions (ways First block)) (is_true (val e s l))
      (in_order (acts place block) s l) (in_order (acts place otherwise) s l)
      (from_zero First _ _ (acts_count First place block (done s l) 0 refl))
  does_counts Second place (branch likely.Two e block otherwise) s l =
      fork_second (decisions (ways Second otherwise)) (is_true (val e s l))
      (in_order (acts place block) s l) (in_order (acts place otherwise) s l)
      (from_zero Second _ _ (acts_count Second place otherwise (done s l) 0 refl))
  does_counts case place (each k below most block) s l = counts_one case unusual _ 0 (λ e. false_true e)
  does_counts case place (emit e) s l = refl

  acts_count : (case : Case) (place : ℕ) (xs : StatementTrees) (o : Outcome) (d : ℕ) → Counts case o.decided d →
      Counts case (fold after o (acts place xs)).decided (d + decisions (ways case xs))
  acts_count case place none o d h = let same : d ≡ d + 0 = omega arith in subst (Counts case o.decided) same h
  acts_count case place (more x rest) o d h =
      let p = does place x o.state o.scope in
      let same : d + decisions (way case x) + decisions (ways case rest) ≡
      d + decisions (way case x ++ ways case rest) =
      omega (arith, decisions_append (way case x) (ways case rest)) in
      subst (Counts case (fold after (after o (does place x)) (acts place rest)).decided) same
      (acts_count case place rest (after o (does place x)) (d + decisions (way case x))
      (counts_both case o.decided p.decided d (decisions (way case x)) h
      (λ _. does_counts case place x o.state o.scope)))

block_counts : (case : Case) (place : ℕ) (xs : StatementTrees) (s : State) (l : Scope) →
    Counts case (in_order (acts place xs) s l).decided (decisions (ways case xs))
block_counts case place xs s l = from_zero case _ _ (acts_count case place xs (done s l) 0 refl)

-- visits

common_counts : (case : Case) (n : ℕ) (b : Bool) (o : Outcome) → Counts case o.decided n →
    Counts case (if b then decides usual o else decides unusual o).decided (suc n)
common_counts case n true o h = counts_one case usual o.decided n (λ _. h)
common_counts case n false o h = counts_one case unusual o.decided n (λ e. false_true e)

expected_counts : (case : Case) (x : Expected) (xs taken : List steps.Step) (s : State) (l : Scope) (o : Outcome) →
    Counts case o.decided (decisions xs) →
    expected_way x xs ≡ Some taken → Counts case (expecting x s l o).decided (decisions taken)
expected_counts case always xs taken s l o h is =
    let same : xs ≡ taken = cc is in
    subst (λ ys. Counts case o.decided (decisions ys)) same h
expected_counts case (common e) xs taken s l o h is =
    let same : steps.test true e ∷ xs ≡ taken = cc is in
    subst (λ ys. Counts case (if is_true (val e s l) then decides usual o else decides unusual o).decided
    (decisions ys)) same
    (common_counts case (decisions xs) (is_true (val e s l)) o h)
expected_counts case rare xs taken s l o h is = absurd (cc is)

-- what can be drawn
abbrev pub IsDrawn : Result DrawnVisit NoShape → Type 0
IsDrawn (Ok v) = Unit {0}
IsDrawn (Err reason) = ⊥

-- the decisions of what is met
abbrev met_decisions : Case → Option HandlerTree → ℕ
met_decisions case h = way_decisions (option_and_then (handler_way case) h)

way_counts : (case : Case) (place : ℕ) (h : HandlerTree) (s : State) (l : Scope) (d : Drawing)
    (w : Option (List steps.Step)) → handler_way case h ≡ w →
    IsDrawn (drawn_way place w d) → Counts case (expecting h.expected s l (in_order (acts place h.block) s l)).decided
    (way_decisions w)
way_counts case place h s l d None is drawn = absurd drawn
way_counts case place h s l d (Some taken) is drawn =
    subst (Counts case (expecting h.expected s l (in_order (acts place h.block) s l)).decided)
    (length-filter is_decision taken)
    (expected_counts case h.expected (ways case h.block) taken s l (in_order (acts place h.block) s l)
    (block_counts case place h.block s l) is)

unhandled_counts : (case : Case) (place : ℕ) (s : State) (dir : Dir) (e : Event) (d : DrawnEvent) (tag : ℕ) (m : Met)
    (headers : Option (List DrawnHeader)) (content : Option Content) → tag ≡ m.tag → MessageIs headers content →
    IsDrawn (drawn_unhandled place dir d tag headers) → Counts case (unhandled_visit place s dir e m content).decided 0
unhandled_counts case place s dir e d tag m None None same is drawn = refl
unhandled_counts case place s Down e d tag m (Some headers) (Some c) same is drawn = refl
unhandled_counts case place s Up e d tag m (Some headers) (Some c) same is drawn = go (m.tag == 0) (subst
    (λ t. IsDrawn (if t == 0 then Ok (drawn_on Up d (Some headers)) else Err (no_shape.rare place))) same drawn)
  where
    go : (b : Bool) → IsDrawn (if b then Ok (drawn_on Up d (Some headers)) else Err (no_shape.rare place)) →
        Counts case (if b then sent_on s Up e (Some c) else record
        { state = s; sent = []; decided = unusual ∷ [] }).decided 0
    go true drawn = refl
    go false drawn = absurd drawn
unhandled_counts case place s dir e d tag m None (Some c) same is drawn = absurd is
unhandled_counts case place s dir e d tag m (Some headers) None same is drawn = absurd is

handled_counts : (case : Case) (place : ℕ) (h : Option HandlerTree) (s : State) (dir : Dir) (e : Event) (d : DrawnEvent)
    (dm : DrawnMet) (m : Met) →
    dm.tag ≡ m.tag → MessageIs dm.headers m.message → IsDrawn (drawn_handled case place h dir d dm) →
    Counts case (handled_visit place h s dir e m).decided (met_decisions case h)
handled_counts case place None s dir e d dm m same is drawn = unhandled_counts case place s dir e d dm.tag m dm.headers
    m.message same is drawn
handled_counts case place (Some h) s dir e d dm m same is drawn =
    way_counts case place h s (entered_scope h e m) (drawn_entered h dm.headers) (handler_way case h) refl drawn

-- what is met on arrival, drawn and in a run
record MetSame (d : DrawnMet) (m : Met) : Type 0 where
  tag : d.tag ≡ m.tag
  message : MessageIs d.headers m.message

met_same : (dir : Dir) (headers : Option (List DrawnHeader)) (m : Option Content) → MessageIs headers m →
    MetSame (drawn_met dir headers) (met dir m)
met_same dir None None h = record { tag = refl; message = tt }
met_same Up (Some headers) (Some m) h = go headers m.headers h where
  go : (ds : List DrawnHeader) (hs : List Header) → HeadersAre ds hs →
      MetSame (drawn_met Up (Some ds)) (met Up (Some (record { headers = hs; body = m.body })))
  go [] [] h = record { tag = refl; message = tt }
  go (d ∷ ds) (x ∷ hs) h = record { tag = h.0.tag; message = h.1 }
  go [] (x ∷ hs) h = absurd h
  go (d ∷ ds) [] h = absurd h
met_same Down (Some headers) (Some m) h = record { tag = refl; message = h }
met_same dir None (Some m) h = absurd h
met_same dir (Some headers) None h = absurd h

-- the tag that is popped of what is drawn
popped_same : (dir : Dir) (headers : Option (List DrawnHeader)) →
    (drawn_met dir headers).tag ≡ popped_tag dir (first_tag (option_map_or (λ hs. hs) headers []))
popped_same Up None = refl
popped_same Down None = refl
popped_same Up (Some []) = refl
popped_same Up (Some (h ∷ hs)) = refl
popped_same Down (Some headers) = refl

-- the decisions of the visit of a layer by a drawn event
abbrev pub event_decisions : Case → LayerTree → Dir → DrawnEvent → ℕ
event_decisions case layer dir d =
    met_decisions case (handler_for layer dir d.kind
    (popped_tag dir (first_tag (option_map_or (λ hs. hs) d.headers []))))

pub visit_counts : (case : Case) (place : ℕ) (layer : LayerTree) (s : State) (dir : Dir) (e : Event) (d : DrawnEvent) →
    EventIs d e →
    IsDrawn (drawn_visit case place layer dir d) →
    Counts case (step place layer s dir e).decided (event_decisions case layer dir d)
unfolding step
visit_counts case place layer s dir e d same drawn =
    let m = met_same dir d.headers e.message same.message in
    let chosen_same : handler_for layer dir d.kind (drawn_met dir d.headers).tag ≡
    handler_for layer dir e.kind (met dir e.message).tag =
    λ i. handler_for layer dir (same.kind i) (m.tag i) in
    let popped : handler_for layer dir d.kind (drawn_met dir d.headers).tag
    ≡ handler_for layer dir d.kind (popped_tag dir (first_tag (option_map_or (λ hs. hs) d.headers []))) =
    ap (handler_for layer dir d.kind) (popped_same dir d.headers) in
    subst (Counts case (handled_visit place (handler_for layer dir e.kind (met dir e.message).tag) s dir e
    (met dir e.message)).decided)
    (ap (met_decisions case) (sym chosen_same ∙ popped))
    (handled_counts case place (handler_for layer dir e.kind (met dir e.message).tag) s dir e d
    (drawn_met dir d.headers) (met dir e.message) m.tag
    m.message
    (subst (λ h. IsDrawn (drawn_handled case place h dir d (drawn_met dir d.headers))) chosen_same drawn))
