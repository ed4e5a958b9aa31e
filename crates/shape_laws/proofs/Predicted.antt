-- What goes as predicted is what walking the predicted way does.
use Rattle.std.proofs.Common.{◌≡◌, ℕ, Bool, true, false, List, [], ◌∷◌, ◌++◌, Option, Some, None, refl, sym, ap, ◌∙◌}
use Rattle.std.specs.Prelude.{if◌then◌else◌}
use Rattle.std.specs.List.{fold}
use Rattle.layer_words.specs.declared.events.Dir.{Dir}
use Rattle.layer_words.specs.declared.sorts.Likely.TheVariants as likely
use Rattle.layer_mean.specs.declared.run.Case.{Case}
use Rattle.layer_mean.specs.declared.run.Case.TheVariants.{First, Second}
use Rattle.layer_mean.specs.declared.run.Event.{Event}
use Rattle.layer_mean.specs.declared.run.Row.{Row}
use Rattle.layer_mean.specs.Tree.{ExpressionTree, StatementTree, bind, assign, assign_square, push, take, branch, each}
use Rattle.layer_mean.specs.Tree.{emit, StatementTrees, none, more, Expected, always, common, rare, HandlerTree}
use Rattle.layer_mean.specs.Tree.{TakenTree}
use Rattle.layer_mean.specs.State.{State, has_room, row_at, without_front}
use Rattle.layer_mean.specs.Value.{Scope, is_true, val}
use Rattle.layer_mean.specs.Effect.{Decision, usual, unusual, forked, all_as, Outcome, Act, after, done, decides}
use Rattle.layer_mean.specs.Effect.{in_order, does, acts, chosen_outcome, taking, with_taken}
use Rattle.layer_mean.specs.Visit.{expecting}
use Rattle.layer_mean.specs.Way.{Step, fork, way, ways, expected_way, handler_way}
use Rattle.shape_laws.specs.Walk.{Here, onward, walk_step, walk, took}
use Rattle.std.proofs.lemmas.List.{append-nil, append_assoc}

-- whether all that was decided is as predicted in a case
abbrev pub AllAs : Case → List Decision → Type 0
AllAs case ds = all_as case ds ≡ true

pub usual_parts : (case : Case) (xs ys : List Decision) → AllAs case (xs ++ ys) → AllAs case xs × AllAs case ys
usual_parts case [] ys h = (refl, h)
usual_parts case (usual ∷ xs) ys h = usual_parts case xs ys h
usual_parts case (unusual ∷ xs) ys h = absurd (cc h)
usual_parts First (forked First ∷ xs) ys h = usual_parts First xs ys h
usual_parts First (forked Second ∷ xs) ys h = absurd (cc h)
usual_parts Second (forked First ∷ xs) ys h = absurd (cc h)
usual_parts Second (forked Second ∷ xs) ys h = usual_parts Second xs ys h

folded : (case : Case) (fs : List Act) (o : Outcome) → AllAs case (fold after o fs).decided → AllAs case o.decided
folded case [] o h = h
folded case (a ∷ fs) o h = (usual_parts case o.decided (a o.state o.scope).decided (folded case fs (after o a) h)).0

-- what an outcome is after what was sent before
abbrev pub here : List (Dir × Event) → Outcome → Here
here pre o = record { state = o.state; scope = o.scope; sent = pre ++ o.sent }

abbrev pub start : List (Dir × Event) → State → Scope → Here
start pre s l = record { state = s; scope = l; sent = pre }

onward_twice : (f g : Here → Option Here) (w : Option Here) → onward g (onward f w) ≡ onward (λ h. onward g (f h)) w
onward_twice f g None = refl
onward_twice f g (Some h) = refl

onward_same : (f g : Here → Option Here) → ((h : Here) → f h ≡ g h) → (w : Option Here) → onward f w ≡ onward g w
onward_same f g same None = refl
onward_same f g same (Some h) = same h

walk_both : (place : ℕ) (xs ys : List Step) (h : Here) →
    walk place (xs ++ ys) h ≡ onward (walk place ys) (walk place xs h)
walk_both place [] ys h = refl
walk_both place (x ∷ xs) ys h =
    onward_same (walk place (xs ++ ys)) (λ g. onward (walk place ys) (walk place xs g)) (λ g. walk_both place xs ys g)
    (walk_step place x h)
    ∙ sym (onward_twice (walk place xs) (walk place ys) (walk_step place x h))

-- nothing sent: the same place
unsent : (pre : List (Dir × Event)) (s : State) (l : Scope) → Some (start pre s l) ≡ Some (start (pre ++ []) s l)
unsent pre s l = ap (λ x. Some (start x s l)) (sym (append-nil pre))

-- a walk that went on from where it stood
on_from : (f : Here → Option Here) (w : Option Here) (h : Here) (x : Option Here) → w ≡ Some h → f h ≡ x →
    onward f w ≡ x
on_from f w h x at next = ap (onward f) at ∙ next

abbrev Block : Case → ℕ → List Step → List Act → Type 0
Block case place steps fs = (o : Outcome) (pre : List (Dir × Event)) → AllAs case (fold after o fs).decided →
    walk place steps (here pre o) ≡ Some (here pre (fold after o fs))

abbrev Goes : Case → ℕ → StatementTree → Type 0
Goes case place x = (s : State) (l : Scope) (pre : List (Dir × Event)) → AllAs case (does place x s l).decided →
    walk place (way case x) (start pre s l) ≡ Some (here pre (does place x s l))

-- a block from a place at which nothing was sent yet
from_start : (case : Case) (place : ℕ) (steps : List Step) (fs : List Act) → Block case place steps fs →
    (s : State) (l : Scope) (pre : List (Dir × Event)) → AllAs case (in_order fs s l).decided →
    walk place steps (start pre s l) ≡ Some (here pre (in_order fs s l))
from_start case place steps fs block s l pre h =
    ap (λ x. walk place steps (start x s l)) (sym (append-nil pre)) ∙ block (done s l) pre h

push_goes : (case : Case) (place : ℕ) (room : Bool) (t : State) (l : Scope) (pre : List (Dir × Event))
    (other : Outcome) →
    AllAs case (if room then decides usual (done t l) else decides unusual other).decided →
    onward (walk place []) (if room then Some (start pre t l) else None) ≡
    Some (here pre (if room then decides usual (done t l) else decides unusual other))
push_goes case place true t l pre other h = unsent pre t l
push_goes case place false t l pre other h = absurd (cc h)

first_goes : (case : Case) (place : ℕ) (steps : List Step) (st : Here) (pre : List (Dir × Event)) (b : Bool)
    (first second : Outcome) →
    (AllAs case first.decided → walk place steps st ≡ Some (here pre first)) →
    AllAs case (chosen_outcome b likely.First first second).decided →
    onward (walk place steps) (if b then Some st else None) ≡
    Some (here pre (chosen_outcome b likely.First first second))
first_goes case place steps st pre true first second leads h = leads h
first_goes case place steps st pre false first second leads h = absurd (cc h)

else_goes : (case : Case) (place : ℕ) (steps : List Step) (st : Here) (pre : List (Dir × Event)) (b : Bool)
    (first second : Outcome) →
    (AllAs case second.decided → walk place steps st ≡ Some (here pre second)) →
    AllAs case (chosen_outcome b likely.Else first second).decided →
    onward (walk place steps) (if b then None else Some st) ≡
    Some (here pre (chosen_outcome b likely.Else first second))
else_goes case place steps st pre false first second leads h = leads h
else_goes case place steps st pre true first second leads h = absurd (cc h)

-- the block that a condition with two predicted ways takes in a case
abbrev in_case : Case → Outcome → Outcome → Outcome
in_case First first second = first
in_case Second first second = second

fork_goes : (case : Case) (place : ℕ) (e : ExpressionTree) (steps : List Step) (s : State) (l : Scope)
    (pre : List (Dir × Event))
    (first second : Outcome) →
    (AllAs case (in_case case first second).decided → walk place steps (start pre s l) ≡
    Some (here pre (in_case case first second))) →
    AllAs case (chosen_outcome (is_true (val e s l)) likely.Two first second).decided →
    onward (walk place steps) (walk_step place (fork case e) (start pre s l)) ≡
    Some (here pre (chosen_outcome (is_true (val e s l)) likely.Two first second))
fork_goes First place e steps s l pre first second leads h = go (is_true (val e s l)) h where
  go : (b : Bool) → AllAs First (chosen_outcome b likely.Two first second).decided →
      onward (walk place steps) (if b then Some (start pre s l) else None) ≡
      Some (here pre (chosen_outcome b likely.Two first second))
  go true h = leads h
  go false h = absurd (cc h)
fork_goes Second place e steps s l pre first second leads h = go (is_true (val e s l)) h where
  go : (b : Bool) → AllAs Second (chosen_outcome b likely.Two first second).decided →
      onward (walk place steps) (if b then None else Some (start pre s l)) ≡
      Some (here pre (chosen_outcome b likely.Two first second))
  go true h = absurd (cc h)
  go false h = leads h

take_goes : (case : Case) (place : ℕ) (steps : List Step) (c i : ℕ) (taken : TakenTree) (s : State) (l : Scope)
    (pre : List (Dir × Event))
    (row : Option Row) (first : Row → Outcome) (second : Outcome) →
    ((r : Row) → AllAs case (first r).decided →
    walk place steps (start pre (without_front s c i) (with_taken taken r l)) ≡ Some (here pre (first r))) →
    AllAs case (taking row first second).decided →
    onward (walk place steps) (took c i taken (start pre s l) row) ≡ Some (here pre (taking row first second))
take_goes case place steps c i taken s l pre (Some r) first second leads h = leads r h
take_goes case place steps c i taken s l pre None first second leads h = absurd (cc h)

mutual
  pub statement_goes : (case : Case) (place : ℕ) (x : StatementTree) → Goes case place x
  statement_goes case place (bind k e) s l pre h = unsent pre s _
  statement_goes case place (assign c i e) s l pre h = unsent pre _ l
  statement_goes case place (assign_square c row column e) s l pre h = unsent pre _ l
  statement_goes case place (push c i capacity row otherwise) s l pre h =
      push_goes case place (has_room s c (val i s l) capacity) _ l pre _ h
  statement_goes case place (take c i taken block otherwise) s l pre h =
      take_goes case place (ways case block) c (val i s l) taken s l pre (row_at s c (val i s l) 0) _ _
      (λ r. from_start case place (ways case block) (acts place block) (block_goes case place block)
      (without_front s c (val i s l)) (with_taken taken r l) pre) h
  statement_goes case place (branch likely.First e block otherwise) s l pre h =
      first_goes case place (ways case block) (start pre s l) pre (is_true (val e s l)) _ _
      (from_start case place (ways case block) (acts place block) (block_goes case place block) s l pre) h
  statement_goes case place (branch likely.Else e block otherwise) s l pre h =
      else_goes case place (ways case otherwise) (start pre s l) pre (is_true (val e s l)) _ _
      (from_start case place (ways case otherwise) (acts place otherwise) (block_goes case place otherwise) s l pre) h
  statement_goes First place (branch likely.Two e block otherwise) s l pre h =
      fork_goes First place e (ways First block) s l pre _ _
      (from_start First place (ways First block) (acts place block) (block_goes First place block) s l pre) h
  statement_goes Second place (branch likely.Two e block otherwise) s l pre h =
      fork_goes Second place e (ways Second otherwise) s l pre _ _
      (from_start Second place (ways Second otherwise) (acts place otherwise) (block_goes Second place otherwise) s l
      pre) h
  statement_goes case place (each k below most block) s l pre h = absurd (cc h)
  statement_goes case place (emit e) s l pre h = refl

  pub block_goes : (case : Case) (place : ℕ) (x : StatementTrees) → Block case place (ways case x) (acts place x)
  block_goes case place none o pre h = refl
  block_goes case place (more x rest) o pre h =
      let p = does place x o.state o.scope in
      let parts = usual_parts case o.decided p.decided (folded case (acts place rest) (after o (does place x)) h) in
      let first : walk place (way case x) (here pre o) ≡ Some (here pre (after o (does place x))) =
      statement_goes case place x o.state o.scope (pre ++ o.sent) parts.1
      ∙ ap (λ sent. Some (record { state = p.state; scope = p.scope; sent = sent })) (append_assoc pre o.sent p.sent) in
      walk_both place (way case x) (ways case rest) (here pre o)
      ∙ on_from (walk place (ways case rest)) (walk place (way case x) (here pre o)) (here pre (after o (does place x)))
      _ first
      (block_goes case place rest (after o (does place x)) pre h)

-- what a handler's way gives, where it has one
abbrev pub Went : ℕ → Option (List Step) → State → Scope → Outcome → Type 0
Went place None s l o = ⊥
Went place (Some steps) s l o = walk place steps (start [] s l) ≡ Some (here [] o)

common_goes : (case : Case) (place : ℕ) (steps : List Step) (s : State) (l : Scope) (b : Bool) (o : Outcome) →
    (AllAs case o.decided → walk place steps (start [] s l) ≡ Some (here [] o)) →
    AllAs case (if b then decides usual o else decides unusual o).decided →
    onward (walk place steps) (if b then Some (start [] s l) else None) ≡
    Some (here [] (if b then decides usual o else decides unusual o))
common_goes case place steps s l true o leads h = leads h
common_goes case place steps s l false o leads h = absurd (cc h)

expected_goes : (case : Case) (place : ℕ) (x : Expected) (steps : List Step) (s : State) (l : Scope) (o : Outcome) →
    (AllAs case o.decided → walk place steps (start [] s l) ≡ Some (here [] o)) →
    AllAs case (expecting x s l o).decided → Went place (expected_way x steps) s l (expecting x s l o)
expected_goes case place always steps s l o leads h = leads h
expected_goes case place (common e) steps s l o leads h = common_goes case place steps s l (is_true (val e s l)) o leads
    h
expected_goes case place rare steps s l o leads h = absurd (cc h)

pub handler_goes : (case : Case) (place : ℕ) (x : HandlerTree) (s : State) (l : Scope) →
    AllAs case (expecting x.expected s l (in_order (acts place x.block) s l)).decided →
    Went place (handler_way case x) s l (expecting x.expected s l (in_order (acts place x.block) s l))
handler_goes case place x s l h = expected_goes case place x.expected (ways case x.block) s l _
    (from_start case place (ways case x.block) (acts place x.block) (block_goes case place x.block) s l []) h
