-- What a visit does and decides is what walking the predicted way does, as far as that goes, with its decisions
-- counted.
use Rattle.std.proofs.Common.{◌≡◌, ℕ, ◌+◌, Bool, true, false, List, [], ◌∷◌, ◌++◌, Option, Some, None, refl, sym, ap}
use Rattle.std.proofs.Common.{◌∙◌}
use Rattle.std.specs.Prelude.{if◌then◌else◌}
use Rattle.std.specs.List.{fold}
use Rattle.std.proofs.lemmas.List.{append-nil, append_assoc}
use Rattle.layer_words.specs.declared.events.Dir.{Dir}
use Rattle.layer_words.specs.declared.sorts.Likely.TheVariants as likely
use Rattle.layer_mean.specs.declared.run.Case.{Case}
use Rattle.layer_mean.specs.declared.run.Case.TheVariants.{First, Second}
use Rattle.layer_mean.specs.declared.run.Event.{Event}
use Rattle.layer_mean.specs.declared.run.Row.{Row}
use Rattle.layer_mean.specs.Tree.{StatementTree, bind, assign, assign_square, push, take, branch, each, emit}
use Rattle.layer_mean.specs.Tree.{StatementTrees, none, more, Expected, always, common, rare, HandlerTree, TakenTree}
use Rattle.layer_mean.specs.State.{State, has_room, row_at, without_front}
use Rattle.layer_mean.specs.Value.{Scope, is_true, val}
use Rattle.layer_mean.specs.Effect.{Decision, usual, unusual, went_as, Outcome, Act, after, done, decides, in_order}
use Rattle.layer_mean.specs.Effect.{does, acts, chosen_outcome, taking, with_taken}
use Rattle.layer_mean.specs.Visit.{expecting}
use Rattle.layer_mean.specs.Way.{Step, test, fork, put, get, way, ways, expected_way, handler_way}
use Rattle.shape_laws.specs.Walk.{Here, walk_step, took}
use Rattle.shape_laws.proofs.Predicted.{here, start}

-- how many decisions were as predicted: all of them, or those before the first that wasn't
pub data Tally : Type 0 where
  all_of : ℕ → Tally
  missed_at : ℕ → Tally

abbrev pub counted : (ℕ → Tally) → Bool → ℕ → Tally
counted go true n = go (n + 1)
counted go false n = missed_at n

abbrev pub tally : Case → List Decision → ℕ → Tally
tally case [] n = all_of n
tally case (d ∷ ds) n = counted (tally case ds) (went_as case d) n

-- a walk goes somewhere with n decisions, or stops after n
pub data Walked : Type 0 where
  went : ℕ → Here → Walked
  missed : ℕ → Walked

abbrev pub told : Tally → Here → Walked
told (all_of n) h = went n h
told (missed_at n) h = missed n

abbrev pub onward : (ℕ → Here → Walked) → Walked → Walked
onward go (went n h) = go n h
onward go (missed n) = missed n

-- whether a step is a decision
abbrev pub decides_it : Step → Bool
decides_it (test wanted e) = true
decides_it (fork case e) = true
decides_it (put c i capacity row) = true
decides_it (get c i taken) = true
decides_it _ = false

abbrev pub one_more : Bool → ℕ → ℕ
one_more true n = n + 1
one_more false n = n

abbrev pub walked_on : (ℕ → Here → Walked) → Bool → ℕ → Option Here → Walked
walked_on go k n None = missed n
walked_on go k n (Some h) = go (one_more k n) h

abbrev pub walk : ℕ → List Step → ℕ → Here → Walked
walk place [] n h = went n h
walk place (x ∷ xs) n h = walked_on (walk place xs) (decides_it x) n (walk_step place x h)

onward_id : (w : Walked) → onward went w ≡ w
onward_id (went n h) = refl
onward_id (missed n) = refl

walked_both : (f g : ℕ → Here → Walked) (k : Bool) (n : ℕ) (w : Option Here) →
    walked_on (λ m h. onward g (f m h)) k n w ≡ onward g (walked_on f k n w)
walked_both f g k n None = refl
walked_both f g k n (Some h) = refl

walked_same : (f g : ℕ → Here → Walked) → ((n : ℕ) (h : Here) → f n h ≡ g n h) → (k : Bool) (n : ℕ) (w : Option Here) →
    walked_on f k n w ≡ walked_on g k n w
walked_same f g same k n None = refl
walked_same f g same k n (Some h) = same (one_more k n) h

pub walk_both : (place : ℕ) (xs ys : List Step) (n : ℕ) (h : Here) →
    walk place (xs ++ ys) n h ≡ onward (walk place ys) (walk place xs n h)
walk_both place [] ys n h = refl
walk_both place (x ∷ xs) ys n h =
    walked_same (walk place (xs ++ ys)) (λ m g. onward (walk place ys) (walk place xs m g)) (walk_both place xs ys)
    (decides_it x) n (walk_step place x h)
    ∙ walked_both (walk place xs) (walk place ys) (decides_it x) n (walk_step place x h)

-- what was decided before, and what is after it
abbrev pub counting_on : (ℕ → Tally) → Tally → Tally
counting_on go (all_of n) = go n
counting_on go (missed_at n) = missed_at n

counted_both : (f g h : ℕ → Tally) (n : ℕ) (b : Bool) → f (n + 1) ≡ counting_on h (g (n + 1)) →
    counted f b n ≡ counting_on h (counted g b n)
counted_both f g h n true same = same
counted_both f g h n false same = refl

pub tally_both : (case : Case) (xs ys : List Decision) (n : ℕ) →
    tally case (xs ++ ys) n ≡ counting_on (tally case ys) (tally case xs n)
tally_both case [] ys n = refl
tally_both case (x ∷ xs) ys n = counted_both (tally case (xs ++ ys)) (tally case xs) (tally case ys) n (went_as case x)
    (tally_both case xs ys (n + 1))

told_on : (t : Tally) (f : ℕ → Tally) (g : ℕ → Here → Walked) (h h' : Here) → ((n : ℕ) → told (f n) h' ≡ g n h) →
    told (counting_on f t) h' ≡ onward g (told t h)
told_on (all_of n) f g h h' same = same n
told_on (missed_at n) f g h h' same = refl

abbrev Block : Case → ℕ → List Step → List Act → Type 0
Block case place steps fs = (o : Outcome) (pre : List (Dir × Event)) (n : ℕ) →
    told (tally case (fold after o fs).decided n) (here pre (fold after o fs)) ≡
    onward (walk place steps) (told (tally case o.decided n) (here pre o))

abbrev Goes : Case → ℕ → StatementTree → Type 0
Goes case place x = (s : State) (l : Scope) (pre : List (Dir × Event)) (n : ℕ) →
    told (tally case (does place x s l).decided n) (here pre (does place x s l)) ≡
    walk place (way case x) n (start pre s l)

-- nothing sent: the same place
unsent : (n : ℕ) (pre : List (Dir × Event)) (s : State) (l : Scope) → went n (start (pre ++ []) s l) ≡
    went n (start pre s l)
unsent n pre s l = ap (λ x. went n (start x s l)) (append-nil pre)

-- a block from a place at which nothing was sent yet
from_start : (case : Case) (place : ℕ) (steps : List Step) (fs : List Act) → Block case place steps fs →
    (s : State) (l : Scope) (pre : List (Dir × Event)) (n : ℕ) →
    told (tally case (in_order fs s l).decided n) (here pre (in_order fs s l)) ≡ walk place steps n (start pre s l)
from_start case place steps fs block s l pre n = block (done s l) pre n ∙
    ap (λ x. walk place steps n (start x s l)) (append-nil pre)

push_goes : (case : Case) (place : ℕ) (room : Bool) (t : State) (l : Scope) (pre : List (Dir × Event)) (n : ℕ)
    (other : Outcome) →
    let o = if room then decides usual (done t l) else decides unusual other in
    told (tally case o.decided n) (here pre o) ≡
    walked_on (walk place []) true n (if room then Some (start pre t l) else None)
push_goes case place true t l pre n other = unsent (n + 1) pre t l
push_goes case place false t l pre n other = refl

first_goes : (case : Case) (place : ℕ) (steps : List Step) (st : Here) (pre : List (Dir × Event)) (n : ℕ) (b : Bool)
    (first second : Outcome) →
    told (tally case first.decided (n + 1)) (here pre first) ≡ walk place steps (n + 1) st →
    told (tally case (chosen_outcome b likely.First first second).decided n)
    (here pre (chosen_outcome b likely.First first second)) ≡
    walked_on (walk place steps) true n (if b then Some st else None)
first_goes case place steps st pre n true first second leads = leads
first_goes case place steps st pre n false first second leads = refl

else_goes : (case : Case) (place : ℕ) (steps : List Step) (st : Here) (pre : List (Dir × Event)) (n : ℕ) (b : Bool)
    (first second : Outcome) →
    told (tally case second.decided (n + 1)) (here pre second) ≡ walk place steps (n + 1) st →
    told (tally case (chosen_outcome b likely.Else first second).decided n)
    (here pre (chosen_outcome b likely.Else first second)) ≡
    walked_on (walk place steps) true n (if b then None else Some st)
else_goes case place steps st pre n false first second leads = leads
else_goes case place steps st pre n true first second leads = refl

two_first : (place : ℕ) (steps : List Step) (st : Here) (pre : List (Dir × Event)) (n : ℕ) (b : Bool)
    (first second : Outcome) →
    told (tally First first.decided (n + 1)) (here pre first) ≡ walk place steps (n + 1) st →
    told (tally First (chosen_outcome b likely.Two first second).decided n)
    (here pre (chosen_outcome b likely.Two first second)) ≡
    walked_on (walk place steps) true n (if b then Some st else None)
two_first place steps st pre n true first second leads = leads
two_first place steps st pre n false first second leads = refl

two_second : (place : ℕ) (steps : List Step) (st : Here) (pre : List (Dir × Event)) (n : ℕ) (b : Bool)
    (first second : Outcome) →
    told (tally Second second.decided (n + 1)) (here pre second) ≡ walk place steps (n + 1) st →
    told (tally Second (chosen_outcome b likely.Two first second).decided n)
    (here pre (chosen_outcome b likely.Two first second)) ≡
    walked_on (walk place steps) true n (if b then None else Some st)
two_second place steps st pre n true first second leads = refl
two_second place steps st pre n false first second leads = leads

take_goes : (case : Case) (place : ℕ) (steps : List Step) (c i : ℕ) (taken : TakenTree) (s : State) (l : Scope)
    (pre : List (Dir × Event)) (n : ℕ)
    (row : Option Row) (first : Row → Outcome) (second : Outcome) →
    ((r : Row) → told (tally case (first r).decided (n + 1)) (here pre (first r)) ≡
    walk place steps (n + 1) (start pre (without_front s c i) (with_taken taken r l))) →
    told (tally case (taking row first second).decided n) (here pre (taking row first second)) ≡
    walked_on (walk place steps) true n (took c i taken (start pre s l) row)
take_goes case place steps c i taken s l pre n (Some r) first second leads = leads r
take_goes case place steps c i taken s l pre n None first second leads = refl

mutual
  pub statement_goes : (case : Case) (place : ℕ) (x : StatementTree) → Goes case place x
  statement_goes case place (bind k e) s l pre n = unsent n pre s _
  statement_goes case place (assign c i e) s l pre n = unsent n pre _ l
  statement_goes case place (assign_square c row column e) s l pre n = unsent n pre _ l
  statement_goes case place (push c i capacity row otherwise) s l pre n =
      push_goes case place (has_room s c (val i s l) capacity) _ l pre n _
  statement_goes case place (take c i taken block otherwise) s l pre n =
      take_goes case place (ways case block) c (val i s l) taken s l pre n (row_at s c (val i s l) 0) _ _
      (λ r. from_start case place (ways case block) (acts place block) (block_goes case place block)
      (without_front s c (val i s l)) (with_taken taken r l) pre (n + 1))
  statement_goes case place (branch likely.First e block otherwise) s l pre n =
      first_goes case place (ways case block) (start pre s l) pre n (is_true (val e s l)) _ _
      (from_start case place (ways case block) (acts place block) (block_goes case place block) s l pre (n + 1))
  statement_goes case place (branch likely.Else e block otherwise) s l pre n =
      else_goes case place (ways case otherwise) (start pre s l) pre n (is_true (val e s l)) _ _
      (from_start case place (ways case otherwise) (acts place otherwise) (block_goes case place otherwise) s l pre
      (n + 1))
  statement_goes First place (branch likely.Two e block otherwise) s l pre n =
      two_first place (ways First block) (start pre s l) pre n (is_true (val e s l)) _ _
      (from_start First place (ways First block) (acts place block) (block_goes First place block) s l pre (n + 1))
  statement_goes Second place (branch likely.Two e block otherwise) s l pre n =
      two_second place (ways Second otherwise) (start pre s l) pre n (is_true (val e s l)) _ _
      (from_start Second place (ways Second otherwise) (acts place otherwise) (block_goes Second place otherwise) s l
      pre (n + 1))
  statement_goes case place (each k below most block) s l pre n = refl
  statement_goes case place (emit e) s l pre n = refl

  pub block_goes : (case : Case) (place : ℕ) (x : StatementTrees) → Block case place (ways case x) (acts place x)
  block_goes case place none o pre n = sym (onward_id (told (tally case o.decided n) (here pre o)))
  block_goes case place (more x rest) o pre n =
      let p = does place x o.state o.scope in
      let whole = after o (does place x) in
      block_goes case place rest whole pre n
      ∙ ap (onward (walk place (ways case rest))) (
      ap (λ t. told t (here pre whole)) (tally_both case o.decided p.decided n)
      ∙ told_on (tally case o.decided n) (tally case p.decided) (walk place (way case x)) (here pre o) (here pre whole)
      (λ m. ap (λ sent. told (tally case p.decided m) (record { state = p.state; scope = p.scope; sent = sent }))
      (sym (append_assoc pre o.sent p.sent))
      ∙ statement_goes case place x o.state o.scope (pre ++ o.sent) m)
      )
      ∙ twice (told (tally case o.decided n) (here pre o)) where
        twice : (w : Walked) → onward (walk place (ways case rest)) (onward (walk place (way case x)) w) ≡
            onward (walk place (way case x ++ ways case rest)) w
        twice (went m h) = sym (walk_both place (way case x) (ways case rest) m h)
        twice (missed m) = refl

-- what a handler's way gives, where it has one
abbrev pub Went : Case → ℕ → Option (List Step) → State → Scope → Outcome → ℕ → Type 0
Went case place None s l o n = Unit {0}
Went case place (Some steps) s l o n = told (tally case o.decided n) (here [] o) ≡ walk place steps n (start [] s l)

expected_goes : (case : Case) (place : ℕ) (x : Expected) (steps : List Step) (s : State) (l : Scope) (o : Outcome)
    (n : ℕ) →
    ((n : ℕ) → told (tally case o.decided n) (here [] o) ≡ walk place steps n (start [] s l)) →
    Went case place (expected_way x steps) s l (expecting x s l o) n
expected_goes case place always steps s l o n leads = leads n
expected_goes case place (common e) steps s l o n leads = go (is_true (val e s l)) where
  go : (b : Bool) → let p : Outcome = if b then decides usual o else decides unusual o in
      told (tally case p.decided n) (here [] p) ≡
      walked_on (walk place steps) true n (if b then Some (start [] s l) else None)
  go true = leads (n + 1)
  go false = refl
expected_goes case place rare steps s l o n leads = tt

pub handler_goes : (case : Case) (place : ℕ) (x : HandlerTree) (s : State) (l : Scope) (n : ℕ) →
    Went case place (handler_way case x) s l (expecting x.expected s l (in_order (acts place x.block) s l)) n
handler_goes case place x s l n = expected_goes case place x.expected (ways case x.block) s l _ n
    (from_start case place (ways case x.block) (acts place x.block) (block_goes case place x.block) s l [])
