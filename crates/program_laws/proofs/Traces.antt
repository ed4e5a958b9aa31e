-- A file of traces is accepted, or refused for one cause.
use Rattle.std.proofs.Common.{arith, ◌≡◌, refl, sym, subst, ◌∙◌, ap, ℕ, zero, suc, ◌<◌, List, [], ◌∷◌, ◌++◌, Some, inl}
use Rattle.std.proofs.Common.{inr}
use Rattle.std.specs.Prelude.{◌⊎◌, take, slice_get, Result, Ok, Err}
use Rattle.std.specs.List.{AllZip}
use Rattle.std.proofs.lemmas.Bool.{cases_order}
use Rattle.layer_mean.specs.Tree.{LayerTree}
use Rattle.layer_mean.specs.declared.run.Case.{Case}
use Rattle.trace_mean.specs.Trace.{Operation}
use Rattle.symbol_mean.specs.Symbolic.{symbolic}
use Rattle.pack_mean.specs.Accepted.{SameActs, DifferAt, DiffersIn, too_large, bad_line, differs}
use Rattle.pack_mean.specs.File.{Due, due_of, traces_in}
use Rattle.program_laws.specs.OneEnd.{OneTracesFault, AcceptedOrRefused}

-- Lists that are equal before a place have the same at each place before it.
same_before : {X : Type 0} (n k : ℕ) (xs ys : List X) → k < n → take n xs ≡ take n ys → slice_get xs k ≡ slice_get ys k
same_before zero k xs ys less same = absurd (omega (arith, less))
same_before (suc n) k [] [] less same = refl
same_before (suc n) k [] (y ∷ ys) less same = absurd (cc same)
same_before (suc n) k (x ∷ xs) [] less same = absurd (cc same)
same_before (suc n) zero (x ∷ xs) (y ∷ ys) less same = let heads : x ≡ y = cc same in ap Some heads
same_before (suc n) (suc k) (x ∷ xs) (y ∷ ys) less same = same_before n k xs ys (omega (arith, less)) (cc same)

-- Two lists first differ at one place at most.
differ_once : {X : Type 0} (xs ys : List X) (k n : ℕ) → DifferAt xs ys k → DifferAt xs ys n → k ≡ n
differ_once xs ys k n a b = go (cases_order k n) where
  go : (k ≡ n) ⊎ ((k < n) ⊎ (n < k)) → k ≡ n
  go (inl same) = same
  go (inr (inl less)) = absurd (a.other (same_before n k xs ys less b.equal))
  go (inr (inr less)) = absurd (b.other (same_before k n xs ys less a.equal))

-- A trace that does what the own one does doesn't differ from it.
same_or_differ : (d x : Due) (trace other : List Operation) (k : ℕ) → d ≡ x → trace ≡ other → SameActs x other →
    DifferAt (symbolic trace) (symbolic d.own) k → ⊥
same_or_differ d x trace other k dues traces same differ =
    differ.other (ap (λ acts. slice_get acts k) (ap symbolic traces ∙ same ∙ ap (λ due. symbolic due.own) (sym dues)))

-- One case at most is the first that differs, and one act the first at which it does.
first_once : (before : List Due) (d : Due) (following : List Due) (bs : List (List Operation)) (t : List Operation)
    (cs : List (List Operation))
    (front : List Due) (e : Due) (back : List Due) (fs : List (List Operation)) (u : List Operation)
    (gs : List (List Operation)) (k n : ℕ) →
    before ++ d ∷ following ≡ front ++ e ∷ back → bs ++ t ∷ cs ≡ fs ++ u ∷ gs → AllZip SameActs before bs →
    AllZip SameActs front fs →
    DifferAt (symbolic t) (symbolic d.own) k → DifferAt (symbolic u) (symbolic e.own) n → (d ≡ e) × (k ≡ n)
first_once [] d following [] t cs [] e back [] u gs k n dues traces p q a b =
    let due : d ≡ e = cc dues in
    let trace : t ≡ u = cc traces in
    let same : DifferAt (symbolic t) (symbolic d.own) n =
    subst {A = Due × List Operation} (λ x. DifferAt (symbolic x.1) (symbolic x.0.own) n) (λ i. (sym due i, sym trace i))
    b in
    (due, differ_once (symbolic t) (symbolic d.own) k n a same)
first_once [] d following [] t cs (x ∷ front) e back (y ∷ fs) u gs k n dues traces p q a b =
    absurd (same_or_differ d x t y k (cc dues) (cc traces) q.0 a)
first_once (x ∷ before) d following (y ∷ bs) t cs [] e back [] u gs k n dues traces p q a b =
    let due : e ≡ x = cc dues in
    let trace : u ≡ y = cc traces in
    absurd (same_or_differ e x u y n due trace p.0 b)
first_once (x ∷ before) d following (y ∷ bs) t cs (z ∷ front) e back (w ∷ fs) u gs k n dues traces p q a b =
    first_once before d following bs t cs front e back fs u gs k n (cc dues) (cc traces) p.1 q.1 a b
first_once [] d following (y ∷ bs) t cs front e back fs u gs k n dues traces p q a b = absurd p
first_once (x ∷ before) d following [] t cs front e back fs u gs k n dues traces p q a b = absurd p
first_once [] d following [] t cs [] e back (y ∷ fs) u gs k n dues traces p q a b = absurd q
first_once [] d following [] t cs (x ∷ front) e back [] u gs k n dues traces p q a b = absurd q
first_once (x ∷ before) d following (y ∷ bs) t cs [] e back (w ∷ fs) u gs k n dues traces p q a b = absurd q
first_once (x ∷ before) d following (y ∷ bs) t cs (z ∷ front) e back [] u gs k n dues traces p q a b = absurd q

differs_once : (due : List Due) (traces other : List (List Operation)) (e f : ℕ) (c d : Case) (k n : ℕ) →
    traces ≡ other →
    DiffersIn due traces e c k → DiffersIn due other f d n → differs e c k ≡ differs f d n
differs_once due traces other e f c d k n same a b =
    let first = first_once a.before a.due_here a.following a.before_traces a.trace a.after_traces
    b.before b.due_here b.following b.before_traces b.trace b.after_traces k n
    (sym a.due_is ∙ b.due_is) (sym a.traces_are ∙ same ∙ b.traces_are) a.same b.same a.differ b.differ in
    let entry : e ≡ f = sym a.entry_is ∙ ap (λ x. x.entry) first.0 ∙ b.entry_is in
    let case : c ≡ d = sym a.case_is ∙ ap (λ x. x.case) first.0 ∙ b.case_is in
    λ i. differs (entry i) (case i) (first.1 i)

-- What differs somewhere isn't the same all along.
all_or_first : (before : List Due) (d : Due) (following : List Due) (bs : List (List Operation)) (t : List Operation)
    (cs : List (List Operation)) (k : ℕ) →
    AllZip SameActs (before ++ d ∷ following) (bs ++ t ∷ cs) → AllZip SameActs before bs →
    DifferAt (symbolic t) (symbolic d.own) k → ⊥
all_or_first [] d following [] t cs k all p a = same_or_differ d d t t k refl refl all.0 a
all_or_first (x ∷ before) d following (y ∷ bs) t cs k all p a = all_or_first before d following bs t cs k all.1 p.1 a
all_or_first [] d following (y ∷ bs) t cs k all p a = p
all_or_first (x ∷ before) d following [] t cs k all p a = p

module _ (stack : List LayerTree) (text : List ℕ) where
  read_once : (a b : List (List Operation)) → traces_in stack text ≡ Ok a → traces_in stack text ≡ Ok b → a ≡ b
  read_once a b x y = let both : ◌≡◌ {A = Result (List (List Operation)) ℕ} (Ok a) (Ok b) = sym x ∙ y in cc both

  read_or_not : (a : List (List Operation)) (line : ℕ) → traces_in stack text ≡ Ok a → traces_in stack text ≡ Err line →
      ⊥
  read_or_not a line x y = let both : ◌≡◌ {A = Result (List (List Operation)) ℕ} (Ok a) (Err line) = sym x ∙ y in
      cc both

  line_once : (a b : ℕ) → traces_in stack text ≡ Err a → traces_in stack text ≡ Err b → a ≡ b
  line_once a b x y = let both : ◌≡◌ {A = Result (List (List Operation)) ℕ} (Err a) (Err b) = sym x ∙ y in cc both

pub one_traces_fault : OneTracesFault
one_traces_fault stack text too_large too_large h i = refl
one_traces_fault stack text too_large (bad_line line) h i = let short = i.0 in absurd (omega (arith, h, short))
one_traces_fault stack text too_large (differs entry case k) h i = let short = i.short in
    absurd (omega (arith, h, short))
one_traces_fault stack text (bad_line line) too_large h i = let short = h.0 in absurd (omega (arith, i, short))
one_traces_fault stack text (bad_line line) (bad_line other) h i = ap bad_line (line_once stack text line other h.1 i.1)
one_traces_fault stack text (bad_line line) (differs entry case k) h i =
    absurd (read_or_not stack text i.traces line i.read h.1)
one_traces_fault stack text (differs entry case k) too_large h i = let short = h.short in
    absurd (omega (arith, i, short))
one_traces_fault stack text (differs entry case k) (bad_line line) h i =
    absurd (read_or_not stack text h.traces line h.read i.1)
one_traces_fault stack text (differs entry case k) (differs other second n) h i =
    differs_once (due_of stack) h.traces i.traces entry other case second k n
    (read_once stack text h.traces i.traces h.read i.read) h.differs i.differs

pub accepted_or_refused : AcceptedOrRefused
accepted_or_refused stack text too_large a h = let short = a.short in omega (arith, h, short)
accepted_or_refused stack text (bad_line line) a h = read_or_not stack text a.traces line a.read h.1
accepted_or_refused stack text (differs entry case k) a h =
    let d = h.differs in
    let traces : a.traces ≡ d.before_traces ++ d.trace ∷ d.after_traces =
    read_once stack text a.traces h.traces a.read h.read ∙ d.traces_are in
    all_or_first d.before d.due_here d.following d.before_traces d.trace d.after_traces k
    (subst {A = List Due × List (List Operation)} (λ x. AllZip SameActs x.0 x.1) (λ i. (d.due_is i, traces i)) a.same)
    d.same d.differ
