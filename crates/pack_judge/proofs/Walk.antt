-- Traces that are judged one after another.
use Rattle.std.proofs.Common.{◌≡◌, ℕ, suc, List, [], ◌∷◌, ◌++◌, map, length, drop, Option, Some, None, Err, refl, sym}
use Rattle.std.proofs.Common.{ap, ◌∙◌, subst, inl, inr}
use Rattle.std.specs.List.{AllZip}
use Rattle.layer_mean.specs.declared.run.Case.{Case}
use Rattle.layer_mean.specs.declared.run.Case.TheVariants.{First, Second}
use Rattle.trace_mean.specs.Trace.{Operation}
use Rattle.bypass_mean.specs.Bypasses.{Made, fused, absent}
use Rattle.pack_mean.specs.File.{Due}
use Rattle.pack_mean.specs.Accepted.{SameActs, DiffersIn}
use Rattle.pack_laws.specs.Accepted.{filled_case, second_filled}
use Rattle.synth.specs.Cases.{MadeCases}
use Rattle.pack_judge.specs.Filling.{Owned, own_case, made_owned, second_owned, cases_owned, all_owned, AreSame}
use Rattle.pack_judge.specs.Filling.{FirstOther, cases_filled, all_filled, Filled, Fills}
use Rattle.pack_judge.specs.declared.error.BypassError.{BypassError}
use Rattle.pack_judge.specs.declared.error.BypassError.TheVariants.{TooLarge, Line, Differs, Memory}

abbrev pub Traces : Type 0
Traces = List (List Operation)

-- traces after others
same_both : (os more : List Owned) (ts : Traces) → AreSame os ts → AreSame more (drop (length os) ts) →
    AreSame (os ++ more) ts
same_both [] more ts h k = k
same_both (o ∷ os) more [] h k = tt
same_both (o ∷ os) more (t ∷ ts) h k = (h.0, same_both os more ts h.1 k)

pub other_before : (os more : List Owned) (ts : Traces) (entry : ℕ) (case : Case) (act : ℕ) →
    FirstOther os ts entry case act →
    FirstOther (os ++ more) ts entry case act
other_before [] more ts entry case act h = absurd h
other_before (o ∷ os) more [] entry case act h = absurd h
other_before (o ∷ os) more (t ∷ ts) entry case act (inl h) = inl h
other_before (o ∷ os) more (t ∷ ts) entry case act (inr h) = inr (h.0, other_before os more ts entry case act h.1)

none_left : {X : Type 0} (os : List Owned) (entry : ℕ) (case : Case) (act : ℕ) → FirstOther os [] entry case act → X
none_left [] entry case act h = absurd h
none_left (o ∷ os) entry case act h = absurd h

other_after : (os more : List Owned) (ts : Traces) (entry : ℕ) (case : Case) (act : ℕ) → AreSame os ts →
    FirstOther more (drop (length os) ts) entry case act → FirstOther (os ++ more) ts entry case act
other_after [] more ts entry case act same h = h
other_after (o ∷ os) more [] entry case act same h = none_left more entry case act h
other_after (o ∷ os) more (t ∷ ts) entry case act same h =
    inr (same.0, other_after os more ts entry case act same.1 h)

drop_both : (os more : List Owned) (ts : Traces) → drop (length more) (drop (length os) ts) ≡
    drop (length (os ++ more)) ts
drop_both [] more ts = refl
drop_both (o ∷ os) [] [] = refl
drop_both (o ∷ os) (m ∷ more) [] = refl
drop_both (o ∷ os) more (t ∷ ts) = drop_both os more ts

-- as many traces are taken as are due
made_left : (n : ℕ) (case : Case) (own : Made) (ts : Traces) →
    (filled_case own ts).1 ≡ drop (length (made_owned n case own)) ts
made_left n case (fused own guarded) [] = refl
made_left n case (fused own guarded) (t ∷ ts) = refl
made_left n case (absent reason) ts = refl

second_left : (n : ℕ) (own : Option Made) (ts : Traces) →
    (second_filled own ts).1 ≡ drop (length (second_owned n own)) ts
second_left n None ts = refl
second_left n (Some own) ts = made_left n Second own ts

pub cases_left : (n : ℕ) (own : MadeCases) (ts : Traces) →
    (cases_filled own ts).1 ≡ drop (length (cases_owned n own)) ts
cases_left n own ts =
    second_left n own.second (filled_case own.first ts).1
    ∙ ap (drop (length (second_owned n own.second))) (made_left n First own.first ts)
    ∙ drop_both (made_owned n First own.first) (second_owned n own.second) ts

-- what is judged after others
module _ {A : Type 0} (os more : List Owned) (w : A × Traces) (old mid : Traces) (left : w.1 ≡ drop (length os) old)
    (x : A)
    (h : Filled os w old x mid) where
  pub same_later : AreSame more mid → AreSame (os ++ more) old
  same_later k = same_both os more old h.same (subst (AreSame more) (sym h.left_is ∙ left) k)

  pub other_later : (entry : ℕ) (case : Case) (act : ℕ) → FirstOther more mid entry case act →
      FirstOther (os ++ more) old entry case act
  other_later entry case act k =
      other_after os more old entry case act h.same
      (subst (λ ts. FirstOther more ts entry case act) (sym h.left_is ∙ left) k)

-- of an entry
pub cases_made : (n : ℕ) (own : MadeCases) (old mid new : Traces) (first : Made) (second : Option Made) →
    Filled (made_owned n First own.first) (filled_case own.first old) old first mid →
    Filled (second_owned n own.second) (second_filled own.second mid) mid second new →
    Filled (cases_owned n own) (cases_filled own old) old (record { first = first; second = second }) new
cases_made n own old mid new first second h k = record {
  made_is = λ i. record
      { first = h.made_is i; second = (ap (λ ts. (second_filled own.second ts).0) h.left_is ∙ k.made_is) i };
  left_is = ap (λ ts. (second_filled own.second ts).1) h.left_is ∙ k.left_is;
  same = same_later (made_owned n First own.first) (second_owned n own.second) (filled_case own.first old) old mid
      (made_left n First own.first old) first
      h k.same;
}

-- all of them, where there are as many as are due
pub all_same : (P : Due → List Operation → Type 0) (due : List Due) (ts : Traces) → AllZip P due ts →
    AreSame (map own_case due) ts →
    AllZip SameActs due ts
all_same P [] [] all h = tt
all_same P [] (t ∷ ts) all h = absurd all
all_same P (d ∷ due) [] all h = absurd all
all_same P (d ∷ due) (t ∷ ts) all h = (h.0, all_same P due ts all.1 h.1)

-- the first that does something else
pub differs_in : (due : List Due) (ts : Traces) (entry : ℕ) (case : Case) (act : ℕ) →
    FirstOther (map own_case due) ts entry case act →
    DiffersIn due ts entry case act
differs_in [] ts entry case act h = absurd h
differs_in (d ∷ due) [] entry case act h = absurd h
differs_in (d ∷ due) (t ∷ ts) entry case act (inl h) = record {
  before = [];
  due_here = d;
  following = due;
  due_is = refl;
  before_traces = [];
  trace = t;
  after_traces = ts;
  traces_are = refl;
  same = tt;
  entry_is = h.entry_is;
  case_is = h.case_is;
  differ = h.differ;
}
differs_in (d ∷ due) (t ∷ ts) entry case act (inr h) =
    let k = differs_in due ts entry case act h.1 in
    record {
      before = d ∷ k.before;
      due_here = k.due_here;
      following = k.following;
      due_is = ap (λ ds. d ∷ ds) k.due_is;
      before_traces = t ∷ k.before_traces;
      trace = k.trace;
      after_traces = k.after_traces;
      traces_are = ap (λ xs. t ∷ xs) k.traces_are;
      same = (h.0, k.same);
      entry_is = k.entry_is;
      case_is = k.case_is;
      differ = k.differ;
    }

-- where filling the first part fails, or the second after the first, filling both fails so
cut_before : {A B : Type 0} (os more : List Owned) (w : A × Traces) (v : B × Traces) (old mid new : Traces) (x : A)
    (y : B) (e : BypassError) →
    Fills os w old mid x (Err e) → Fills (os ++ more) v old new y (Err e)
cut_before os more w v old mid new x y (Differs entry case act) h = other_before os more old entry case act h
cut_before os more w v old mid new x y Memory h = tt
cut_before os more w v old mid new x y TooLarge h = absurd h
cut_before os more w v old mid new x y (Line line) h = absurd h

cut_later : {A B C : Type 0} (os more : List Owned) (w : A × Traces) (v : B × Traces) (u : C × Traces)
    (old mid next new : Traces)
    (left : w.1 ≡ drop (length os) old) (x : A) (y : B) (z : C) (e : BypassError) → Filled os w old x mid →
    Fills more v mid next y (Err e) →
    Fills (os ++ more) u old new z (Err e)
cut_later os more w v u old mid next new left x y z (Differs entry case act) h k =
    other_later os more w old mid left x h entry case act k
cut_later os more w v u old mid next new left x y z Memory h k = tt
cut_later os more w v u old mid next new left x y z TooLarge h k = absurd k
cut_later os more w v u old mid next new left x y z (Line line) h k = absurd k

-- of an entry
pub second_cut : (n : ℕ) (own cut : MadeCases) (old mid new : Traces) (first : Made) (second : Option Made)
    (e : BypassError) →
    Filled (made_owned n First own.first) (filled_case own.first old) old first mid →
    Fills (second_owned n own.second) (second_filled own.second mid) mid new second (Err e) →
    Fills (cases_owned n own) (cases_filled own old) old new cut (Err e)
second_cut n own cut old mid new first second e h k =
    cut_later (made_owned n First own.first) (second_owned n own.second) (filled_case own.first old)
    (second_filled own.second mid) (cases_filled own old)
    old mid new new (made_left n First own.first old) first second cut e h k

-- of several entries
pub more_filled : (n : ℕ) (c : MadeCases) (cs : List MadeCases) (old mid new : Traces) (one : MadeCases)
    (more : List MadeCases) →
    Filled (cases_owned n c) (cases_filled c old) old one mid →
    Filled (all_owned (suc n) cs) (all_filled cs mid) mid more new →
    Filled (all_owned n (c ∷ cs)) (all_filled (c ∷ cs) old) old (one ∷ more) new
more_filled n c cs old mid new one more h k = record {
  made_is = λ i. h.made_is i ∷ (ap (λ ts. (all_filled cs ts).0) h.left_is ∙ k.made_is) i;
  left_is = ap (λ ts. (all_filled cs ts).1) h.left_is ∙ k.left_is;
  same = same_later (cases_owned n c) (all_owned (suc n) cs) (cases_filled c old) old mid (cases_left n c old) one h
      k.same;
}

pub first_cut : (n : ℕ) (c one : MadeCases) (cs cut : List MadeCases) (old mid new : Traces) (e : BypassError) →
    Fills (cases_owned n c) (cases_filled c old) old mid one (Err e) →
    Fills (all_owned n (c ∷ cs)) (all_filled (c ∷ cs) old) old new cut (Err e)
first_cut n c one cs cut old mid new e h =
    cut_before (cases_owned n c) (all_owned (suc n) cs) (cases_filled c old) (all_filled (c ∷ cs) old) old mid new one
    cut e h

pub more_cut : (n : ℕ) (c one : MadeCases) (cs more cut : List MadeCases) (old mid next new : Traces)
    (e : BypassError) →
    Filled (cases_owned n c) (cases_filled c old) old one mid →
    Fills (all_owned (suc n) cs) (all_filled cs mid) mid next more (Err e) →
    Fills (all_owned n (c ∷ cs)) (all_filled (c ∷ cs) old) old new cut (Err e)
more_cut n c one cs more cut old mid next new e h k =
    cut_later (cases_owned n c) (all_owned (suc n) cs) (cases_filled c old) (all_filled cs mid)
    (all_filled (c ∷ cs) old) old mid next new
    (cases_left n c old) one more cut e h k
