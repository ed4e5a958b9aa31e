-- The planned events of a turn, line by line.
use Rattle.std.proofs.Common.{◌≡◌, ℕ, zero, suc, ◌+◌, ◌<◌, ◌≤◌, Bool, true, false, cond, List, [], ◌∷◌, ◌++◌, length}
use Rattle.std.proofs.Common.{map, get_or, take, drop, refl, sym, ap, subst, ◌∙◌, arith, Option}
use Rattle.std.proofs.lemmas.Bool.{eq-eqb}
use Rattle.std.proofs.lemmas.List.{at_drop_more, at_drop_all, get_or_default, take_more}
use Rattle.std.specs.List.{AllByRecursion, filter, list_any}
use Rattle.std.specs.Prelude.{◌==◌, ◌&&◌, if◌then◌else◌, Result, Ok}
use Rattle.outside.specs.declared.sink.SinkError.{SinkError}
use Rattle.layer_mean.specs.Tree.{LayerTree}
use Rattle.script_mean.specs.Event.{member_of}
use Rattle.script_mean.specs.declared.event.ScriptEvent.{ScriptEvent}
use Rattle.stack_mean.specs.Plan.{Plan}
use Rattle.run_mean.specs.Journal.{Heard}
use Rattle.group_feed.specs.Standing.{Peopled}
use Rattle.node_laws.specs.Doings.{Doing, does}
use Rattle.node_laws.specs.Stages.{AreOrdered, Course, from_planned, from_turn, is_planned, own_doing, planned_in}
use Rattle.node_laws.proofs.Stages.{planned_is_over}
use Rattle.node_loop.specs.Around.{Around}
use Rattle.node_loop.specs.Course.{Advances, Begun, SoFar, Within, now}
use Rattle.node_loop.specs.Feeding.{IsUp, RestsAgain}
use Rattle.node_loop.specs.declared.desk.NodeDesk.{NodeDesk}
use Rattle.node_loop.proofs.Turning.{again_then, up_on}

-- Lines in order.

all_snoc : {X : Type 0} (P : X → Type 0) (xs : List X) (x : X) → AllByRecursion P xs → P x →
    AllByRecursion P (xs ++ x ∷ [])
all_snoc P [] x h p = (p, tt)
all_snoc P (y ∷ ys) x h p = (h.0, all_snoc P ys x h.1 p)

pub ordered_least : (least earliest : ℕ) (entries : List (ℕ × ScriptEvent)) → least ≤ earliest →
    AreOrdered earliest entries →
    AllByRecursion (λ entry. least ≤ entry.0) entries
ordered_least least earliest [] le h = tt
ordered_least least earliest (entry ∷ entries) le h =
    (omega (arith, le, h.0), ordered_least least entry.0 entries (omega (arith, le, h.0)) h.1)

ordered_after : (earliest k : ℕ) (entries : List (ℕ × ScriptEvent)) (d : ℕ × ScriptEvent) → k < length entries →
    AreOrdered earliest entries →
    AreOrdered (get_or entries k d).0 (drop (suc k) entries)
ordered_after earliest k [] d lt h = absurd (omega (arith, lt))
ordered_after earliest zero (entry ∷ entries) d lt h = h.1
ordered_after earliest (suc k) (entry ∷ entries) d lt h = ordered_after entry.0 k entries d (omega (arith, lt)) h.1

-- a line of this turn is done if it is of an own member
planned_step : (c : Course) (me : List ℕ) (t left : ℕ) (entry : ℕ × ScriptEvent) (entries : List (ℕ × ScriptEvent))
    (later : List ℕ) (more : List Heard) →
    entry.0 ≡ t → from_planned c t left (planned_in me t (entry ∷ entries)) later more
    ≡ own_doing me entry.1 ++ from_planned c t left (planned_in me t entries) later more
planned_step c me t left entry entries later more same =
    ap (λ b. map does (map (λ entry. entry.1)
    (cond b (entry ∷ filter (is_planned me t) entries) (filter (is_planned me t) entries)))
    ++ from_turn c (t + 1) left later more)
    (ap (λ b. b && list_any (λ id. member_of entry.1 == id) me) (eq-eqb entry.0 t same))
    ∙ go (list_any (λ id. member_of entry.1 == id) me) where
      go : (b : Bool) → map does
          (map (λ entry. entry.1)
          (cond b (entry ∷ filter (is_planned me t) entries) (filter (is_planned me t) entries)))
          ++ from_turn c (t + 1) left later more
          ≡ (if b then does entry.1 ∷ [] else []) ++
          (map does (planned_in me t entries) ++ from_turn c (t + 1) left later more)
      go true = refl
      go false = refl

module _ (stack : List LayerTree) (plans : List Plan) where
  -- What is told of an event of the plan.
  abbrev pub OwnOn : List ℕ → ScriptEvent → Peopled → Peopled → NodeDesk → NodeDesk → Around → Around →
      Result (Unit {0}) SinkError → Type 0
  OwnOn me event g g' d d' a a' r = (c : Course) (b : Begun) (moments answers borne : ℕ)
      (rest : List ℕ → List Heard → List Doing) (clock : Option (List ℕ)) →
      Within c b moments answers borne →
      SoFar stack plans c b moments answers (λ later more. own_doing me event ++ rest later more) borne
      (now g d a clock) →
      Advances stack plans c b moments answers rest borne (now g' d' a' clock) r

  -- What is told from a line of the plan on.
  abbrev pub PlannedOn : List ℕ → List (ℕ × ScriptEvent) → (t start k : ℕ) → Peopled → Peopled → NodeDesk → NodeDesk →
      Around →
      Around → Result (Unit {0}) SinkError → Type 0
  PlannedOn me turns t start k g g' d d' a a' r = (c : Course) (b : Begun) (moments answers left borne : ℕ)
      (clock : Option (List ℕ)) →
      Within c b moments answers borne →
      SoFar stack plans c b moments answers (from_planned c t left (planned_in me t (drop start turns))) borne
      (now g d a clock) →
      Advances stack plans c b moments answers (from_planned c t left (planned_in me t (drop k turns))) borne
      (now g' d' a' clock) r

  -- The lines up to one were gone through.
  pub record PlannedSome (me : List ℕ) (turns : List (ℕ × ScriptEvent)) (t start k : ℕ) (g g' : Peopled)
      (d d' : NodeDesk)
      (a a' : Around)
      (heard heard' : ℕ → Option ℕ) : Type 0 where
    pub told : PlannedOn me turns t start k g g' d d' a a' (Ok tt)
    pub rests : RestsAgain stack plans g d g' d'
    pub counted : d'.events + start ≤ d.events + k
    pub listening : (m : ℕ) → heard' m ≡ heard m
    pub within : k ≤ length turns
    pub passed : AllByRecursion (λ entry. entry.0 < t + 1) (take k turns)
    pub due : AllByRecursion (λ entry. t ≤ entry.0) (drop k turns)

  earlier_passed : (t : ℕ) (entries : List (ℕ × ScriptEvent)) → AllByRecursion (λ entry. entry.0 < t) entries →
      AllByRecursion (λ entry. entry.0 < t + 1) entries
  earlier_passed t [] h = tt
  earlier_passed t (entry ∷ entries) h = let lt = h.0 in (omega (arith, lt), earlier_passed t entries h.1)

  module _ (me : List ℕ) (turns : List (ℕ × ScriptEvent)) (t start : ℕ) where
    pub planned_none : (g : Peopled) (d : NodeDesk) (a : Around) (heard : ℕ → Option ℕ) → start ≤ length turns →
        AllByRecursion (λ entry. entry.0 < t) (take start turns) →
        AllByRecursion (λ entry. t ≤ entry.0) (drop start turns) →
        PlannedSome me turns t start start g g d d a a heard heard
    planned_none g d a heard within passed due = record {
      told = λ c b moments answers left borne clock within so. so;
      rests = λ mode n w rests. (w, rests);
      counted = omega arith;
      listening = λ m. refl;
      within = within;
      passed = earlier_passed t (take start turns) passed;
      due = due;
    }

    module _ (k : ℕ) {g g' : Peopled} {d d' : NodeDesk} {a a' : Around} {heard heard' : ℕ → Option ℕ}
        (some : PlannedSome me turns t start k g g' d d' a a' heard heard') where
      pub planned_up : IsUp stack plans g d heard me → IsUp stack plans g' d' heard' me
      planned_up up = up_on stack plans g g' d d' heard heard' me up some.rests some.listening

      -- The next line is of this turn.
      module _ (entries : List (ℕ × ScriptEvent)) (is : entries ≡ turns) (inside : k < length entries)
          (first e : ℕ × ScriptEvent)
          (of_turn : (get_or entries k first).0 ≡ t) (g'' : Peopled) (d'' : NodeDesk) (a'' : Around) where
        lt : k < length turns
        lt = subst (λ es. k < length es) is inside

        same : (get_or turns k e).0 ≡ t
        same = ap (λ entry. entry.0) (get_or_default turns k e first lt) ∙
            subst (λ es. (get_or es k first).0 ≡ t) is of_turn

        pub planned_then : (r : Result (Unit {0}) SinkError) → OwnOn me (get_or entries k e).1 g' g'' d' d'' a' a'' r →
            PlannedOn me turns t start (k + 1) g g'' d d'' a a'' r
        planned_then r fed c b moments answers left borne clock within so =
            subst (λ es. OwnOn me (get_or es k e).1 g' g'' d' d'' a' a'' r) is fed c b moments answers borne
            (from_planned c t left (planned_in me t (drop (k + 1) turns))) clock within
            (subst (λ rest. SoFar stack plans c b moments answers rest borne (now g' d' a' clock))
            (λ i later more. (at_drop_more (λ entries. from_planned c t left (planned_in me t entries) later more) turns
            k e lt
            ∙ planned_step c me t left (get_or turns k e) (drop (k + 1) turns) later more same) i)
            (some.told c b moments answers left borne clock within so))

        pub planned_more : {heard'' : ℕ → Option ℕ} → OwnOn me (get_or entries k e).1 g' g'' d' d'' a' a'' (Ok tt) →
            RestsAgain stack plans g' d' g'' d'' → d''.events ≤ d'.events + 1 → ((m : ℕ) → heard'' m ≡ heard' m) →
            PlannedSome me turns t start (k + 1) g g'' d d'' a a'' heard heard''
        planned_more fed again counted listens = record {
          told = planned_then (Ok tt) fed;
          rests = again_then stack plans g g' g'' d d' d'' some.rests again;
          counted = (let n = some.counted in omega (arith, n, counted));
          listening = λ m. listens m ∙ some.listening m;
          within = omega (arith, lt);
          passed = subst (λ entries. AllByRecursion (λ entry. entry.0 < t + 1) entries) (sym (take_more turns k e lt))
              (all_snoc (λ entry. entry.0 < t + 1) (take k turns) (get_or turns k e) some.passed (omega (arith, same)));
          due = (subst (λ entries. AllByRecursion (λ entry. t ≤ entry.0) entries) (at_drop_more (λ ys. ys) turns k e lt)
              some.due).1;
        }

      -- No line of this turn is left.
      pub planned_out : length turns ≤ k → planned_in me t (drop k turns) ≡ []
      planned_out all = at_drop_all (planned_in me t) turns k all

      module _ (entries : List (ℕ × ScriptEvent)) (is : entries ≡ turns) (inside : k < length entries)
          (e : ℕ × ScriptEvent)
          (of_other : (get_or entries k e).0 ≡ t → ⊥) (ordered : AreOrdered 0 turns) where
        lt' : k < length turns
        lt' = subst (λ es. k < length es) is inside

        other : (get_or turns k e).0 ≡ t → ⊥
        other = subst (λ es. (get_or es k e).0 ≡ t → ⊥) is of_other

        later_line : t < (get_or turns k e).0
        later_line =
            let due : t ≤ (get_or turns k e).0 =
            (subst (λ entries. AllByRecursion (λ entry. t ≤ entry.0) entries)
            (at_drop_more (λ ys. ys) turns k e lt') some.due).0 in
            omega (arith, due, other)

        following : AreOrdered (get_or turns k e).0 (drop (k + 1) turns)
        following = let next : suc k ≡ k + 1 = omega arith in
            subst (λ n. AreOrdered (get_or turns k e).0 (drop n turns)) next (ordered_after 0 k turns e lt' ordered)

        pub planned_over : planned_in me t (drop k turns) ≡ []
        planned_over = at_drop_more (planned_in me t) turns k e lt' ∙
            planned_is_over me t (get_or turns k e) (drop (k + 1) turns) later_line following

        pub due_over : AllByRecursion (λ entry. t + 1 ≤ entry.0) (drop k turns)
        due_over = subst (λ entries. AllByRecursion (λ entry. t + 1 ≤ entry.0) entries)
            (sym (at_drop_more (λ ys. ys) turns k e lt'))
            (let l = later_line in (
              omega (arith, l),
              ordered_least (t + 1) (get_or turns k e).0 (drop (k + 1) turns) (omega (arith, l))
                  following,
            ))

      pub planned_end : planned_in me t (drop k turns) ≡ [] →
          (c : Course) (b : Begun) (moments answers left borne : ℕ) (clock : Option (List ℕ)) →
          Within c b moments answers borne →
          SoFar stack plans c b moments answers (from_planned c t left (planned_in me t (drop start turns))) borne
          (now g d a clock) →
          SoFar stack plans c b moments answers (from_turn c (t + 1) left) borne (now g' d' a' clock)
      planned_end none c b moments answers left borne clock within so =
          subst (λ events. SoFar stack plans c b moments answers (from_planned c t left events) borne
          (now g' d' a' clock)) none
          (some.told c b moments answers left borne clock within so)
