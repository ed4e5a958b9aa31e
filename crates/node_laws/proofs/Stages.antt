-- The plan's lines come in the order of their turns, and those of a turn stand together.
use Rattle.std.proofs.Common.{◌≡◌, ◌∙◌, ℕ, ◌+◌, ◌<◌, ◌≤◌, Bool, true, false, List, [], ◌∷◌, ◌++◌, take, drop, map}
use Rattle.std.proofs.Common.{Option, Some, None, refl, sym, ap, subst, arith}
use Rattle.std.specs.Prelude.{◌&&◌, nat_le, nat_lt, if◌then◌else◌, Result, Ok, Err, option_map, option_and_then, codes}
use Rattle.std.specs.List.{AllByRecursion, filter}
use Rattle.std.specs.Str.Parse.{digits_value}
use Rattle.std.proofs.lemmas.Bool.{and_parts, leb-true, ne_eqb}
use Rattle.std.proofs.lemmas.List.{take-append-drop}
use Rattle.std.proofs.lemmas.List.Elements.{filter-append}
use Rattle.script_mean.specs.Event.{group_line, event_line, member_of, said_by}
use Rattle.script_mean.specs.Form.{one, the_word, a_number_within, ends}
use Rattle.script_mean.specs.Lines.{is_too_long, line_count, said_lines}
use Rattle.script_mean.specs.NodePlan.{peers_of, for_each, turn_of, turns_of, plan_of_lines}
use Rattle.script_mean.specs.PlanLine.{is_request, request_line, turn_line}
use Rattle.script_mean.specs.Script.{ScriptFault, too_long, no_member, ◌>>=◌, in_form, of_member}
use Rattle.script_mean.specs.Words.{Word, words_of, is_plain, within, number_within}
use Rattle.script_mean.specs.declared.event.ScriptEvent.{ScriptEvent}
use Rattle.script_mean.specs.declared.plan.NodePlan.{NodePlan}
use Rattle.node_laws.specs.Stages.{AreOrdered, is_planned, PlansAreOrdered, PlansAsk, PlannedIsLeft, PlannedIsOver}

-- a line of another turn isn't planned in this one

other_turn : (me : List ℕ) (t : ℕ) (entry : ℕ × ScriptEvent) (entries : List (ℕ × ScriptEvent)) → (entry.0 ≡ t → ⊥) →
    filter (is_planned me t) (entry ∷ entries) ≡ filter (is_planned me t) entries
other_turn me t entry entries other = rw (ne_eqb entry.0 t other) refl

earlier_none : (me : List ℕ) (t : ℕ) (entries : List (ℕ × ScriptEvent)) →
    AllByRecursion (λ entry. entry.0 < t) entries →
    filter (is_planned me t) entries ≡ []
earlier_none me t [] h = refl
earlier_none me t (entry ∷ entries) h =
    other_turn me t entry entries (λ same. omega (arith, same, h.0)) ∙ earlier_none me t entries h.1

later_none : (me : List ℕ) (t earliest : ℕ) (entries : List (ℕ × ScriptEvent)) → t < earliest →
    AreOrdered earliest entries →
    filter (is_planned me t) entries ≡ []
later_none me t earliest [] later h = refl
later_none me t earliest (entry ∷ entries) later h =
    other_turn me t entry entries (λ same. omega (arith, same, later, h.0)) ∙
    later_none me t entry.0 entries (omega (arith, later, h.0)) h.1

pub planned_is_left : PlannedIsLeft
planned_is_left plan me t k earlier =
    ap (λ entries. map (λ entry. entry.1) entries)
    (ap (filter (is_planned me t)) (sym (take-append-drop k plan.turns))
    ∙ filter-append (is_planned me t) (take k plan.turns) (drop k plan.turns)
    ∙ ap (λ entries. entries ++ filter (is_planned me t) (drop k plan.turns))
    (earlier_none me t (take k plan.turns) earlier))

pub planned_is_over : PlannedIsOver
planned_is_over me t entry entries later ordered =
    ap (λ entries. map (λ entry. entry.1) entries)
    (later_none me t entry.0 (entry ∷ entries) later (omega arith, ordered))

-- what a step that went well came from

through : {A B C : Type 0} (r : Result A ScriptFault) (next : A → Result B ScriptFault) (y : B) → (r >>= next) ≡ Ok y →
    ((x : A) → r ≡ Ok x → next x ≡ Ok y → C) → C
through (Ok x) next y is k = k x refl is
through (Err fault) next y is k = absurd (cc is)

through_some : {A B C : Type 0} (f : A → Option B) (o : Option A) (y : B) → option_and_then f o ≡ Some y →
    ((x : A) → o ≡ Some x → f x ≡ Some y → C) → C
through_some f None y is k = absurd (cc is)
through_some f (Some x) y is k = k x refl is

ok_same : {A : Type 0} (x y : A) → ◌≡◌ {A = Result A ScriptFault} (Ok x) (Ok y) → x ≡ y
ok_same x y is = cc is

some_same : {A : Type 0} (x y : A) → Some x ≡ Some y → x ≡ y
some_same x y is = cc is

formed : {A : Type 0} (line : ℕ) (o : Option A) (x : A) → in_form line o ≡ Ok x → o ≡ Some x
formed line None x is = absurd (cc is)
formed line (Some y) x is = ap Some (ok_same y x is)

mapped : {A B C : Type 0} (f : A → B) (o : Option A) (y : B) → option_map f o ≡ Some y →
    ((x : A) → o ≡ Some x → f x ≡ y → C) → C
mapped f None y is k = absurd (cc is)
mapped f (Some x) y is k = k x refl (some_same (f x) y is)

-- the turn of a line is no earlier than the turn of the line before it

at_least : (low high : ℕ) (word : Word) (n : ℕ) → number_within low high word ≡ Some n → low ≤ n
at_least low high word n is = plain (is_plain word) is where
  bounded : (b : Bool) → (nat_le low (digits_value 10 word) && nat_le (digits_value 10 word) high) ≡ b →
      (if b then Some (digits_value 10 word) else None) ≡ Some n → low ≤ n
  bounded true holds is =
      let both = and_parts (nat_le low (digits_value 10 word)) (nat_le (digits_value 10 word) high) holds in
      let same : digits_value 10 word ≡ n = cc is in
      omega (arith, same, leb-true low (digits_value 10 word) both.0)
  bounded false holds is = absurd (cc is)

  plain : (b : Bool) → (if b then within low high (digits_value 10 word) else None) ≡ Some n → low ≤ n
  plain true is = bounded (nat_le low (digits_value 10 word) && nat_le (digits_value 10 word) high) refl is
  plain false is = absurd (cc is)

first_at_least : (low high : ℕ) (words : List Word) (x : ℕ × List Word) → one (number_within low high) words ≡ Some x →
    low ≤ x.0
first_at_least low high [] x is = absurd (cc is)
first_at_least low high (word ∷ following) x is =
    mapped (λ n. (n, following)) (number_within low high word) x is (λ n found same.
    subst (λ x. low ≤ x.0) same (at_least low high word n found))

ended : {A : Type 0} (value : A) (words : List Word) (y : A × List Word) → ends value words ≡ Some y → value ≡ y.0
ended value [] y is = ap (λ y. y.0) (some_same (value, []) y is)
ended value (word ∷ following) y is = absurd (cc is)

line_at_least : (earliest : ℕ) (words : List Word) (y : (ℕ × ScriptEvent) × List Word) →
    turn_line earliest words ≡ Some y → earliest ≤ y.0.0
line_at_least earliest words y is =
    through_some _ (the_word (codes "turn") words) y is (λ first _ is.
    through_some _ (a_number_within earliest 4294967295 first.1) y is (λ turn read is.
    through_some _ (request_line turn.1) y is (λ event _ is.
    subst (λ x. earliest ≤ x.0) (ended (turn.0, event.0) event.1 y is)
    (first_at_least earliest 4294967295 first.1 turn read))))

turn_at_least : (members earliest : ℕ) (line : ℕ × List ℕ) (y : ℕ × ScriptEvent) → turn_of members earliest line ≡
    Ok y → earliest ≤ y.0
turn_at_least members earliest line y is =
    through (in_form line.0 (said_by (turn_line earliest) line.1)) _ y is (λ turn read is.
    through (of_member members line.0 turn.1) _ y is (λ event _ is.
    subst (λ y. earliest ≤ y.0) (ok_same (turn.0, event) y is)
    (mapped (λ taken. taken.0) (turn_line earliest (words_of line.1)) turn (formed line.0 _ turn read)
    (λ taken read same.
    subst (λ turn. earliest ≤ turn.0) same (line_at_least earliest (words_of line.1) taken read)))))

turns_ordered : (members earliest : ℕ) (lines : List (ℕ × List ℕ)) (entries : List (ℕ × ScriptEvent)) →
    turns_of members earliest lines ≡ Ok entries → AreOrdered earliest entries
turns_ordered members earliest [] entries is = subst (AreOrdered earliest) (ok_same [] entries is) tt
turns_ordered members earliest (line ∷ lines) entries is =
    through (turn_of members earliest line) _ entries is (λ turn read is.
    through (turns_of members turn.0 lines) _ entries is (λ turns more is.
    subst (AreOrdered earliest) (ok_same (turn ∷ turns) entries is)
    (turn_at_least members earliest line turn read, turns_ordered members turn.0 lines turns more)))

lines_ordered : (following : ℕ) (lines : List (ℕ × List ℕ)) (plan : NodePlan) → plan_of_lines following lines ≡
    Ok plan →
    AreOrdered 0 plan.turns
lines_ordered following [] plan is = absurd (cc is)
lines_ordered following (first ∷ lines) plan is =
    through (in_form first.0 (said_by group_line first.1)) _ plan is (λ opening _ is.
    through (peers_of 0 (take opening.members lines)) _ plan is (λ found _ is.
    through (for_each opening.members following found) _ plan is (λ peers _ is.
    through (turns_of opening.members 0 (drop opening.members lines)) _ plan is (λ turns read is.
    subst (λ (plan : NodePlan). AreOrdered 0 plan.turns) (ok_same _ plan is)
    (turns_ordered opening.members 0 (drop opening.members lines) turns read)))))

pub plans_are_ordered : PlansAreOrdered
plans_are_ordered text plan is = go (is_too_long text) is where
  go : (b : Bool) → (if b then Err too_long else plan_of_lines (line_count text + 1) (said_lines text)) ≡ Ok plan →
      AreOrdered 0 plan.turns
  go true is = absurd (cc is)
  go false is = lines_ordered (line_count text + 1) (said_lines text) plan is

-- the event of a line is what an application asks for

requested : (words : List Word) (y : ScriptEvent × List Word) → request_line words ≡ Some y → is_request y.0 ≡ true
requested words y is = through_some _ (event_line words) y is (λ event _ is. asked event (is_request event.0) refl is)
  where
    asked : (event : ScriptEvent × List Word) (b : Bool) → is_request event.0 ≡ b →
        (if b then ends event.0 else (λ words. None)) event.1 ≡ Some y → is_request y.0 ≡ true
    asked event true holds is = subst (λ e. is_request e ≡ true) (ended event.0 event.1 y is) holds
    asked event false holds is = absurd (cc is)

line_asks : (earliest : ℕ) (words : List Word) (y : (ℕ × ScriptEvent) × List Word) → turn_line earliest words ≡ Some y →
    is_request y.0.1 ≡ true
line_asks earliest words y is =
    through_some _ (the_word (codes "turn") words) y is (λ first _ is.
    through_some _ (a_number_within earliest 4294967295 first.1) y is (λ turn _ is.
    through_some _ (request_line turn.1) y is (λ event read is.
    subst (λ x. is_request x.1 ≡ true) (ended (turn.0, event.0) event.1 y is) (requested turn.1 event read))))

kept_same : (members line : ℕ) (event kept : ScriptEvent) → of_member members line event ≡ Ok kept → event ≡ kept
kept_same members line event kept is = go (nat_lt (member_of event) members) is where
  go : (b : Bool) → (if b then Ok event else Err (no_member line)) ≡ Ok kept → event ≡ kept
  go true is = ok_same event kept is
  go false is = absurd (cc is)

turn_asks : (members earliest : ℕ) (line : ℕ × List ℕ) (y : ℕ × ScriptEvent) → turn_of members earliest line ≡ Ok y →
    is_request y.1 ≡ true
turn_asks members earliest line y is =
    through (in_form line.0 (said_by (turn_line earliest) line.1)) _ y is (λ turn read is.
    through (of_member members line.0 turn.1) _ y is (λ event kept is.
    subst (λ y. is_request y.1 ≡ true) (ok_same (turn.0, event) y is)
    (subst (λ e. is_request e ≡ true) (kept_same members line.0 turn.1 event kept)
    (mapped (λ taken. taken.0) (turn_line earliest (words_of line.1)) turn (formed line.0 _ turn read)
    (λ taken read same.
    subst (λ turn. is_request turn.1 ≡ true) same (line_asks earliest (words_of line.1) taken read))))))

abbrev Asks : List (ℕ × ScriptEvent) → Type 0
Asks entries = AllByRecursion (λ entry. is_request entry.1 ≡ true) entries

turns_ask : (members earliest : ℕ) (lines : List (ℕ × List ℕ)) (entries : List (ℕ × ScriptEvent)) →
    turns_of members earliest lines ≡ Ok entries → Asks entries
turns_ask members earliest [] entries is = subst Asks (ok_same [] entries is) tt
turns_ask members earliest (line ∷ lines) entries is =
    through (turn_of members earliest line) _ entries is (λ turn read is.
    through (turns_of members turn.0 lines) _ entries is (λ turns more is.
    subst Asks (ok_same (turn ∷ turns) entries is)
    (turn_asks members earliest line turn read, turns_ask members turn.0 lines turns more)))

lines_ask : (following : ℕ) (lines : List (ℕ × List ℕ)) (plan : NodePlan) → plan_of_lines following lines ≡ Ok plan →
    Asks plan.turns
lines_ask following [] plan is = absurd (cc is)
lines_ask following (first ∷ lines) plan is =
    through (in_form first.0 (said_by group_line first.1)) _ plan is (λ opening _ is.
    through (peers_of 0 (take opening.members lines)) _ plan is (λ found _ is.
    through (for_each opening.members following found) _ plan is (λ peers _ is.
    through (turns_of opening.members 0 (drop opening.members lines)) _ plan is (λ turns read is.
    subst (λ (plan : NodePlan). Asks plan.turns) (ok_same _ plan is)
    (turns_ask opening.members 0 (drop opening.members lines) turns read)))))

pub plans_ask : PlansAsk
plans_ask text plan is = go (is_too_long text) is where
  go : (b : Bool) → (if b then Err too_long else plan_of_lines (line_count text + 1) (said_lines text)) ≡ Ok plan →
      Asks plan.turns
  go true is = absurd (cc is)
  go false is = lines_ask (line_count text + 1) (said_lines text) plan is
