-- What one more statement or turn does after others.
use Rattle.std.proofs.Common.{◌≡◌, ◌≢◌, ℕ, suc, zero, ◌+◌, ◌-◌, ◌<◌, ◌≤◌, Bool, true, false, ◌&&◌, List, [], ◌∷◌, ◌++◌}
use Rattle.std.proofs.Common.{None, Result, Ok, Err, OnOk, length, map, take, get_or, add-one, take_all, take-suc, refl}
use Rattle.std.proofs.Common.{sym, ap, ◌∙◌, subst, append_assoc, arith}
use Rattle.std.proofs.lemmas.List.{map-append}
use Rattle.std.proofs.lemmas.List.Folds.{list_all-append}
use Rattle.std.proofs.lemmas.List.Sums.{fold-append}
use Rattle.layer_words.specs.declared.sorts.Likely.{Likely}
use Rattle.layer_words.specs.declared.sorts.Likely.TheVariants as likely
use Rattle.layer_mean.specs.declared.run.Case.TheVariants.{First, Second}
use Rattle.layer_mean.specs.Tree.{ExpressionTree, StatementTree, StatementTrees, branch}
use Rattle.layer_mean.specs.Value.{is_true}
use Rattle.layer_eval.specs.Worth.{number_of}
use Rattle.layer_mean.specs.Effect.{Decision, went_as, Outcome, Act, done, after, in_order, decides, with_slot, turns}
use Rattle.layer_mean.specs.Effect.{chosen_outcome, does, acts}
use Rattle.typed_layer.specs.View.{trees, statement_tree}
use Rattle.typed_layer.specs.declared.tree.Statement.{Statement}
use Rattle.layer_mean.specs.Visit.{no_scope}
use Rattle.layer_desk.specs.Laid.{Laid, bound, left}
use Rattle.layer_eval.specs.Did.{Did, Ended, as_predicted, both, decision, statement_does, block_does}
use Rattle.layer_eval.specs.declared.predicted.Predicted.{Predicted}

-- decisions after others
pub predicted_after : (ds es : List Decision) → as_predicted (ds ++ es) ≡ both (as_predicted ds) (as_predicted es)
predicted_after ds es i =
    record { first = list_all-append (went_as First) ds es i; second = list_all-append (went_as Second) ds es i }

and_assoc : (a b c : Bool) → (a && b) && c ≡ a && (b && c)
and_assoc true b c = refl
and_assoc false b c = refl

and_turned : (a b : Bool) → a && b ≡ b && a
and_turned true true = refl
and_turned true false = refl
and_turned false true = refl
and_turned false false = refl

both_assoc : (p q r : Predicted) → both (both p q) r ≡ both p (both q r)
both_assoc p q r i = record
    { first = and_assoc p.first q.first r.first i; second = and_assoc p.second q.second r.second i }

pub both_turned : (p q : Predicted) → both p q ≡ both q p
both_turned p q i = record { first = and_turned p.first q.first i; second = and_turned p.second q.second i }

-- an act after an outcome
pub did_after : (o : Outcome) (act : Act) (old mid new : Laid) (b p q : Predicted) → Did o old mid b p →
    Did (act mid.state mid.scope) mid new p q →
    Did (after o act) old new b q
did_after o act old mid new b p q first second =
    let following : Did (act o.state o.scope) mid new p q =
    subst (λ (z : Outcome). Did z mid new p q) (λ i. act (first.state i) (first.scope i)) second in
    let more = act o.state o.scope in
    let here = as_predicted o.decided in
    let there = as_predicted more.decided in
    record {
      state = following.state;
      scope = following.scope;
      arrived = following.arrived ∙ first.arrived;
      hand = following.hand ∙ first.hand;
      sent = following.sent ∙ ap (λ s. s ++ more.sent) first.sent ∙ append_assoc old.sent o.sent more.sent;
      predicted = following.predicted ∙ ap (both there) first.predicted ∙ sym (both_assoc there here b)
          ∙ ap (λ z. both z b) (both_turned there here ∙ sym (predicted_after o.decided more.decided));
    }

acts_more : (place : ℕ) (xs : List StatementTree) (x : StatementTree) → acts place (trees (xs ++ x ∷ [])) ≡
    acts place (trees xs) ++ does place x ∷ []
acts_more place [] x = refl
acts_more place (y ∷ xs) x = ap (λ (rest : List Act). does place y ∷ rest) (acts_more place xs x)

pub one_more_tree : (xs : List Statement) (i : ℕ) (x : Statement) → i < length xs → x ≡ get_or xs i x →
    map statement_tree (take (i + 1) xs) ≡ map statement_tree (take i xs) ++ statement_tree x ∷ []
one_more_tree xs i x within is =
    ap (λ n. map statement_tree (take n xs)) (add-one i)
    ∙ ap (map statement_tree) (take-suc xs i x within ∙ ap (λ y. take i xs ++ y ∷ []) (sym is))
    ∙ map-append statement_tree (take i xs) (x ∷ [])

after_all : (place : ℕ) (ts : List StatementTree) (x : StatementTree) (p : Laid) →
    block_does place (trees (ts ++ x ∷ [])) p ≡ after (block_does place (trees ts) p) (does place x)
after_all place ts x p =
    ap (λ (all : List Act). in_order all p.state p.scope) (acts_more place ts x)
    ∙ fold-append after (done p.state p.scope) (acts place (trees ts)) (does place x ∷ [])

one_more : (place : ℕ) (xs : List Statement) (i : ℕ) (x : Statement) (p : Laid) → i < length xs → x ≡ get_or xs i x →
    block_does place (trees (map statement_tree (take (i + 1) xs))) p
    ≡ after (block_does place (trees (map statement_tree (take i xs))) p) (does place (statement_tree x))
one_more place xs i x p within is =
    ap (λ ts. block_does place (trees ts) p) (one_more_tree xs i x within is)
    ∙ after_all place (map statement_tree (take i xs)) (statement_tree x) p

-- one more statement of a block
pub block_step : (place : ℕ) (xs : List Statement) (i : ℕ) (x : Statement) (old mid new : Laid) (b p q : Predicted) →
    i < length xs → x ≡ get_or xs i x →
    Did (block_does place (trees (map statement_tree (take i xs))) old) old mid b p →
    Did (statement_does place (statement_tree x) mid) mid new p q →
    Did (block_does place (trees (map statement_tree (take (i + 1) xs))) old) old new b q
block_step place xs i x old mid new b p q within is first second =
    subst (λ z. Did z old new b q) (sym (one_more place xs i x old within is))
    (did_after _ (does place (statement_tree x)) old mid new b p q first second)

-- what lies at a desk after an outcome is let go
pub did_left : (o : Outcome) (old mid new : Laid) (b q : Predicted) → Did o old mid b q → new ≡ left mid →
    Ended o old new b q
did_left o old mid new b q did is = record {
  shown = is ∙ (λ i. record {
    state = did.state i;
    scope = no_scope;
    arrived = None;
    hand = did.hand i;
    sent =
        did.sent i;
  });
  predicted = did.predicted;
}

-- an act with which a visit ends, after an outcome
ended_after : (o : Outcome) (act : Act) (old mid new : Laid) (b p q : Predicted) → Did o old mid b p →
    Ended (act mid.state mid.scope) mid new p q →
    Ended (after o act) old new b q
ended_after o act old mid new b p q first last =
    let more = act mid.state mid.scope in
    let reached : Laid = record {
      state = more.state;
      scope = more.scope;
      arrived = mid.arrived;
      hand = mid.hand;
      sent =
          mid.sent ++ more.sent;
    } in
    did_left (after o act) old reached new b q
    (did_after o act old mid reached b p q first
    (record { state = refl; scope = refl; arrived = refl; hand = refl; sent = refl; predicted = last.predicted }))
    last.shown

-- the last statement of a block, after those before it
pub last_tree : (xs ys : List Statement) (x : Statement) → xs ≡ ys → 1 ≤ length xs → x ≡ get_or xs (length xs - 1) x →
    map statement_tree ys ≡ map statement_tree (take (length xs - 1) xs) ++ statement_tree x ∷ []
last_tree xs ys x same some is =
    ap (map statement_tree) (sym same ∙ sym (take_all (length xs - 1 + 1) xs (omega (arith, some))))
    ∙ one_more_tree xs (length xs - 1) x (omega (arith, some)) is

pub block_ends : (place : ℕ) (xs ys : List Statement) (x : Statement) (old mid new : Laid) (b p q : Predicted) →
    xs ≡ ys → 1 ≤ length xs →
    x ≡ get_or xs (length xs - 1) x → Did (block_does place (trees (map statement_tree (take (length xs - 1) xs))) old)
    old mid b p →
    Ended (statement_does place (statement_tree x) mid) mid new p q →
    Ended (block_does place (trees (map statement_tree ys)) old) old new b q
block_ends place xs ys x old mid new b p q same some is first last =
    let front = map statement_tree (take (length xs - 1) xs) in
    subst (λ z. Ended z old new b q)
    (sym (ap (λ ts. block_does place (trees ts) old) (last_tree xs ys x same some is) ∙
    after_all place front (statement_tree x) old))
    (ended_after _ (does place (statement_tree x)) old mid new b p q first last)

pub on_ok : {A B P Q : Type 0} (r : Result A B) → (P → Q) → OnOk r P → OnOk r Q
on_ok (Ok a) f is = f is
on_ok (Err e) f is = is

-- one more turn
pub turn_step : (k slot : ℕ) (act : Act) (old mid at new : Laid) (b p q : Predicted) →
    let o = turns k slot act old.state old.scope in let next = turns (k + 1) slot act old.state old.scope in
    Did o old mid b p → at ≡ bound slot k mid → Did (act at.state at.scope) at new p q → Did next old new b q
turn_step k slot act old mid at new b p q first is second =
    let o = turns k slot act old.state old.scope in
    let body : Did (act mid.state (with_slot slot k mid.scope)) (bound slot k mid) new p q =
    subst (λ (z : Laid). Did (act z.state z.scope) z new p q) is second in
    let following : Did (act mid.state (with_slot slot k mid.scope)) mid new p q =
    record {
      state = body.state;
      scope = body.scope;
      arrived = body.arrived;
      hand = body.hand;
      sent =
          body.sent;
      predicted = body.predicted;
    } in
    subst (λ n. Did (turns n slot act old.state old.scope) old new b q) (sym (add-one k))
    (did_after o (λ t m. act t (with_slot slot k m)) old mid new b p q first following)

-- a decision before an outcome
decided_did : (d : Decision) (o : Outcome) (old new : Laid) (b q r : Predicted) → Did o old new b q →
    r ≡ both (as_predicted (d ∷ [])) q →
    Did (decides d o) old new b r
decided_did d o old new b q r did is = record {
  state = did.state;
  scope = did.scope;
  arrived = did.arrived;
  hand = did.hand;
  sent = did.sent;
  predicted = is ∙ ap (both (as_predicted (d ∷ []))) did.predicted ∙
      sym (both_assoc (as_predicted (d ∷ [])) (as_predicted o.decided) b)
      ∙ ap (λ z. both z b) (sym (predicted_after (d ∷ []) o.decided));
}

-- a condition that holds
chosen_first : (x : Likely) (first second : Outcome) → chosen_outcome true x first second ≡
    decides (decision true x) first
chosen_first likely.First first second = refl
chosen_first likely.Else first second = refl
chosen_first likely.Two first second = refl

is_true_of : (n : ℕ) → n ≢ 0 → is_true n ≡ true
is_true_of zero not_zero = absurd (not_zero refl)
is_true_of (suc n) not_zero = grind arith

-- a statement that is a choice, of which the condition holds
pub branch_first : (place : ℕ) (x : Likely) (e : ExpressionTree) (block otherwise : StatementTrees)
    (tree : StatementTree) (old new : Laid)
    (n : ℕ) (b q r : Predicted) → tree ≡ branch x e block otherwise → n ≡ number_of e old → n ≢ 0 →
    Did (block_does place block old) old new b q →
    r ≡ both (as_predicted (decision true x ∷ [])) q → Did (statement_does place tree old) old new b r
branch_first place x e block otherwise tree old new n b q r same is holds did following =
    let true_is : is_true (number_of e old) ≡ true = ap is_true (sym is) ∙ is_true_of n holds in
    subst (λ t. Did (statement_does place t old) old new b r) (sym same)
    (subst (λ z. Did (chosen_outcome z x (block_does place block old) (block_does place otherwise old)) old new b r)
    (sym true_is)
    (subst (λ o. Did o old new b r) (sym (chosen_first x (block_does place block old) (block_does place otherwise old)))
    (decided_did (decision true x) (block_does place block old) old new b q r did following)))
