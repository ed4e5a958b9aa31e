-- What statements send adds up to no more than their emissions, each as often as it is done at most.
use Rattle.std.proofs.Common.{◌≡◌, ℕ, zero, suc, ◌+◌, ◌*◌, ◌≤◌, Bool, true, false, ◌++◌, min, Option, Some, None, subst}
use Rattle.std.proofs.Common.{◌∙◌, mul-le-mul_right, arith}
use Rattle.std.specs.Prelude.{if◌then◌else◌}
use Rattle.std.specs.List.{fold, sum_by}
use Rattle.std.proofs.lemmas.List.Sums.{sum_by-append}
use Rattle.layer_words.specs.declared.events.Dir.{Dir}
use Rattle.layer_words.specs.declared.sorts.Likely.{Likely}
use Rattle.layer_words.specs.declared.sorts.Likely.TheVariants as likely
use Rattle.layer_mean.specs.declared.run.Event.{Event}
use Rattle.layer_mean.specs.declared.run.Row.{Row}
use Rattle.layer_mean.specs.Tree.{EmissionTree, TakenTree, StatementTree, bind, assign, assign_square, push, take}
use Rattle.layer_mean.specs.Tree.{branch, each, emit, StatementTrees, none, more, LayerTree}
use Rattle.layer_mean.specs.State.{State, row_at, has_room, with_row, without_front}
use Rattle.layer_mean.specs.Value.{Scope, is_true, val}
use Rattle.layer_mean.specs.Effect.{Outcome, Act, done, after, in_order, turns, with_slot, with_taken, row_of}
use Rattle.layer_mean.specs.Effect.{emitted_event}
use Rattle.layer_mean.specs.Effect.{chosen_outcome, taking, Decision, usual, unusual, decides, does, acts}
use Rattle.stack_mean.specs.Emissions.{Repeated, emissions, emissions_in}
use Rattle.weight_laws.specs.Orderly.{KeepsMessage, IsOrderlyStatement, IsOrderlyBlock}

abbrev mutual
  -- what a statement sends at most, where `bound` tells what an emission costs
  pub total : (EmissionTree → ℕ) → StatementTree → ℕ
  total bound (push c i capacity row otherwise) = total_in bound otherwise
  total bound (take c i taken block otherwise) = total_in bound block + total_in bound otherwise
  total bound (branch likely e block otherwise) = total_in bound block + total_in bound otherwise
  total bound (each k below most block) = most * total_in bound block
  total bound (emit e) = bound e
  total bound _ = 0

  pub total_in : (EmissionTree → ℕ) → StatementTrees → ℕ
  total_in bound none = 0
  total_in bound (more x rest) = total bound x + total_in bound rest

abbrev repeated : (EmissionTree → ℕ) → Repeated → ℕ
repeated bound r = r.times * bound r.emission

both : (bound : EmissionTree → ℕ) (xs ys : StatementTrees) (times : ℕ) →
    sum_by (repeated bound) (emissions_in times xs) ≡ times * total_in bound xs →
    sum_by (repeated bound) (emissions_in times ys) ≡ times * total_in bound ys →
    sum_by (repeated bound) (emissions_in times xs ++ emissions_in times ys) ≡
    times * (total_in bound xs + total_in bound ys)
both bound xs ys times one other =
    sum_by-append (repeated bound) (emissions_in times xs) (emissions_in times ys) ∙ omega arith

mutual
  total_is : (bound : EmissionTree → ℕ) (x : StatementTree) (times : ℕ) →
      sum_by (repeated bound) (emissions times x) ≡ times * total bound x
  total_is bound (bind k e) times = omega arith
  total_is bound (assign c i e) times = omega arith
  total_is bound (assign_square c row column e) times = omega arith
  total_is bound (push c i capacity row otherwise) times = total_in_is bound otherwise times
  total_is bound (take c i taken block otherwise) times =
      both bound block otherwise times (total_in_is bound block times) (total_in_is bound otherwise times)
  total_is bound (branch likely e block otherwise) times =
      both bound block otherwise times (total_in_is bound block times) (total_in_is bound otherwise times)
  total_is bound (each k below most block) times =
      let inner = total_in_is bound block (times * most) in omega arith
  total_is bound (emit e) times = omega arith

  pub total_in_is : (bound : EmissionTree → ℕ) (xs : StatementTrees) (times : ℕ) →
      sum_by (repeated bound) (emissions_in times xs) ≡ times * total_in bound xs
  total_in_is bound none times = omega arith
  total_in_is bound (more x rest) times =
      sum_by-append (repeated bound) (emissions times x) (emissions_in times rest)
      ∙ let first = total_is bound x times in let others = total_in_is bound rest times in omega arith

module _ (layer : LayerTree) (down : Bool) (place : ℕ) (v : Dir × Event → ℕ) (bound : EmissionTree → ℕ)
    (Holds : Scope → Type 0)
    (numbers_too : (k n : ℕ) (l : Scope) → Holds l → Holds (with_slot k n l))
    (taken_too : (t : TakenTree) (row : Row) (l : Scope) → KeepsMessage down t.message → Holds l →
    Holds (with_taken t row l))
    (sent_too : (e : EmissionTree) (s : State) (l : Scope) → Holds l →
    v (e.direction, emitted_event place e s l) ≤ bound e)
  where
    -- what is sent adds up to no more, and the scope keeps what it holds
    pub record Sends (n : ℕ) (o : Outcome) : Type 0 where
      pub sent : sum_by v o.sent ≤ n
      pub scope : Holds o.scope

    decided : (n : ℕ) (d : Decision) (o : Outcome) → Sends n o → Sends n (decides d o)
    decided n d o r = record { sent = r.sent; scope = r.scope }

    at_most : (m n : ℕ) (o : Outcome) → m ≤ n → Sends m o → Sends n o
    at_most m n o le r = record { sent = omega (arith, r.sent); scope = r.scope }

    all_sent : (n : ℕ) (o : Outcome) → Sends (0 + n) o → Sends n o
    all_sent n o r = at_most (0 + n) n o (omega arith) r

    if_sends : (b : Bool) (n : ℕ) (o p : Outcome) → Sends n o → Sends n p → Sends n (if b then o else p)
    if_sends true n o p one other = one
    if_sends false n o p one other = other

    chosen_sends : (b : Bool) (which : Likely) (m n : ℕ) (o p : Outcome) → Sends m o → Sends n p →
        Sends (m + n) (chosen_outcome b which o p)
    chosen_sends true likely.First m n o p one other = at_most m (m + n) _ (omega arith) (decided m _ o one)
    chosen_sends true likely.Else m n o p one other = at_most m (m + n) _ (omega arith) (decided m _ o one)
    chosen_sends true likely.Two m n o p one other = at_most m (m + n) _ (omega arith) (decided m _ o one)
    chosen_sends false likely.First m n o p one other = at_most n (m + n) _ (omega arith) (decided n _ p other)
    chosen_sends false likely.Else m n o p one other = at_most n (m + n) _ (omega arith) (decided n _ p other)
    chosen_sends false likely.Two m n o p one other = at_most n (m + n) _ (omega arith) (decided n _ p other)

    taking_sends : (found : Option Row) (m n : ℕ) (f : Row → Outcome) (p : Outcome) → ((row : Row) → Sends m (f row)) →
        Sends n p →
        Sends (m + n) (taking found f p)
    taking_sends None m n f p one other = at_most n (m + n) _ (omega arith) (decided n _ p other)
    taking_sends (Some row) m n f p one other = at_most m (m + n) _ (omega arith) (decided m _ (f row) (one row))

    after_sends : (m n : ℕ) (o : Outcome) (act : Act) → Sends m o → Sends n (act o.state o.scope) →
        Sends (m + n) (after o act)
    after_sends m n o act one other = record {
      sent = rw (sum_by-append v o.sent (act o.state o.scope).sent) (omega (arith, one.sent, other.sent));
      scope = other.scope;
    }

    turns_send : (n k slot : ℕ) (act : Act) (s : State) (l : Scope) →
        ((t : State) (m : Scope) → Holds m → Sends n (act t m)) → Holds l →
        Sends (k * n) (turns k slot act s l)
    turns_send n zero slot act s l each_sends holds = record { sent = omega arith; scope = holds }
    turns_send n (suc k) slot act s l each_sends holds =
        let before = turns_send n k slot act s l each_sends holds in
        let o : Outcome = turns k slot act s l in
        at_most (k * n + n) (suc k * n) _ (omega arith)
        (after_sends (k * n) n o (λ t m. act t (with_slot slot k m)) before
        (each_sends o.state (with_slot slot k o.scope) (numbers_too slot k o.scope before.scope)))

    mutual
      does_sends : (x : StatementTree) → IsOrderlyStatement layer down x → (s : State) (l : Scope) → Holds l →
          Sends (total bound x) (does place x s l)
      does_sends (bind k e) h s l holds = record { sent = omega arith; scope = numbers_too k (val e s l) l holds }
      does_sends (assign c i e) h s l holds = record { sent = omega arith; scope = holds }
      does_sends (assign_square c row column e) h s l holds = record { sent = omega arith; scope = holds }
      does_sends (push c i capacity row otherwise) h s l holds =
          if_sends (has_room s c (val i s l) capacity) (total_in bound otherwise) _ _
          (decided (total_in bound otherwise) usual (done (with_row s c (val i s l) (row_of row s l)) l)
          (record { sent = omega arith; scope = holds }))
          (decided (total_in bound otherwise) unusual (in_order (acts place otherwise) s l)
          (all_sent (total_in bound otherwise) _
          (rest_sends otherwise h (done s l) 0 (record { sent = omega arith; scope = holds }))))
      does_sends (take c i taken block otherwise) h s l holds =
          taking_sends (row_at s c (val i s l) 0) (total_in bound block) (total_in bound otherwise)
          (λ row. in_order (acts place block) (without_front s c (val i s l)) (with_taken taken row l))
          (in_order (acts place otherwise) s l)
          (λ row. all_sent (total_in bound block) _
          (rest_sends block h.1 (done (without_front s c (val i s l)) (with_taken taken row l)) 0
          (record { sent = omega arith; scope = taken_too taken row l h.0 holds })))
          (all_sent (total_in bound otherwise) _
          (rest_sends otherwise h.2 (done s l) 0 (record { sent = omega arith; scope = holds })))
      does_sends (branch which condition block otherwise) h s l holds =
          chosen_sends (is_true (val condition s l)) which (total_in bound block) (total_in bound otherwise)
          (in_order (acts place block) s l) (in_order (acts place otherwise) s l)
          (all_sent (total_in bound block) _
          (rest_sends block h.0 (done s l) 0 (record { sent = omega arith; scope = holds })))
          (all_sent (total_in bound otherwise) _
          (rest_sends otherwise h.1 (done s l) 0 (record { sent = omega arith; scope = holds })))
      does_sends (each k below most block) h s l holds =
          decided (most * total_in bound block) unusual
          (turns (min (val below s l) most) k (in_order (acts place block)) s l)
          (at_most (min (val below s l) most * total_in bound block) (most * total_in bound block) _
          (mul-le-mul_right (total_in bound block) (omega arith))
          (turns_send (total_in bound block) (min (val below s l) most) k (in_order (acts place block)) s l
          (λ t m now. all_sent (total_in bound block) _
          (rest_sends block h (done t m) 0 (record { sent = omega arith; scope = now }))) holds))
      does_sends (emit e) h s l holds = record {
        sent = subst (λ n. n ≤ bound e) (omega arith) (sent_too e s l holds);
        scope = holds;
      }

      rest_sends : (xs : StatementTrees) → IsOrderlyBlock layer down xs → (o : Outcome) (n : ℕ) → Sends n o →
          Sends (n + total_in bound xs) (fold after o (acts place xs))
      rest_sends none h o n r = at_most n (n + 0) o (omega arith) r
      rest_sends (more x rest) h o n r =
          at_most (n + total bound x + total_in bound rest) (n + (total bound x + total_in bound rest)) _ (omega arith)
          (rest_sends rest h.1 (after o (does place x)) (n + total bound x)
          (after_sends n (total bound x) o (does place x) r (does_sends x h.0 o.state o.scope r.scope)))

    pub block_sends : (xs : StatementTrees) → IsOrderlyBlock layer down xs → (s : State) (l : Scope) → Holds l →
        sum_by v (in_order (acts place xs) s l).sent ≤ total_in bound xs
    block_sends xs h s l holds =
        let r = all_sent (total_in bound xs) (in_order (acts place xs) s l)
        (rest_sends xs h (done s l) 0 (record { sent = omega arith; scope = holds })) in
        r.sent
