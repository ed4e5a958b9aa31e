-- Operations without checks go where the trace goes.
use Rattle.std.proofs.Common.{◌≡◌, ℕ, ◌+◌, Bool, true, false, List, [], ◌∷◌, refl, sym, ap, ◌∙◌, subst}
use Rattle.std.specs.Prelude.{if◌then◌else◌}
use Rattle.std.specs.List.{fold}
use Rattle.layer_mean.specs.Tree.{LayerTree}
use Rattle.layer_mean.specs.Value.{is_true}
use Rattle.trace_mean.specs.Trace.{Operation, bind, note, check, set, set_square, push, take, output}
use Rattle.trace_mean.specs.Follow.{Trail, on, stopped_at, before, answer_of, follow, follows, with_bound, with_noted}
use Rattle.trace_mean.specs.Follow.{does, unchecked}
use Rattle.trace_laws.specs.Safe.{SafeTrace}
use Rattle.trace_laws.specs.Unchecked.{ChecksCanGo}
use Rattle.trace_laws.proofs.Later.{stays}
use Rattle.trace_mean.specs.Worth.{Input, number_of}

-- a trail but for its count of checks
abbrev counting : Trail → ℕ → Trail
counting t n = record t { checks = n }

record Plainly (stack : List LayerTree) (i : Input) (os : List Operation) (t u : Trail) : Type 0 where
  checks : ℕ
  goes : follows i (unchecked os) (on t) ≡ on (counting u checks)
  safe : SafeTrace stack i (unchecked os) (on t)

-- a trace that goes on after a check has passed it
passed : (i : Input) (os : List Operation) (b : Bool) (t u : Trail) (n : ℕ) →
    follows i os (if b then on t else stopped_at n) ≡ on u → b ≡ true
passed i os true t u n is = refl
passed i os false t u n is = absurd (cc (sym (stays i os n) ∙ is))

plainly : (stack : List LayerTree) (i : Input) (os : List Operation) (t u : Trail) (n : ℕ) →
    follows i os (on t) ≡ on u → SafeTrace stack i os (on t) →
    Plainly stack i os (counting t n) u
plainly stack i [] t u n is safe = let same : t ≡ u = cc in
    record { checks = n; goes = ap (λ x. on (counting x n)) same; safe = tt }
plainly stack i (bind e ∷ os) t u n is safe = let r = plainly stack i os (with_bound t _) u n is safe.1 in
    record { checks = r.checks; goes = r.goes; safe = (tt, r.safe) }
plainly stack i (note m ∷ os) t u n is safe = let r = plainly stack i os (with_noted t _) u n is safe.1 in
    record { checks = r.checks; goes = r.goes; safe = (tt, r.safe) }
plainly stack i (check e ∷ os) t u n is safe =
    let pass = passed i os (is_true (number_of i t.kept t.states e)) (counting t (t.checks + 1)) u t.checks is in
    let r = plainly stack i os (counting t (t.checks + 1)) u n
    (subst (λ b. follows i os (if b then on (counting t (t.checks + 1)) else stopped_at t.checks) ≡ on u) pass is)
    (subst (λ b. SafeTrace stack i os (if b then on (counting t (t.checks + 1)) else stopped_at t.checks)) pass safe.1)
    in
    record { checks = r.checks; goes = r.goes; safe = r.safe }
plainly stack i (set p c e x ∷ os) t u n is safe = let r = plainly stack i os _ u n is safe.1 in
    record { checks = r.checks; goes = r.goes; safe = (tt, r.safe) }
plainly stack i (set_square p c row column x ∷ os) t u n is safe = let r = plainly stack i os _ u n is safe.1 in
    record { checks = r.checks; goes = r.goes; safe = (tt, r.safe) }
plainly stack i (push p c e numbers message ∷ os) t u n is safe = let r = plainly stack i os _ u n is safe.1 in
    record { checks = r.checks; goes = r.goes; safe = (safe.0, r.safe) }
plainly stack i (take p c e ∷ os) t u n is safe = let r = plainly stack i os _ u n is safe.1 in
    record { checks = r.checks; goes = r.goes; safe = (safe.0, r.safe) }
plainly stack i (output dir kind numbers message ∷ os) t u n is safe = let r = plainly stack i os _ u n is safe.1 in
    record { checks = r.checks; goes = r.goes; safe = (safe.0, r.safe) }

-- what is done leaves out checks
done : (i : Input) (os : List Operation) (t u : Trail) (n : ℕ) → follows i os (on t) ≡ on u →
    fold (does i) (counting t n) (unchecked os) ≡ counting u n
done i [] t u n is = let same : t ≡ u = cc in ap (λ x. counting x n) same
done i (bind e ∷ os) t u n is = done i os (does i t (bind e)) u n is
done i (note m ∷ os) t u n is = done i os (does i t (note m)) u n is
done i (check e ∷ os) t u n is =
    let pass = passed i os (is_true (number_of i t.kept t.states e)) (counting t (t.checks + 1)) u t.checks is in
    done i os (counting t (t.checks + 1)) u n
    (subst (λ b. follows i os (if b then on (counting t (t.checks + 1)) else stopped_at t.checks) ≡ on u) pass is)
done i (set p c e x ∷ os) t u n is = done i os (does i t (set p c e x)) u n is
done i (set_square p c row column x ∷ os) t u n is = done i os (does i t (set_square p c row column x)) u n is
done i (push p c e numbers message ∷ os) t u n is = done i os (does i t (push p c e numbers message)) u n is
done i (take p c e ∷ os) t u n is = done i os (does i t (take p c e)) u n is
done i (output dir kind numbers message ∷ os) t u n is = done i os (does i t (output dir kind numbers message)) u n is

pub checks_can_go : ChecksCanGo
unfolding follow
checks_can_go stack i operations states u is safe = let r = plainly stack i operations (before states) u 0 is safe in
    record {
      answer = ap answer_of r.goes;
      performed = done i operations (before states) u 0 is;
      safe = r.safe;
    }
