-- Following, with what is so at each operation.
use Rattle.std.proofs.Common.{◌≡◌, ℕ, ◌+◌, Bool, List, [], ◌∷◌, ◌++◌, map, Option, Some, None, sym, ◌∙◌, subst}
use Rattle.std.specs.Prelude.{if◌then◌else◌}
use Rattle.std.specs.List.{AllByRecursion}
use Rattle.std.specs.Option.{option_map_or}
use Rattle.layer_mean.specs.Tree.{LayerTree}
use Rattle.layer_mean.specs.Value.{is_true}
use Rattle.trace_mean.specs.Trace.{Core, TraceNumber, TraceMessage, Operation, bind, note, check, set, set_square, push}
use Rattle.trace_mean.specs.Trace.{take, output}
use Rattle.trace_mean.specs.Follow.{Trail, Followed, on, stopped_at, goes_on, follows}
use Rattle.trace_mean.specs.Fuse.{core_if_settled, notes_of}
use Rattle.trace_laws.specs.Safe.{SafeFrom, SafeTrace}
use Rattle.trace_laws.proofs.Later.{stays, following}
use Rattle.trace_mean.specs.Worth.{Input, number_of}

-- where following begins, over which stack
pub record Start : Type 0 where
  pub stack : List LayerTree
  pub followed : Followed

pub record Goes (stack : List LayerTree) (i : Input) (os : List Operation) (f g : Followed) : Type 0 where
  pub leads : follows i os f ≡ g
  pub safe : SafeTrace stack i os f

pub safe_append : (stack : List LayerTree) (i : Input) (os more : List Operation) (f : Followed) →
    SafeTrace stack i os f →
    SafeTrace stack i more (follows i os f) → SafeTrace stack i (os ++ more) f
safe_append stack i [] more f h k = k
safe_append stack i (o ∷ os) more f h k = (h.0, safe_append stack i os more (goes_on i f o) h.1 k)

pub goes_more : (stack : List LayerTree) (i : Input) (os more : List Operation) (f g x : Followed) →
    Goes stack i os f g → Goes stack i more g x →
    Goes stack i (os ++ more) f x
goes_more stack i os more f g x a b = record {
  leads = following i os more f g a.leads ∙ b.leads;
  safe = safe_append stack i os more f a.safe (subst (SafeTrace stack i more) (sym a.leads) b.safe);
}

pub safe_stopped : (stack : List LayerTree) (i : Input) (os : List Operation) (n : ℕ) →
    SafeTrace stack i os (stopped_at n)
safe_stopped stack i [] n = tt
safe_stopped stack i (o ∷ os) n = (tt, safe_stopped stack i os n)

pub goes_stopped : (stack : List LayerTree) (i : Input) (os : List Operation) (n : ℕ) →
    Goes stack i os (stopped_at n) (stopped_at n)
goes_stopped stack i os n = record { leads = stays i os n; safe = safe_stopped stack i os n }

pub checked_safe : (stack : List LayerTree) (i : Input) (e : TraceNumber) (os : List Operation) (t : Trail) (b : Bool) →
    is_true (number_of i t.kept t.states e) ≡ b →
    SafeTrace stack i os (if b then on (record t { checks = t.checks + 1 }) else stopped_at t.checks) →
    SafeTrace stack i (check e ∷ os) (on t)
checked_safe stack i e os t b is h = (
  tt,
  subst (λ c. SafeTrace stack i os (if c then on (record t { checks = t.checks + 1 }) else stopped_at t.checks))
      (sym is) h,
)

-- operations of which nothing is asked
abbrev pub Quiet : Operation → Type 0
Quiet (push p c e numbers message) = ⊥
Quiet (take p c e) = ⊥
Quiet (output dir kind numbers message) = ⊥
Quiet _ = Unit {0}

quiet_is : (stack : List LayerTree) (i : Input) (o : Operation) (f : Followed) → Quiet o → SafeFrom stack i o f
quiet_is stack i o (stopped_at n) h = tt
quiet_is stack i (bind e) (on t) h = tt
quiet_is stack i (note m) (on t) h = tt
quiet_is stack i (check e) (on t) h = tt
quiet_is stack i (set p c e x) (on t) h = tt
quiet_is stack i (set_square p c row column x) (on t) h = tt
quiet_is stack i (push p c e numbers message) (on t) h = absurd h
quiet_is stack i (take p c e) (on t) h = absurd h
quiet_is stack i (output dir kind numbers message) (on t) h = absurd h

pub quiet_safe : (stack : List LayerTree) (i : Input) (os : List Operation) (f : Followed) → AllByRecursion Quiet os →
    SafeTrace stack i os f
quiet_safe stack i [] f h = tt
quiet_safe stack i (o ∷ os) f h = (quiet_is stack i o f h.0, quiet_safe stack i os (goes_on i f o) h.1)

pub quiet_append : (os more : List Operation) → AllByRecursion Quiet os → AllByRecursion Quiet more →
    AllByRecursion Quiet (os ++ more)
quiet_append [] more h k = k
quiet_append (o ∷ os) more h k = (h.0, quiet_append os more h.1 k)

pub quiet_binds : {E : Type 0} (f : E → TraceNumber) (es : List E) → AllByRecursion Quiet (map (λ e. bind (f e)) es)
quiet_binds f [] = tt
quiet_binds f (e ∷ es) = (tt, quiet_binds f es)

pub quiet_notes : (m : TraceMessage) → AllByRecursion Quiet (notes_of m)
quiet_notes m = go (core_if_settled m) where
  go : (s : Option Core) → AllByRecursion Quiet (option_map_or (λ c. []) s (note m ∷ []))
  go None = (tt, tt)
  go (Some c) = tt
