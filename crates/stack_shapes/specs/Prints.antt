-- Plans by prints: a print is a number that plans of one kind with one chain of tags have in common, so that few plans
-- are compared with a packet.
use Rattle.std.specs.Prelude.{◌≡◌, ◌≢◌, ℕ, ◌+◌, ◌*◌, ◌%◌, ◌<◌, ◌≤◌, List, fold, length, map, get_or, Option, Some, None}
use Rattle.std.proofs.Props.{props}
use Rattle.layer_words.specs.declared.events.Kind.{Kind}
use Rattle.layer_words.specs.declared.events.Kind.TheVariants.{Cast}
use Rattle.stack_mean.specs.Plan.{Plan}

-- The print of a kind without tags, and one with a tag more.
abbrev pub first_print : Kind → ℕ
first_print Cast = 0
first_print _ = 1

abbrev pub print_with : ℕ → ℕ → ℕ
print_with print tag = (print * 31 + tag) % 256

-- The print of packets of a kind with these tags, and of a plan's packets.
abbrev pub print_of : Kind → List ℕ → ℕ
print_of kind tags = fold print_with (first_print kind) tags

abbrev pub plan_print : Plan → ℕ
plan_print plan = print_of plan.kind plan.tags

-- The print of the plan of a number.
abbrev pub print_at : List Plan → ℕ → ℕ
print_at plans k = get_or (map plan_print plans) k 0

-- Number k is the least plan of a print, from a number on.
pub record IsLeast (plans : List Plan) (print from k : ℕ) : Type 0 where
  pub from_on : from ≤ k
  pub listed : k < length plans
  pub printed : print_at plans k ≡ print
  pub least : (j : ℕ) → from ≤ j → j < k → print_at plans j ≢ print

-- The next plan of a print from a number on, or there is none.
abbrev pub IsNext : List Plan → (print from : ℕ) → Option ℕ → Type 0
IsNext plans print from (Some k) = IsLeast plans print from k
IsNext plans print from None = (j : ℕ) → from ≤ j → j < length plans → print_at plans j ≢ print

pub IsNext-prop : (plans : List Plan) (print from : ℕ) (next : Option ℕ) → IsProp (IsNext plans print from next)
IsNext-prop plans print from (Some k) = Prim.hlevel props
IsNext-prop plans print from None = Prim.hlevel props

-- For each print the first plan of it, and for each plan the next one of its print.
pub record Indexes (plans : List Plan) (first next : List (Option ℕ)) : Type 0 where
  pub prints : length first ≡ 256
  pub all : length next ≡ length plans
  pub first_is : (print : ℕ) → print < 256 → IsNext plans print 0 (get_or first print None)
  pub next_is : (k : ℕ) → k < length plans → IsNext plans (print_at plans k) (k + 1) (get_or next k None)

pub Indexes-prop : (plans : List Plan) (first next : List (Option ℕ)) → IsProp (Indexes plans first next)
Indexes-prop plans first next = Prim.hlevel (props, IsNext-prop)
