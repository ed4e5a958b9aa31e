-- Ascending members are at most most_members.
use Rattle.std.proofs.Common.{◌≡◌, ℕ, ◌+◌, ◌<◌, ◌≤◌, Bool, true, false, List, [], ◌∷◌, length, Option, Some, None, refl}
use Rattle.std.proofs.Common.{sym, subst, arith}
use Rattle.std.specs.Prelude.{IfSome, ◌==◌, nat_lt, if◌then◌else◌}
use Rattle.std.specs.List.{AllByRecursion, list_all, slice_split}
use Rattle.std.proofs.lemmas.Bool.{and_parts, ltb-true}
use Rattle.clap.specs.Walk.{Text}
use Rattle.script_mean.specs.Words.{◌>>=◌, number_within}
use Rattle.job_mean.specs.Job.{is_ascending, members_in, some_members}
use Rattle.job_text.proofs.Bounds.{within_bounds}
use Rattle.msg_core.specs.View.{most_members, last_member}

-- numbers from one on that ascend and are below most_members
abbrev Within : ℕ → List ℕ → Type 0
Within low ids = AllByRecursion (λ id. (low ≤ id) × (id < most_members)) ids

above : (first low : ℕ) (ids : List ℕ) → list_all (nat_lt first) ids ≡ true → Within low ids → Within (first + 1) ids
above first low [] all within = tt
above first low (id ∷ ids) all within =
    let parts = and_parts (nat_lt first id) (list_all (nat_lt first) ids) all in
    let more = ltb-true first id parts.0 in
    ((omega (arith, more), within.0.1), above first low ids parts.1 within.1)

few : (low : ℕ) (ids : List ℕ) → low ≤ most_members → is_ascending ids ≡ true → Within low ids →
    low + length ids ≤ most_members
few low [] start ascending within = omega (arith, start)
few low (first ∷ ids) start ascending within =
    let parts = and_parts (list_all (nat_lt first) ids) (is_ascending ids) ascending in
    let from = within.0.0 in
    let below = within.0.1 in
    let rest = few (first + 1) ids (omega (arith, below)) parts.1 (above first low ids parts.0 within.1) in
    omega (arith, rest, from)

-- what words name is below most_members
below : (words : List Text) → IfSome (members_in words) (Within 0)
below [] = tt
below (word ∷ words) = one (number_within 0 last_member word) (members_in words)
    (within_bounds 0 last_member word (number_within 0 last_member word) refl) (below words) where
      one : (o : Option ℕ) (more : Option (List ℕ)) → IfSome o (λ n. (0 ≤ n) × (n ≤ last_member)) →
          IfSome more (Within 0) →
          IfSome (o >>= λ member. more >>= λ members. Some (member ∷ members)) (Within 0)
      one None more h k = tt
      one (Some n) None h k = tt
      one (Some n) (Some members) h k = let most = h.1 in ((h.0, omega (arith, most)), k)

few_named : (given : Option Text) → IfSome (some_members given) (λ members. length members ≤ most_members)
few_named None = tt
few_named (Some text) = named (members_in (slice_split (λ byte. byte == 44) text))
    (below (slice_split (λ byte. byte == 44) text)) where
      kept : (members : List ℕ) → Within 0 members → (b : Bool) → is_ascending members ≡ b →
          IfSome (if b then Some members else None) (λ members. length members ≤ most_members)
      kept members within true is = let most = few 0 members (omega arith) is within in omega (arith, most)
      kept members within false is = tt

      named : (o : Option (List ℕ)) → IfSome o (Within 0) →
          IfSome (o >>= λ members. if is_ascending members then Some members else None)
          (λ members. length members ≤ most_members)
      named None h = tt
      named (Some members) h = kept members h (is_ascending members) refl

pub few_members : (given : Option Text) (o : Option (List ℕ)) → o ≡ some_members given →
    IfSome o (λ members. length members ≤ most_members)
few_members given o is = subst (λ o. IfSome o (λ members. length members ≤ most_members)) (sym is) (few_named given)
