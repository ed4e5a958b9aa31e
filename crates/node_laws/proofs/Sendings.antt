-- Sendings, one after the other: how many failed, and networks that tell.
use Rattle.std.proofs.Common.{◌≡◌, ℕ, zero, suc, ◌+◌, Bool, true, false, List, [], ◌∷◌, ◌++◌, length, map, take, drop}
use Rattle.std.proofs.Common.{refl, sym, ap, cond, ◌∙◌, arith, append_assoc, append-nil, Option, Some, None}
use Rattle.std.proofs.lemmas.List.{drop-drop}
use Rattle.std.proofs.lemmas.List.Recursion.{is_count_by}
use Rattle.outside.specs.Links.{Network, next_fate, is_failure, after_send}
use Rattle.outside.specs.declared.links.Fate.{Fate}
use Rattle.run_mean.specs.Journal.{Handed}
use Rattle.node_laws.specs.Losses.{failures_in}
use Rattle.node_laws.specs.Network.{Tells, after_sends, fates_of, sent_as}

abbrev failures_by : List Bool → ℕ
failures_by [] = 0
failures_by (true ∷ failed) = suc (failures_by failed)
failures_by (false ∷ failed) = failures_by failed

failures_are : (failed : List Bool) → failures_by failed ≡ failures_in failed
failures_are failed = is_count_by failures_by (λ f. f) refl step failed where
  step : (x : Bool) (xs : List Bool) → failures_by (x ∷ xs) ≡ cond x (1 + failures_by xs) (failures_by xs)
  step true xs = omega arith
  step false xs = refl

failures_by_append : (xs ys : List Bool) → failures_by (xs ++ ys) ≡ failures_by xs + failures_by ys
failures_by_append [] ys = omega arith
failures_by_append (true ∷ xs) ys = let e = failures_by_append xs ys in omega (arith, e)
failures_by_append (false ∷ xs) ys = failures_by_append xs ys

pub failures_append : (xs ys : List Bool) → failures_in (xs ++ ys) ≡ failures_in xs + failures_in ys
failures_append xs ys = sym (failures_are (xs ++ ys)) ∙ failures_by_append xs ys ∙
    ap (λ n. n + failures_by ys) (failures_are xs)
    ∙ ap (λ n. failures_in xs + n) (failures_are ys)

pub failures_none : (n : ℕ) → failures_in (take n []) ≡ 0
failures_none zero = refl
failures_none (suc n) = refl

-- Networks that tell, before and after.

pub tells_then : {R S T : Network → Network → Type 0} (a b c : Option Network) → Tells R a b → Tells S b c →
    ((n n' n'' : Network) → R n n' → S n' n'' → T n n'') → Tells T a c
tells_then None None None r s f = tt
tells_then (Some n) (Some n') (Some n'') r s f = f n n' n'' r s
tells_then None None (Some n'') r s f = absurd s
tells_then None (Some n') c r s f = absurd r
tells_then (Some n) None c r s f = absurd r
tells_then (Some n) (Some n') None r s f = absurd s

pub tells_as : {R S : Network → Network → Type 0} (a b : Option Network) → Tells R a b →
    ((n n' : Network) → R n n' → S n n') → Tells S a b
tells_as None None r f = tt
tells_as (Some n) (Some n') r f = f n n' r
tells_as None (Some n') r f = absurd r
tells_as (Some n) None r f = absurd r

pub tells_same : (R : Network → Network → Type 0) (a : Option Network) → ((n : Network) → R n n) → Tells R a a
tells_same R None f = tt
tells_same R (Some n) f = f n

-- Sendings, one after the other.

pub sends_then : (xs ys : List Handed) (n : Network) → after_sends (xs ++ ys) n ≡ after_sends ys (after_sends xs n)
sends_then [] ys n = refl
sends_then (x ∷ xs) ys n = sends_then xs ys (after_send (sent_as x) n)

drop_next : {A : Type 0} (k : ℕ) (xs : List A) → drop k (drop 1 xs) ≡ drop (suc k) xs
drop_next k xs = let next : 1 + k ≡ suc k = omega arith in drop-drop k 1 xs ∙ ap (λ n. drop n xs) next

pub fates_after : (xs : List Handed) (n : Network) → (after_sends xs n).fates ≡ drop (length xs) n.fates
fates_after [] n = refl
fates_after (x ∷ xs) n = fates_after xs (after_send (sent_as x) n) ∙ drop_next (length xs) n.fates

pub handed_after : (xs : List Handed) (n : Network) → (after_sends xs n).handed ≡ n.handed ++ map sent_as xs
handed_after [] n = sym (append-nil n.handed)
handed_after (x ∷ xs) n = handed_after xs (after_send (sent_as x) n) ∙
    append_assoc n.handed (sent_as x ∷ []) (map sent_as xs)

pub met_after : (xs : List Handed) (n : Network) → (after_sends xs n).met ≡ n.met
met_after [] n = refl
met_after (x ∷ xs) n = met_after xs (after_send (sent_as x) n)

pub listened_after : (xs : List Handed) (n : Network) → (after_sends xs n).listened ≡ n.listened
listened_after [] n = refl
listened_after (x ∷ xs) n = listened_after xs (after_send (sent_as x) n)

pub fates_add : (m n : ℕ) (fates : List Fate) → fates_of (m + n) fates ≡ fates_of m fates ++ fates_of n (drop m fates)
fates_add zero n fates = ap (λ k. fates_of k fates) (omega arith)
fates_add (suc m) n fates =
    let next : suc m + n ≡ suc (m + n) = omega arith in
    ap (λ k. fates_of k fates) next
    ∙ ap (λ fs. is_failure (next_fate fates) ∷ fs)
    (fates_add m n (drop 1 fates) ∙ ap (λ f. fates_of m (drop 1 fates) ++ fates_of n f) (drop_next m fates))
