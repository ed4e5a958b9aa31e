-- Parts that lie one after the other.
use Rattle.std.proofs.Common.{◌≡◌, ℕ, zero, suc, ◌-◌, ◌<◌, ◌≤◌, List, [], ◌∷◌, ◌++◌, length, get_or, take, drop, Some}
use Rattle.std.proofs.Common.{None, slice_get, refl, ap, sym, subst, ◌∙◌, arith, length-append}
use Rattle.std.specs.List.{slice_range}
use Rattle.std.proofs.Math.Seq.{drop-append_seam}
use Rattle.std.proofs.lemmas.Option.{slice_get_past}
use Rattle.std.proofs.lemmas.List.{drop-append-le, take-append-le, length-drop, take_all}
use Rattle.group_world.specs.Parts.{parts_from, EndAt, start_of}
use Rattle.group_feed.specs.Standing.{spelled_number}

-- there are as many parts as ends
pub count_of : (bytes : List ℕ) (from : ℕ) (ends : List ℕ) → length (parts_from bytes from ends) ≡ length ends
count_of bytes from [] = refl
count_of bytes from (end ∷ ends) = ap suc (count_of bytes end ends)

-- parts begin within the bytes, and none ends after them
pub within : (total from : ℕ) (ends : List ℕ) → EndAt total from ends → from ≤ total
within total from [] is = omega arith
within total from (end ∷ ends) is = let more = within total end ends is.1 in let le = is.0 in omega arith

pub starts_before : (total from : ℕ) (ends : List ℕ) (k : ℕ) → EndAt total from ends → k < length ends →
    start_of from ends k ≤ get_or ends k 0
starts_before total from [] k is lt = absurd (omega arith)
starts_before total from (end ∷ ends) zero is lt = is.0
starts_before total from (end ∷ ends) (suc zero) is lt = starts_before total end ends zero is.1 (omega arith)
starts_before total from (end ∷ ends) (suc (suc k)) is lt = starts_before total end ends (suc k) is.1 (omega arith)

pub ends_within : (total from : ℕ) (ends : List ℕ) (k : ℕ) → EndAt total from ends → k < length ends →
    get_or ends k 0 ≤ total
ends_within total from [] k is lt = absurd (omega arith)
ends_within total from (end ∷ ends) zero is lt = within total end ends is.1
ends_within total from (end ∷ ends) (suc k) is lt = ends_within total end ends k is.1 (omega arith)

-- part k
pub part_at : (bytes : List ℕ) (from : ℕ) (ends : List ℕ) (k : ℕ) → k < length ends →
    slice_get (parts_from bytes from ends) k ≡ Some (slice_range bytes (start_of from ends k) (get_or ends k 0))
part_at bytes from [] k lt = absurd (omega arith)
part_at bytes from (end ∷ ends) zero lt = refl
part_at bytes from (end ∷ ends) (suc zero) lt = part_at bytes end ends zero (omega arith)
part_at bytes from (end ∷ ends) (suc (suc k)) lt = part_at bytes end ends (suc k) (omega arith)

-- a part stays, whatever bytes come after it
range_stays : (bytes more : List ℕ) (from end : ℕ) → from ≤ end → end ≤ length bytes →
    slice_range (bytes ++ more) from end ≡ slice_range bytes from end
range_stays bytes more from end le within =
    ap (λ xs. take (end - from) xs) (drop-append-le from bytes more (omega arith)) ∙
    take-append-le (end - from) (drop from bytes) more (omega (arith, length-drop from bytes))

-- all bytes after a place
range_after : (bytes more : List ℕ) → slice_range (bytes ++ more) (length bytes) (length (bytes ++ more)) ≡ more
range_after bytes more =
    ap (λ xs. take (length (bytes ++ more) - length bytes) xs) (drop-append_seam bytes more) ∙
    take_all (length (bytes ++ more) - length bytes) more (omega (arith, length-append bytes more))

-- one part more
pub put_after : (bytes more : List ℕ) (from : ℕ) (ends : List ℕ) → EndAt (length bytes) from ends →
    parts_from (bytes ++ more) from (ends ++ length (bytes ++ more) ∷ []) ≡ parts_from bytes from ends ++ more ∷ []
put_after bytes more from [] is =
    ap (λ n. slice_range (bytes ++ more) n (length (bytes ++ more)) ∷ []) is ∙
    ap (λ xs. xs ∷ []) (range_after bytes more)
put_after bytes more from (end ∷ ends) is =
    ap (λ xs. xs ∷ parts_from (bytes ++ more) end (ends ++ length (bytes ++ more) ∷ []))
    (range_stays bytes more from end is.0 (within (length bytes) end ends is.1)) ∙
    ap (λ xs. slice_range bytes from end ∷ xs) (put_after bytes more end ends is.1)

pub ends_after : (bytes more : List ℕ) (from : ℕ) (ends : List ℕ) → EndAt (length bytes) from ends →
    EndAt (length (bytes ++ more)) from (ends ++ length (bytes ++ more) ∷ [])
ends_after bytes more from [] is = (omega (arith, length-append bytes more), refl)
ends_after bytes more from (end ∷ ends) is = (is.0, ends_after bytes more end ends is.1)

-- what is written after all bytes, with its end after all ends
pub put_is : (bytes more new : List ℕ) (ends kept : List ℕ) (end : ℕ) (parts : List (List ℕ)) →
    parts_from bytes 0 ends ≡ parts →
    new ≡ bytes ++ more → kept ≡ ends ++ end ∷ [] → end ≡ length new → EndAt (length bytes) 0 ends →
    parts_from new 0 kept ≡ parts ++ more ∷ []
put_is bytes more new ends kept end parts shown written put last is =
    ap (λ xs. parts_from new 0 xs) (put ∙ ap (λ n. ends ++ n ∷ []) last) ∙
    ap (λ xs. parts_from xs 0 (ends ++ length xs ∷ [])) written ∙ put_after bytes more 0 ends is ∙
    ap (λ xs. xs ++ more ∷ []) shown

pub ends_are : (bytes more new : List ℕ) (ends kept : List ℕ) (end : ℕ) →
    new ≡ bytes ++ more → kept ≡ ends ++ end ∷ [] → end ≡ length new → EndAt (length bytes) 0 ends →
    EndAt (length new) 0 kept
ends_are bytes more new ends kept end written put last is =
    subst (EndAt (length new) 0) (sym (put ∙ ap (λ n. ends ++ n ∷ []) last))
    (subst (λ xs. EndAt (length xs) 0 (ends ++ length xs ∷ [])) (sym written) (ends_after bytes more 0 ends is))

-- the part of a number
pub numbered_is : (bytes ends : List ℕ) (parts : List (List ℕ)) (number : ℕ) (found : List ℕ) →
    parts_from bytes 0 ends ≡ parts →
    (number ≡ 0 → ⊥) → slice_get (parts_from bytes 0 ends) (number - 1) ≡ Some found →
    Some found ≡ spelled_number parts number
numbered_is bytes ends parts zero found shown some at = absurd (some refl)
numbered_is bytes ends parts (suc k) found shown some at =
    let before : suc k - 1 ≡ k = omega arith in
    sym at ∙ ap (λ i. slice_get (parts_from bytes 0 ends) i) before ∙ ap (λ ps. slice_get ps k) shown

pub none_numbered : (bytes ends : List ℕ) (parts : List (List ℕ)) (number : ℕ) → parts_from bytes 0 ends ≡ parts →
    (number ≡ 0 → ⊥) → length ends ≤ number - 1 → None ≡ spelled_number parts number
none_numbered bytes ends parts zero shown some past = absurd (some refl)
none_numbered bytes ends parts (suc k) shown some past =
    let before : suc k - 1 ≡ k = omega arith in
    let count = count_of bytes 0 ends in
    let same = ap length shown in
    sym (slice_get_past parts k (omega (arith, count, same)))
