-- A byte among the first sixteen of a text.
use Rattle.std.proofs.Common.{◌≡◌, ◌≢◌, ℕ, ◌+◌, ◌*◌, ◌%◌, ◌^◌, ◌<◌, ◌≤◌, eqb, Bool, true, false, not, List, [], ◌∷◌}
use Rattle.std.proofs.Common.{length, map, get_or, replicate, cond, w8, Some, None, refl, sym, ap, subst, ◌∙◌, arith}
use Rattle.std.specs.Int.Count.{count_trailing_zeros}
use Rattle.std.specs.List.{prefix_len}
use Rattle.std.specs.Simd.Lanes.{chunk, mask_l, top, zip2}
use Rattle.std.proofs.lemmas.Bool.{false≢true}
use Rattle.std.proofs.lemmas.Simd.{bitmask_splat, length-chunk, none_from_empty_mask, run_in_chunk_fails}
use Rattle.std.proofs.lemmas.Simd.{run_in_chunk_stops, trailing_mask_l}
use Rattle.memchr.specs.Find.{IsFirst, Passes, is_byte}

-- the lanes that are the byte, as bits
abbrev pub equal_bits : ℕ → List ℕ → ℕ
equal_bits at xs = mask_l (map (top 7) (zip2 (λ a b. cond (eqb a b) 255 0) (chunk 0 16 xs) (replicate 16 at))) % 2 ^ 64

bits_are : (at : ℕ) (xs : List ℕ) → 16 ≤ length xs → equal_bits at xs ≡ mask_l (map (is_byte at) (chunk 0 16 xs))
bits_are at xs many =
    bitmask_splat w8 eqb (chunk 0 16 xs) 16 at (length-chunk 0 16 xs (omega (arith, many))) (omega arith)

-- where no lane is the byte it isn't among them
pub none_in_lanes : (at : ℕ) (xs : List ℕ) → 16 ≤ length xs → equal_bits at xs ≡ 0 →
    IsFirst (Passes (is_byte at) xs) 0 16 None
none_in_lanes at xs many none =
    λ k low below passes. false≢true
    (sym (none_from_empty_mask (is_byte at) xs 0 16 0 (omega (arith, many)) (sym (bits_are at xs many) ∙ none) k low
    (omega (arith, below))) ∙ passes)

by_lane : (lane : Bool) (m run n : ℕ) → cond lane 1 0 + 2 * m ≢ 0 → (m ≢ 0 → run < n) →
    cond (not lane) (1 + run) 0 < 1 + n
by_lane true m run n some following = omega arith
by_lane false m run n some following =
    let less = following (λ none. some (omega (arith, none))) in omega (arith, less)

some_lane : (p : ℕ → Bool) (xs : List ℕ) → mask_l (map p xs) ≢ 0 → prefix_len (λ x. not (p x)) xs < length xs
some_lane p [] some = absurd (some refl)
some_lane p (x ∷ xs) some =
    let less = by_lane (p x) (mask_l (map p xs)) (prefix_len (λ x. not (p x)) xs) (length xs) some
    (some_lane p xs) in omega (arith, less)

-- and else the first lane that is tells where it first stands
pub some_in_lanes : (at : ℕ) (xs : List ℕ) → 16 ≤ length xs → equal_bits at xs ≢ 0 →
    IsFirst (Passes (is_byte at) xs) 0 16 (Some (count_trailing_zeros 64 (equal_bits at xs)))
some_in_lanes at xs many some =
    let p = is_byte at in
    let lanes = chunk 0 16 xs in
    let long = length-chunk 0 16 xs (omega (arith, many)) in
    let mask = bits_are at xs many in
    let counted : count_trailing_zeros 64 (equal_bits at xs) ≡ prefix_len (λ x. not (p x)) lanes =
    ap (count_trailing_zeros 64) mask ∙ trailing_mask_l p 64 lanes (omega (arith, long)) (omega (arith, mask, some)) in
    let few = some_lane p lanes (λ none. some (mask ∙ none)) in
    let run = count_trailing_zeros 64 (equal_bits at xs) in
    let room : 0 + 16 ≤ length xs = omega (arith, many) in (
      record {
        low = omega arith;
        high = omega (arith, counted, few, long);
        before = λ k low below passes. false≢true
            (sym (run_in_chunk_fails p xs 0 16 run 0 room counted k low (omega (arith, below))) ∙ passes);
      },
      subst (λ k. p (get_or xs k 0) ≡ true) (let same : 0 + run ≡ run = omega arith in same)
          (run_in_chunk_stops p xs 0 16 run 0 room counted (omega (arith, counted, few, long))),
    )
