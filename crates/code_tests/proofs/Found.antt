-- What is found in lists, and the numbers that operands name.
use Rattle.std.proofs.Common.{◌≡◌, ℕ, zero, suc, ◌+◌, ◌<◌, List, [], ◌∷◌, ◌++◌, map, take, length, slice_index_or, None}
use Rattle.std.proofs.Common.{refl, sym, ap, ap₂, ◌∙◌, arith}
use Rattle.std.specs.List.{slice_get}
use Rattle.std.proofs.lemmas.List.{length-append, map-append, map_more}
use Rattle.std.proofs.Math.ListN.{get_or-map}
use Rattle.std.proofs.Math.Seq.{take-length}
use Rattle.trace_mean.specs.Worth.{Input, Kept}
use Rattle.guard_mean.specs.Code as code
use Rattle.guard_mean.specs.Machine.{operand_at}
use Rattle.code_make.specs.Kept.{zero_operand}
use Rattle.code_make.specs.Trees.{operand_tree}
use Rattle.code_make.specs.declared.operand.Operand.{Operand}

-- What is seen of one that isn't there.
pub missing : {A B : Type 0} (f : A → B) (xs : List A) (k : ℕ) (d : B) → None ≡ slice_get xs k →
    slice_index_or (map f xs) k d ≡ d
missing f [] k d is = refl
missing f (x ∷ xs) zero d is = absurd (cc is)
missing f (x ∷ xs) (suc k) d is = missing f xs k d is

pub operand_missing : (i : Input) (kept : Kept) (xs : List Operand) (k : ℕ) → None ≡ slice_get xs k →
    0 ≡ operand_at i kept (operand_tree (slice_index_or xs k zero_operand))
operand_missing i kept xs k is =
    ap (operand_at i kept)
    (sym (missing operand_tree xs k (code.number 0) is) ∙ get_or-map operand_tree xs k zero_operand)

pub one_longer : (old new : List ℕ) (n k : ℕ) → length old ≡ k → new ≡ old ++ n ∷ [] → length new ≡ k + 1
one_longer old new n k so put = ap length put ∙ length-append old (n ∷ []) ∙ ap (λ j. j + 1) so

-- One operand more is named.
pub one_more : (f : code.Operand → ℕ) (xs : List Operand) (k : ℕ) (old new : List ℕ) (n : ℕ) → k < length xs →
    old ≡ map f (map operand_tree (take k xs)) →
    n ≡ f (operand_tree (slice_index_or xs k zero_operand)) → new ≡ old ++ n ∷ [] →
    new ≡ map f (map operand_tree (take (k + 1) xs))
one_more f xs k old new n lt so is put = put ∙ ap₂ (λ l m. l ++ m ∷ []) so is
    ∙ sym (map-append f (map operand_tree (take k xs)) (operand_tree (slice_index_or xs k zero_operand) ∷ []))
    ∙ ap (map f) (sym (map_more operand_tree xs k zero_operand lt))

pub all_named : (f : code.Operand → ℕ) (xs : List Operand) (k : ℕ) (all : List ℕ) → k ≡ length xs →
    all ≡ map f (map operand_tree (take k xs)) →
    all ≡ map f (map operand_tree xs)
all_named f xs k all end so = so ∙ ap (λ l. map f (map operand_tree l)) (ap (λ j. take j xs) end ∙ take-length xs)

-- The only operand is named, and each of two.
pub one_named : (f : code.Operand → ℕ) (xs : List Operand) (old all : List ℕ) (n : ℕ) → length xs ≡ 1 → old ≡ [] →
    n ≡ f (operand_tree (slice_index_or xs 0 zero_operand)) → all ≡ old ++ n ∷ [] → all ≡ map f (map operand_tree xs)
one_named f [] old all n one none is put = absurd (omega (arith, one))
one_named f (x ∷ []) old all n one none is put = put ∙ ap₂ (λ l m. l ++ m ∷ []) none is
one_named f (x ∷ y ∷ xs) old all n one none is put = absurd (omega (arith, one))

pub two_named : (f : code.Operand → ℕ) (xs : List Operand) (old next all : List ℕ) (m n : ℕ) → length xs ≡ 2 →
    old ≡ [] → m ≡ f (operand_tree (slice_index_or xs 0 zero_operand)) → next ≡ old ++ m ∷ [] →
    n ≡ f (operand_tree (slice_index_or xs 1 zero_operand)) → all ≡ next ++ n ∷ [] → all ≡ map f (map operand_tree xs)
two_named f [] old next all m n two none first once second put = absurd (omega (arith, two))
two_named f (x ∷ []) old next all m n two none first once second put = absurd (omega (arith, two))
two_named f (x ∷ y ∷ []) old next all m n two none first once second put =
    put ∙ ap₂ (λ l k. l ++ k ∷ []) (once ∙ ap₂ (λ l k. l ++ k ∷ []) none first) second
two_named f (x ∷ y ∷ z ∷ xs) old next all m n two none first once second put = absurd (omega (arith, two))
