-- Plans that are gathered as far as there is room.
use Rattle.std.proofs.Common.{◌≡◌, ℕ, zero, suc, ◌+◌, ◌<◌, ◌≤◌, Bool, true, false, List, [], ◌∷◌, ◌++◌, map, take}
use Rattle.std.proofs.Common.{length, get_or, refl, sym, ap, ◌∙◌, append_assoc, append-nil, length-append, arith}
use Rattle.std.specs.Prelude.{if◌then◌else◌}
use Rattle.std.proofs.lemmas.List.{map-append, take_all, take-append-le}
use Rattle.std.proofs.lemmas.List.Elements.{filter-append}
use Rattle.stack_mean.specs.Plan as mean
use Rattle.stack_mean.specs.Plans.{is_packet, plan_of}
use Rattle.stack_mean.specs.Shape.{ShapeOut}
use Rattle.stack_judge.proofs.Steps.{one_taken}
use Rattle.shape_core.specs.declared.types.ShapeOut as code
use Rattle.shape_core.specs.Sketch.{out_tree}
use Rattle.stack_shapes.specs.Lists.{packets_in, plan_or_none}

pub take_more : {X : Type 0} (n : ℕ) (xs ys : List X) → take n (take n xs ++ ys) ≡ take n (xs ++ ys)
take_more zero xs ys = refl
take_more (suc n) [] ys = refl
take_more (suc n) (x ∷ xs) ys = ap (λ zs. x ∷ zs) (take_more n xs ys)

-- nothing more
pub none_more : {X : Type 0} (xs ys : List X) → length xs ≤ 250 → ys ≡ [] → xs ≡ take 250 (xs ++ ys)
none_more xs ys few none =
    sym (ap (λ zs. take 250 (xs ++ zs)) none ∙ ap (take 250) (append-nil xs) ∙ take_all 250 xs few)

-- no room for more
pub no_room : {X : Type 0} (xs ys : List X) → length xs ≡ 250 → xs ≡ take 250 (xs ++ ys)
no_room xs ys full = sym (take-append-le 250 xs ys (omega (arith, full)) ∙ take_all 250 xs (omega (arith, full)))

-- one more
pub one_more : {X : Type 0} (xs ys : List X) (x : X) → length xs < 250 → ys ≡ x ∷ [] →
    xs ++ x ∷ [] ≡ take 250 (xs ++ ys)
one_more xs ys x few is =
    let size : length (xs ++ x ∷ []) ≡ length xs + 1 = length-append xs (x ∷ []) in
    sym (ap (λ zs. take 250 (xs ++ zs)) is ∙ take_all 250 (xs ++ x ∷ []) (omega (arith, few, size)))

abbrev choice : ShapeOut → Bool → List mean.Plan
choice out b = if b then plan_of out ∷ [] else []

pub no_packet : (out : ShapeOut) → is_packet out out.dir ≡ false → plan_or_none out ≡ []
no_packet out is = ap (choice out) is

pub a_packet : (out : ShapeOut) → is_packet out out.dir ≡ true → plan_or_none out ≡ plan_of out ∷ []
a_packet out is = ap (choice out) is

one_out : (out : ShapeOut) → map plan_of (packets_in (out ∷ [])) ≡ plan_or_none out
one_out out = go (is_packet out out.dir) where
  go : (b : Bool) → map plan_of (if b then out ∷ [] else []) ≡ choice out b
  go true = refl
  go false = refl

-- one output more
pub outs_more : (start done next : List mean.Plan) (outs : List code.ShapeOut) (i : ℕ) (out : code.ShapeOut) →
    i < length outs → out ≡ get_or outs i out →
    done ≡ take 250 (start ++ map plan_of (packets_in (map out_tree (take i outs)))) →
    next ≡ take 250 (done ++ plan_or_none (out_tree out)) →
    next ≡ take 250 (start ++ map plan_of (packets_in (map out_tree (take (i + 1) outs))))
outs_more start done next outs i out within at so_far more =
    let is_one : ShapeOut → Bool = λ out. is_packet out out.dir in
    let front : List ShapeOut = map out_tree (take i outs) in
    let whole : map plan_of (packets_in (map out_tree (take (i + 1) outs))) ≡ map plan_of (packets_in front) ++
    plan_or_none (out_tree out) =
    ap (λ xs. map plan_of (packets_in (map out_tree xs))) (one_taken outs i out within at)
    ∙ ap (λ xs. map plan_of (packets_in xs)) (map-append out_tree (take i outs) (out ∷ []))
    ∙ ap (map plan_of) (filter-append is_one front (out_tree out ∷ []))
    ∙ map-append plan_of (packets_in front) (packets_in (out_tree out ∷ []))
    ∙ ap (λ xs. map plan_of (packets_in front) ++ xs) (one_out (out_tree out)) in
    more
    ∙ ap (λ xs. take 250 (xs ++ plan_or_none (out_tree out))) so_far
    ∙ take_more 250 (start ++ map plan_of (packets_in front)) (plan_or_none (out_tree out))
    ∙ ap (take 250) (append_assoc start (map plan_of (packets_in front)) (plan_or_none (out_tree out)) ∙
    ap (λ xs. start ++ xs) (sym whole))
