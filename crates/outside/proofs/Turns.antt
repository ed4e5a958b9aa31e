-- What a sink gained of lines in parts: of two parts, and of the items of a list with their numbers.
use Rattle.std.proofs.Common.{◌≡◌, ℕ, ◌+◌, ◌<◌, ◌≤◌, List, [], ◌∷◌, ◌++◌, length, take, drop, get_or, refl, sym, ap}
use Rattle.std.proofs.Common.{subst, ◌∙◌, append-nil, arith}
use Rattle.std.proofs.lemmas.Grind.{flat_map-append}
use Rattle.std.proofs.lemmas.List.{take_more, take_all, take-append-drop}
use Rattle.std.proofs.lemmas.List.FromFn.{length-enumerate_from, get_or-enumerate_from}
use Rattle.std.specs.List.{enumerate_from, flat_map}
use Rattle.std.specs.Prelude.{Result, Ok, Err}
use Rattle.outside.specs.declared.sink.SinkError.{SinkError}
use Rattle.outside.specs.Tells.{Tells}
use Rattle.outside.specs.Lines.{Gains, Wrote}
use Rattle.outside.proofs.Gaining.{gains_none, gains_then, cut_short}

pub wrote_as : (a b : Tells) (xs ys : List (List ℕ)) (r : Result (Unit {0}) SinkError) → xs ≡ ys → Wrote xs a b r →
    Wrote ys a b r
wrote_as a b xs ys r same h = subst (λ lines. Wrote lines a b r) same h

-- some lines were written and further ones after them, whole or in part: that is writing all of them
pub wrote_both : (a b c : Tells) (xs ys : List (List ℕ)) (r : Result (Unit {0}) SinkError) → Gains a b xs →
    Wrote ys b c r → Wrote (xs ++ ys) a c r
wrote_both a b c xs ys (Ok done) h k = gains_then a b c xs ys (xs ++ ys) h k refl
wrote_both a b c xs ys (Err e) h k = cut_short a b c xs ys (xs ++ ys) [] e h k (sym (append-nil (xs ++ ys)))

-- where the first lines weren't all written, no more lines were written than that
pub wrote_part : (a b : Tells) (xs ys : List (List ℕ)) (e : SinkError) → Wrote xs a b (Err e) →
    Wrote (xs ++ ys) a b (Err e)
wrote_part a b xs ys e h = cut_short a a b [] xs (xs ++ ys) ys e (gains_none a) h refl

pub part_of : (a b : Tells) (xs ys zs : List (List ℕ)) (e : SinkError) → zs ≡ xs ++ ys → Wrote xs a b (Err e) →
    Wrote zs a b (Err e)
part_of a b xs ys zs e is h = cut_short a a b [] xs zs ys e (gains_none a) h is

-- the numbered items up to and with number k
numbered_more : {X : Type 0} (xs : List X) (k : ℕ) (x d : X) → k < length xs → x ≡ get_or xs k d →
    take (k + 1) (enumerate_from 0 xs) ≡ take k (enumerate_from 0 xs) ++ (k, x) ∷ []
numbered_more xs k x d lt is =
    let within : k < length (enumerate_from 0 xs) = omega (arith, lt, length-enumerate_from 0 xs) in
    let at : 0 + k ≡ k = omega arith in
    take_more (enumerate_from 0 xs) k (0, d) within ∙
    ap (λ y. take k (enumerate_from 0 xs) ++ y ∷ [])
    (get_or-enumerate_from 0 xs k (0, d) lt ∙ ap (λ n. (n, get_or xs k d)) at ∙ ap (λ y. (k, y)) (sym is))

front_more : {X : Type 0} (f : ℕ × X → List (List ℕ)) (xs : List X) (k : ℕ) (x d : X) → k < length xs →
    x ≡ get_or xs k d →
    flat_map f (take (k + 1) (enumerate_from 0 xs)) ≡ flat_map f (take k (enumerate_from 0 xs)) ++ f (k, x)
front_more f xs k x d lt is =
    ap (flat_map f) (numbered_more xs k x d lt is)
    ∙ flat_map-append f (take k (enumerate_from 0 xs)) ((k, x) ∷ [])
    ∙ ap (λ lines. flat_map f (take k (enumerate_from 0 xs)) ++ lines) (append-nil (f (k, x)))

-- one item more
pub turns_more : {X : Type 0} (f : ℕ × X → List (List ℕ)) (xs : List X) (k : ℕ) (x d : X) (a b c : Tells) →
    Gains a b (flat_map f (take k (enumerate_from 0 xs))) → Gains b c (f (k, x)) → k < length xs → x ≡ get_or xs k d →
    Gains a c (flat_map f (take (k + 1) (enumerate_from 0 xs)))
turns_more f xs k x d a b c h now lt is = gains_then a b c _ _ _ h now (front_more f xs k x d lt is)

-- an item that was cut short cuts all short
pub turns_cut : {X : Type 0} (f : ℕ × X → List (List ℕ)) (xs : List X) (k : ℕ) (x d : X) (a b c : Tells)
    (e : SinkError) →
    Gains a b (flat_map f (take k (enumerate_from 0 xs))) → Wrote (f (k, x)) b c (Err e) → k < length xs →
    x ≡ get_or xs k d →
    Wrote (flat_map f (enumerate_from 0 xs)) a c (Err e)
turns_cut f xs k x d a b c e h now lt is =
    let items = enumerate_from 0 xs in
    cut_short a b c (flat_map f (take k items)) (f (k, x)) (flat_map f items) (flat_map f (drop (k + 1) items)) e h now
    (ap (flat_map f) (sym (take-append-drop (k + 1) items))
    ∙ flat_map-append f (take (k + 1) items) (drop (k + 1) items)
    ∙ ap (λ lines. lines ++ flat_map f (drop (k + 1) items)) (front_more f xs k x d lt is))

-- all items
pub turns_done : {X : Type 0} (f : ℕ × X → List (List ℕ)) (xs : List X) (n : ℕ) (a b : Tells) →
    Gains a b (flat_map f (take n (enumerate_from 0 xs))) → length xs ≤ n → Gains a b (flat_map f (enumerate_from 0 xs))
turns_done f xs n a b h le =
    let within : length (enumerate_from 0 xs) ≤ n = omega (arith, le, length-enumerate_from 0 xs) in
    subst (λ items. Gains a b (flat_map f items)) (take_all n (enumerate_from 0 xs) within) h
