-- A text that is joined piece by piece.
use Rattle.std.proofs.Common.{◌≡◌, ℕ, zero, suc, ◌+◌, ◌<◌, List, [], ◌∷◌, ◌++◌, length, take, get_or, refl, sym, ap}
use Rattle.std.proofs.Common.{◌∙◌, append_assoc, append-nil, length-take-le, arith}
use Rattle.std.proofs.lemmas.List.{take_more}
use Rattle.std.proofs.lemmas.Grind.{flat_map-append}
use Rattle.std.specs.List.{join_by, flat_map}
use Rattle.report_lines.specs.Lead.{lead}

pub join_step : {X : Type 0} (f : X → List ℕ) (sep : List ℕ) (xs : List X) (x : X) →
    join_by f sep (xs ++ x ∷ []) ≡ join_by f sep xs ++ lead sep (length xs) ++ f x
join_step f sep [] x = append-nil (f x)
join_step f sep (y ∷ ys) x =
    ap (λ zs. f y ++ zs) (flat_map-append (λ z. sep ++ f z) ys (x ∷ [])) ∙
    ap (λ zs. f y ++ (flat_map (λ z. sep ++ f z) ys ++ zs)) (append-nil (sep ++ f x)) ∙
    sym (append_assoc (f y) (flat_map (λ z. sep ++ f z) ys) (sep ++ f x)) ∙
    sym (append_assoc (f y ++ flat_map (λ z. sep ++ f z) ys) sep (f x))

pub join_more : {X : Type 0} (f : X → List ℕ) (sep : List ℕ) (xs : List X) (k : ℕ) (x d : X) →
    k < length xs → x ≡ get_or xs k d →
    join_by f sep (take (k + 1) xs) ≡ join_by f sep (take k xs) ++ lead sep k ++ f x
join_more f sep xs k x d lt is =
    ap (join_by f sep) (take_more xs k d lt ∙ ap (λ y. take k xs ++ y ∷ []) (sym is)) ∙
    join_step f sep (take k xs) x ∙
    ap (λ n. join_by f sep (take k xs) ++ lead sep n ++ f x) (length-take-le k xs (omega (arith, lt)))

pub lead_later : (sep : List ℕ) (k : ℕ) → 0 < k → lead sep k ≡ sep
lead_later sep zero lt = absurd (omega (arith, lt))
lead_later sep (suc k) lt = refl

-- one more piece after a line that holds the pieces before it
pub line_more : {X : Type 0} (f : X → List ℕ) (sep : List ℕ) (xs : List X) (k : ℕ) (x d : X) (base a b c : List ℕ) →
    a ≡ base ++ join_by f sep (take k xs) → b ≡ a ++ lead sep k → c ≡ b ++ f x →
    k < length xs → x ≡ get_or xs k d → c ≡ base ++ join_by f sep (take (k + 1) xs)
line_more f sep xs k x d base a b c ea eb ec lt is =
    let whole = join_by f sep (take k xs) in
    ec ∙ ap (λ z. z ++ f x) eb ∙ ap (λ z. z ++ lead sep k ++ f x) ea ∙
    ap (λ z. z ++ f x) (append_assoc base whole (lead sep k)) ∙
    append_assoc base (whole ++ lead sep k) (f x) ∙
    ap (λ z. base ++ z) (sym (join_more f sep xs k x d lt is))

-- one more piece, where one call appends its separator and itself
pub line_next : {X : Type 0} (f : X → List ℕ) (sep : List ℕ) (xs : List X) (k : ℕ) (d : X) (base a c : List ℕ) →
    a ≡ base ++ join_by f sep (take k xs) → c ≡ a ++ lead sep k ++ f (get_or xs k d) → k < length xs →
    c ≡ base ++ join_by f sep (take (k + 1) xs)
line_next f sep xs k d base a c ea ec lt =
    line_more f sep xs k (get_or xs k d) d base a (a ++ lead sep k) c ea refl ec lt refl
