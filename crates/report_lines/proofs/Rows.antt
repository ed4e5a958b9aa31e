-- The items of a row, joined.
use Rattle.std.proofs.Common.{◌≡◌, ℕ, List, [], ◌∷◌, ◌++◌, map, length, refl, sym, ap, ◌∙◌, append-nil}
use Rattle.std.proofs.lemmas.List.{length-map}
use Rattle.std.specs.List.{join_by, flat_map}
use Rattle.std.specs.Prelude.{OnOk, Result, Ok, Err, Some, None, codes}
use Rattle.layer_mean.specs.Tree.{LayerTree}
use Rattle.msg_core.specs.Chain.{Content}
use Rattle.run_mean.specs.Text.{message_text, row_text}
use Rattle.std.specs.Fmt.{decimal}
use Rattle.report_lines.specs.Lead.{lead}
use Rattle.report_lines.proofs.Joined.{join_step}

-- pieces that are joined once they are written are joined as they are written
after_map : {X : Type 0} (f : X → List ℕ) (sep : List ℕ) (xs : List X) →
    flat_map (λ piece. sep ++ piece) (map f xs) ≡ flat_map (λ x. sep ++ f x) xs
after_map f sep [] = refl
after_map f sep (x ∷ xs) = ap (λ rest. (sep ++ f x) ++ rest) (after_map f sep xs)

join_map : {X : Type 0} (f : X → List ℕ) (sep : List ℕ) (xs : List X) → join_by (λ piece. piece) sep (map f xs) ≡
    join_by f sep xs
join_map f sep [] = refl
join_map f sep (x ∷ xs) = ap (λ rest. f x ++ rest) (after_map f sep xs)

-- a text that was put after a line is the same in other words
pub in_other_words : {E : Type 0} (r : Result (Unit {0}) E) (line new a b : List ℕ) → a ≡ b → OnOk r (new ≡ line ++ a) →
    OnOk r (new ≡ line ++ b)
in_other_words (Ok done) line new a b same put = put ∙ ap (λ text. line ++ text) same
in_other_words (Err e) line new a b same put = put

pub numbers_alone : (stack : List LayerTree) (numbers : List ℕ) →
    codes "[" ++ join_by decimal (44 ∷ []) numbers ++ codes "]" ≡
    row_text stack (record { numbers = numbers; message = None })
numbers_alone stack numbers = sym (
    ap (λ pieces. codes "[" ++ join_by (λ item. item) (44 ∷ []) pieces ++ codes "]") (append-nil (map decimal numbers))
    ∙ ap (λ text. codes "[" ++ text ++ codes "]") (join_map decimal (44 ∷ []) numbers))

pub numbers_and_message : (stack : List LayerTree) (numbers : List ℕ) (message : Content) →
    codes "[" ++ join_by decimal (44 ∷ []) numbers ++ lead (44 ∷ []) (length numbers) ++ message_text stack message ++
    codes "]"
    ≡ row_text stack (record { numbers = numbers; message = Some message })
numbers_and_message stack numbers message = sym (
    ap (λ text. codes "[" ++ text ++ codes "]")
    (join_step (λ item. item) (44 ∷ []) (map decimal numbers) (message_text stack message))
    ∙ ap (λ text. codes "[" ++ (text ++ lead (44 ∷ []) (length (map decimal numbers)) ++ message_text stack message) ++
    codes "]")
    (join_map decimal (44 ∷ []) numbers)
    ∙ ap (λ n. codes "[" ++ (join_by decimal (44 ∷ []) numbers ++ lead (44 ∷ []) n ++ message_text stack message) ++
    codes "]")
    (length-map numbers decimal))
