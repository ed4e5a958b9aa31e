-- The lines of outputs, one output after the other.
use Rattle.std.proofs.Common.{◌≡◌, ℕ, ◌+◌, ◌<◌, List, [], ◌∷◌, ◌++◌, length, take, drop, refl, sym, ap, ◌∙◌}
use Rattle.std.proofs.Common.{append_assoc, append-nil, Option, Some}
use Rattle.std.proofs.lemmas.List.{take_more, take-append-drop}
use Rattle.std.proofs.lemmas.Option.{get_or_from_slice_get}
use Rattle.std.specs.Prelude.{slice_get, Err}
use Rattle.layer_mean.specs.Tree.{LayerTree}
use Rattle.outside.specs.declared.sink.SinkError.{SinkError}
use Rattle.run_mean.specs.Member.{Output}
use Rattle.run_mean.specs.Report.{Annex, lines_of_outputs, output_lines, number_following}
use Rattle.outside.specs.Lines.{Gains, Wrote}
use Rattle.outside.specs.Tells.{Tells}
use Rattle.outside.proofs.Gaining.{gains_then, cut_short}
use Rattle.report_text.specs.Numbered.{number_after}

pub lines_append : (stack : List LayerTree) (annex : Annex) (id k : ℕ) (xs ys : List (Output × Option ℕ)) →
    lines_of_outputs stack annex id k (xs ++ ys) ≡ lines_of_outputs stack annex id k xs ++
    lines_of_outputs stack annex id (number_after k xs) ys
lines_append stack annex id k [] ys = refl
lines_append stack annex id k (o ∷ xs) ys =
    ap (λ rest. output_lines stack id k o.0 ++ annex k o ++ rest)
    (lines_append stack annex id (number_following k o.0) xs ys)
    ∙ sym (append_assoc (output_lines stack id k o.0 ++ annex k o)
    (lines_of_outputs stack annex id (number_following k o.0) xs)
    (lines_of_outputs stack annex id (number_after (number_following k o.0) xs) ys))

after_append : (k : ℕ) (xs ys : List (Output × Option ℕ)) →
    number_after k (xs ++ ys) ≡ number_after (number_after k xs) ys
after_append k [] ys = refl
after_append k (o ∷ xs) ys = after_append (number_following k o.0) xs ys

-- the outputs up to and with number i
outputs_more : (outs : List (Output × Option ℕ)) (i : ℕ) (o : Output × Option ℕ) → i < length outs →
    slice_get outs i ≡ Some o →
    take (i + 1) outs ≡ take i outs ++ o ∷ []
outputs_more outs i o lt is = take_more outs i o lt ∙
    ap (λ x. take i outs ++ x ∷ []) (get_or_from_slice_get outs i o o is)

pub number_more : (outs : List (Output × Option ℕ)) (first i k next : ℕ) (o : Output × Option ℕ) →
    k ≡ number_after first (take i outs) →
    next ≡ number_following k o.0 → i < length outs → slice_get outs i ≡ Some o →
    next ≡ number_after first (take (i + 1) outs)
number_more outs first i k next o ek en lt is =
    en ∙ ap (λ n. number_following n o.0) ek ∙
    sym (ap (number_after first) (outputs_more outs i o lt is) ∙ after_append first (take i outs) (o ∷ []))

-- the lines of the outputs up to and with number i
front_more : (stack : List LayerTree) (annex : Annex) (id first i k : ℕ) (outs : List (Output × Option ℕ))
    (o : Output × Option ℕ) →
    k ≡ number_after first (take i outs) → i < length outs → slice_get outs i ≡ Some o →
    lines_of_outputs stack annex id first (take (i + 1) outs)
    ≡ lines_of_outputs stack annex id first (take i outs) ++ (output_lines stack id k o.0 ++ annex k o)
front_more stack annex id first i k outs o ek lt is =
    ap (lines_of_outputs stack annex id first) (outputs_more outs i o lt is)
    ∙ lines_append stack annex id first (take i outs) (o ∷ [])
    ∙ ap (λ n. lines_of_outputs stack annex id first (take i outs) ++ (output_lines stack id n o.0 ++ annex n o ++ []))
    (sym ek)
    ∙ ap (λ lines. lines_of_outputs stack annex id first (take i outs) ++ lines)
    (append-nil (output_lines stack id k o.0 ++ annex k o))

pub outputs_gain : (stack : List LayerTree) (annex : Annex) (id first i k : ℕ) (outs : List (Output × Option ℕ))
    (o : Output × Option ℕ)
    (a b c : Tells) → Gains a b (lines_of_outputs stack annex id first (take i outs)) →
    Gains b c (output_lines stack id k o.0 ++ annex k o) →
    k ≡ number_after first (take i outs) → i < length outs → slice_get outs i ≡ Some o →
    Gains a c (lines_of_outputs stack annex id first (take (i + 1) outs))
outputs_gain stack annex id first i k outs o a b c h now ek lt is =
    gains_then a b c _ _ _ h now (front_more stack annex id first i k outs o ek lt is)

pub outputs_cut : (stack : List LayerTree) (annex : Annex) (id first i k : ℕ) (outs : List (Output × Option ℕ))
    (o : Output × Option ℕ)
    (a b c : Tells) (e : SinkError) →
    Gains a b (lines_of_outputs stack annex id first (take i outs)) →
    Wrote (output_lines stack id k o.0 ++ annex k o) b c (Err e) →
    k ≡ number_after first (take i outs) → i < length outs → slice_get outs i ≡ Some o →
    Wrote (lines_of_outputs stack annex id first outs) a c (Err e)
outputs_cut stack annex id first i k outs o a b c e h now ek lt is =
    cut_short a b c (lines_of_outputs stack annex id first (take i outs)) (output_lines stack id k o.0 ++ annex k o) _
    (lines_of_outputs stack annex id (number_after first (take (i + 1) outs)) (drop (i + 1) outs)) e h now
    (ap (lines_of_outputs stack annex id first) (sym (take-append-drop (i + 1) outs))
    ∙ lines_append stack annex id first (take (i + 1) outs) (drop (i + 1) outs)
    ∙ ap (λ lines. lines ++ lines_of_outputs stack annex id (number_after first (take (i + 1) outs))
    (drop (i + 1) outs))
    (front_more stack annex id first i k outs o ek lt is))
