-- The text of counts, and counts of outputs in turn.
use Rattle.std.proofs.Common.{◌≡◌, ℕ, ◌+◌, ◌<◌, List, [], ◌∷◌, ◌++◌, length, take, refl, sym, ap, ◌∙◌, append_assoc}
use Rattle.std.proofs.Common.{codes, Option, Some}
use Rattle.std.proofs.lemmas.List.{take_more}
use Rattle.std.proofs.lemmas.List.Sums.{fold-append}
use Rattle.std.proofs.lemmas.Option.{get_or_from_slice_get}
use Rattle.std.specs.Fmt.{decimal}
use Rattle.std.specs.List.{fold, join_by}
use Rattle.std.specs.Prelude.{slice_get}
use Rattle.run_mean.specs.Member.{Output}
use Rattle.run_mean.specs.Report.{end_line}
use Rattle.report_text.specs.Counts.{count_text, kinds_line, output_counted}
use Rattle.report_text.specs.declared.counts.Counts.{Counts}

-- a count before a text
count_then : (word : List ℕ) (n : ℕ) (rest : List ℕ) → count_text word n ++ rest ≡ word ++
    (codes " " ++ (decimal n ++ (codes " " ++ rest)))
unfolding count_text
count_then word n rest = simp append_assoc

ten_parts : (a b c d e f g h i j : List ℕ) →
    a ++ b ++ c ++ d ++ e ++ f ++ g ++ h ++ i ++ j ≡ a ++ (b ++ (c ++ (d ++ (e ++ (f ++ (g ++ (h ++ (i ++ j))))))))
ten_parts a b c d e f g h i j = simp append_assoc

-- a count before the text of a line
four_parts : (a b c d e f : List ℕ) → a ++ (b ++ (c ++ (d ++ (e ++ f)))) ≡ (a ++ (b ++ (c ++ (d ++ e)))) ++ f
four_parts a b c d e f = sym (simp append_assoc)

after_count : (word : List ℕ) (n : ℕ) (a b : List ℕ) → a ≡ b ++ codes "\n" →
    count_text word n ++ a ≡ (word ++ (codes " " ++ (decimal n ++ (codes " " ++ b)))) ++ codes "\n"
after_count word n a b same =
    count_then word n a ∙ ap (λ rest. word ++ (codes " " ++ (decimal n ++ (codes " " ++ rest)))) same
    ∙ four_parts word (codes " ") (decimal n) (codes " ") b (codes "\n")

pub kinds_joined : (c : Counts) →
    count_text (codes "deliver") c.deliver ++ count_text (codes "packet") c.packet ++ count_text (codes "timer") c.timer
    ++ count_text (codes "block") c.block ++ count_text (codes "announce") c.announce ++
    count_text (codes "view") c.view
    ++ count_text (codes "out") c.out ++ count_text (codes "refused") c.refused ++
    count_text (codes "absent") c.absent ++ end_line c.events
    ≡ kinds_line c
kinds_joined c = ten_parts (count_text (codes "deliver") c.deliver) (count_text (codes "packet") c.packet)
    (count_text (codes "timer") c.timer)
    (count_text (codes "block") c.block) (count_text (codes "announce") c.announce) (count_text (codes "view") c.view)
    (count_text (codes "out") c.out) (count_text (codes "refused") c.refused) (count_text (codes "absent") c.absent)
    (end_line c.events)
    ∙ after_count (codes "deliver") c.deliver _ _
    (after_count (codes "packet") c.packet _ _ (after_count (codes "timer") c.timer _ _
    (after_count (codes "block") c.block _ _
    (after_count (codes "announce") c.announce _ _ (after_count (codes "view") c.view _ _
    (after_count (codes "out") c.out _ _
    (after_count (codes "refused") c.refused _ _ (after_count (codes "absent") c.absent _
    (join_by (λ word. word) (codes " ") (codes "end" ∷ decimal c.events ∷ [])) refl))))))))

pub counted_more : (c : Counts) (outs : List (Output × Option ℕ)) (i : ℕ) (o : Output × Option ℕ) (now next : Counts) →
    now ≡ fold output_counted c (take i outs) → next ≡ output_counted now o → i < length outs →
    slice_get outs i ≡ Some o →
    next ≡ fold output_counted c (take (i + 1) outs)
counted_more c outs i o now next en ex lt is =
    ex ∙ ap (λ n. output_counted n o) en
    ∙ sym (ap (fold output_counted c)
    (take_more outs i o lt ∙ ap (λ x. take i outs ++ x ∷ []) (get_or_from_slice_get outs i o o is))
    ∙ fold-append output_counted c (take i outs) (o ∷ []))
