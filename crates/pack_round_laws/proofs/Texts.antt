-- The lines of a text that was written line by line.
use Rattle.std.proofs.Common.{◌≡◌, ℕ, ◌-◌, Bool, true, false, not, ◌==◌, List, [], ◌∷◌, ◌++◌, length, map, take}
use Rattle.std.proofs.Common.{slice_index, refl, sym, ap, ◌∙◌, arith, append_assoc}
use Rattle.std.specs.Prelude.{if◌then◌else◌, All}
use Rattle.std.specs.List.{AllByRecursion, concat, list_all, join_with_byte, slice_split}
use Rattle.std.proofs.Math.Seq.{take-append_seam, get_or-append_seam}
use Rattle.std.proofs.lemmas.Bool.{and_parts}
use Rattle.std.proofs.lemmas.List.{length-append}
use Rattle.std.proofs.lemmas.List.Elements.{All-nil, All-cons}
use Rattle.std.proofs.lemmas.List.Splits.{slice_split_at, slice_split_none}
use Rattle.audit_mean.specs.Text.{unended, lines_of}
use Rattle.bypass_mean.specs.Lines.{ended_line}
use Rattle.pack_round_laws.proofs.Plain.{is_plain_byte, IsPlain}

no_feed : (b : Bool) → not b ≡ true → b ≡ false
no_feed true is = absurd (cc is)
no_feed false is = refl

no_feeds : (line : List ℕ) → IsPlain line → All (λ byte. (byte == 10) ≡ false) line
no_feeds [] is = All-nil (λ byte. (byte == 10) ≡ false)
no_feeds (byte ∷ line) is =
    let parts = and_parts (is_plain_byte byte) (list_all is_plain_byte line) is in
    All-cons (λ byte. (byte == 10) ≡ false) byte line (no_feed (byte == 10) parts.0) (no_feeds line parts.1)

lines_split : (line : List ℕ) (lines : List (List ℕ)) → IsPlain line → AllByRecursion IsPlain lines →
    slice_split (λ byte. byte == 10) (join_with_byte 10 (line ∷ lines)) ≡ line ∷ lines
lines_split line [] is are = slice_split_none _ line (no_feeds line is)
lines_split line (next ∷ lines) is are =
    slice_split_at _ line 10 (join_with_byte 10 (next ∷ lines)) (no_feeds line is) refl ∙
    ap (λ ls. line ∷ ls) (lines_split next lines are.0 are.1)

joined : (line : List ℕ) (lines : List (List ℕ)) → concat (map ended_line (line ∷ lines)) ≡
    join_with_byte 10 (line ∷ lines) ++ 10 ∷ []
joined line [] = append_assoc line (10 ∷ []) []
joined line (next ∷ lines) = append_assoc line (10 ∷ []) (concat (map ended_line (next ∷ lines))) ∙
    ap (λ l. line ++ 10 ∷ l) (joined next lines) ∙
    sym (append_assoc line (10 ∷ join_with_byte 10 (next ∷ lines)) (10 ∷ []))

without_end : (text : List ℕ) → unended (text ++ 10 ∷ []) ≡ text
without_end text =
    let size = length-append text (10 ∷ []) in
    let less : length (text ++ 10 ∷ []) - 1 ≡ length text = omega (arith, size) in
    ap (λ n. if slice_index (text ++ 10 ∷ []) n == 10 then take n (text ++ 10 ∷ []) else text ++ 10 ∷ []) less ∙
    ap (λ byte. if byte == 10 then take (length text) (text ++ 10 ∷ []) else text ++ 10 ∷ [])
    (get_or-append_seam text 10 [] 0) ∙
    take-append_seam text (10 ∷ [])

lines_ended : (text : List ℕ) → lines_of (text ++ 10 ∷ []) ≡ slice_split (λ byte. byte == 10) text
lines_ended [] = refl
lines_ended (byte ∷ text) = ap (slice_split (λ byte. byte == 10)) (without_end (byte ∷ text))

pub lines_back : (line : List ℕ) (lines : List (List ℕ)) → IsPlain line → AllByRecursion IsPlain lines →
    lines_of (concat (map ended_line (line ∷ lines))) ≡ line ∷ lines
lines_back line lines is are = ap lines_of (joined line lines) ∙ lines_ended (join_with_byte 10 (line ∷ lines)) ∙
    lines_split line lines is are
