-- Names in their slots.
use Rattle.std.proofs.Common.{◌≡◌, ℕ, zero, suc, ◌+◌, ◌-◌, ◌<◌, ◌≤◌, Bool, true, false, cond, List, [], ◌∷◌, ◌++◌, map}
use Rattle.std.proofs.Common.{take, drop, length, get_or, reverse, find, bytes_eq, Some, None, option_map, refl, sym}
use Rattle.std.proofs.Common.{ap, ◌∙◌, arith, take-append-drop, length-drop}
use Rattle.std.specs.Map.{lookup}
use Rattle.std.proofs.lemmas.List.{map-append, reverse-append, length-reverse, length-map}
use Rattle.std.proofs.Math.Seq.{drop-append_seam}
use Rattle.layer_ast.specs.declared.names.Name.{Name}
use Rattle.layer_words.specs.declared.words.Word.{Word}
use Rattle.file_mean.specs.Names.{in_slots}
use Rattle.file_slots.specs.Visible.{entry, entries}
use Rattle.file_slots.specs.declared.visible.VisibleName.{VisibleName}

lookup_is : (word : List ℕ) (slots : List VisibleName) →
    lookup (bytes_eq word) (map entry slots) ≡
    option_map (λ (s : VisibleName). s.slot) (find (λ s. bytes_eq word s.word) slots)
lookup_is word [] = refl
lookup_is word (s ∷ slots) = go (bytes_eq word s.word) (lookup_is word slots) where
  go : (b : Bool) → lookup (bytes_eq word) (map entry slots) ≡
      option_map (λ (x : VisibleName). x.slot) (find (λ x. bytes_eq word x.word) slots) →
      cond b (Some s.slot) (lookup (bytes_eq word) (map entry slots)) ≡
      option_map (λ (x : VisibleName). x.slot) (cond b (Some s) (find (λ x. bytes_eq word x.word) slots))
  go true e = refl
  go false e = e

-- the slot of a name, and of one that isn't visible
pub slot_found : (slots : List VisibleName) (names : List (Word × ℕ)) (word : List ℕ) (s : VisibleName) →
    entries slots ≡ names →
    Some s ≡ find (λ (x : VisibleName). bytes_eq word x.word) (reverse slots) →
    Some s.slot ≡ lookup (bytes_eq word) names
slot_found slots names word s is found =
    ap (option_map (λ (x : VisibleName). x.slot)) found ∙
    (sym (lookup_is word (reverse slots)) ∙ ap (lookup (bytes_eq word)) is)

pub slot_nowhere : (slots : List VisibleName) (names : List (Word × ℕ)) (word : List ℕ) → entries slots ≡ names →
    None ≡ find (λ (x : VisibleName). bytes_eq word x.word) (reverse slots) → None ≡ lookup (bytes_eq word) names
slot_nowhere slots names word is found =
    ap (option_map (λ (x : VisibleName). x.slot)) found ∙
    (sym (lookup_is word (reverse slots)) ∙ ap (lookup (bytes_eq word)) is)

-- the first slots are the last entries
pub entries_take : (n : ℕ) (slots : List VisibleName) →
    entries (take n slots) ≡ drop (length (entries slots) - n) (entries slots)
entries_take n slots =
    let front = entries (drop n slots) in
    let back = entries (take n slots) in
    let parts : entries slots ≡ front ++ back =
    ap entries (sym (take-append-drop n slots))
    ∙ (ap (map entry) (reverse-append (take n slots) (drop n slots)) ∙
    map-append entry (reverse (drop n slots)) (reverse (take n slots))) in
    let count : length (entries slots) - n ≡ length front =
    ap (λ k. k - n) (length-map (reverse slots) entry ∙ length-reverse slots)
    ∙ (sym (length-drop n slots) ∙ sym (length-map (reverse (drop n slots)) entry ∙ length-reverse (drop n slots))) in
    sym (ap (λ k. drop k (entries slots)) count ∙ (ap (drop (length front)) parts ∙ drop-append_seam front back))

-- one more slot
entries_push : (slots : List VisibleName) (s : VisibleName) → entries (slots ++ s ∷ []) ≡ entry s ∷ entries slots
entries_push slots s = ap (map entry) (reverse-append slots (s ∷ []))

drop_step : (names : List Name) (k : ℕ) (n : Name) → k < length names → n ≡ get_or names k n →
    drop k names ≡ n ∷ drop (suc k) names
drop_step [] k n less is = absurd (omega (arith, less))
drop_step (m ∷ rest) zero n less is = ap (λ x. x ∷ rest) (sym is)
drop_step (m ∷ rest) (suc k) n less is = drop_step rest k n (omega (arith, less)) is

pub slots_step : (slots pushed : List VisibleName) (first left : ℕ) (new : List Name) (names : List (Word × ℕ))
    (n : Name) →
    0 < left → left ≤ length new → n ≡ get_or new (left - 1) n →
    pushed ≡ slots ++ record { word = n.word; slot = first + (left - 1) } ∷ [] →
    entries slots ≡ in_slots (first + left) (drop left new) ++ names →
    entries pushed ≡ in_slots (first + (left - 1)) (drop (left - 1) new) ++ names
slots_step slots pushed first zero new names n some within is push so_far = absurd (omega (arith, some))
slots_step slots pushed first (suc k) new names n some within is push so_far =
    let one : suc k - 1 ≡ k = omega arith in
    let next : first + suc k ≡ (first + k) + 1 = omega arith in
    ap entries push
    ∙ (entries_push slots _
    ∙ (ap (λ j. (n.word, first + j) ∷ entries slots) one
    ∙ (ap (λ l. (n.word, first + k) ∷ l) (so_far ∙ ap (λ a. in_slots a (drop (suc k) new) ++ names) next)
    ∙ (ap (λ l. in_slots (first + k) l ++ names)
    (sym (drop_step new k n (omega (arith, within)) (is ∙ ap (λ j. get_or new j n) one)))
    ∙ ap (λ j. in_slots (first + j) (drop j new) ++ names) (sym one)))))

pub no_slots : (a : ℕ) (new : List Name) (names : List (Word × ℕ)) → names ≡ in_slots a (drop (length new) new) ++ names
no_slots a new names = ap (λ l. in_slots a l ++ names) (sym (none new)) where
  none : (xs : List Name) → drop (length xs) xs ≡ []
  none [] = refl
  none (x ∷ xs) = none xs
