-- Local names and the slots of messages agree, from statement to statement.
use Rattle.std.proofs.Common.{◌≡◌, ◌∙◌, ℕ, zero, suc, ◌+◌, ◌<◌, ◌≤◌, Bool, true, false, List, [], ◌∷◌, ◌++◌, length}
use Rattle.std.proofs.Common.{Option, Some, None, refl, sym, ap, subst, arith}
use Rattle.std.specs.Prelude.{bytes_eq, slice_get, slice_set, option_map, if◌then◌else◌}
use Rattle.std.specs.List.{AllByRecursion, find}
use Rattle.std.specs.Option.{option_or}
use Rattle.std.proofs.lemmas.List.Folds.{find-append}
use Rattle.layer_ast.specs.declared.names.Name.{Name}
use Rattle.layer_words.specs.declared.words.Word.{Word}
use Rattle.layer_words.specs.declared.sorts.Sort.{Sort}
use Rattle.layer_words.specs.declared.sorts.Sort.TheVariants.{Int, Msg, Part}
use Rattle.fault_mean.specs.Scope.{Local, locals_as}
use Rattle.file_laws.proofs.Messages.{sort_among, slot_among, Slot, Agree}

-- further locals are looked at after the others
among_both : (locals further : List Local) (word : Word) →
    sort_among (locals ++ further) word ≡ option_or (sort_among locals word) (sort_among further word)
among_both locals further word =
    ap (option_map (λ (l : Local). l.sort)) (find-append (λ (l : Local). bytes_eq l.name.word word) locals further)
    ∙ mapped (find (λ (l : Local). bytes_eq l.name.word word) locals)
    (find (λ (l : Local). bytes_eq l.name.word word) further)
  where
    mapped : (o p : Option Local) → option_map (λ (l : Local). l.sort) (option_or o p) ≡
        option_or (option_map (λ (l : Local). l.sort) o) (option_map (λ (l : Local). l.sort) p)
    mapped None p = refl
    mapped (Some x) p = refl

-- further numbers change nothing

abbrev pub IsNumberSort : Option Sort → Type 0
IsNumberSort None = Unit {0}
IsNumberSort (Some Int) = Unit {0}
IsNumberSort _ = ⊥

abbrev pub AreNumbers : List Local → Type 0
AreNumbers locals = AllByRecursion (λ l. l.sort ≡ Int) locals

number_first : (sort : Sort) (rest : Option Sort) (b : Bool) → sort ≡ Int → IsNumberSort rest →
    IsNumberSort (if b then Some sort else rest)
number_first sort rest true is h = rw is tt
number_first sort rest false is h = h

pick_map : (l : Local) (o : Option Local) (b : Bool) → option_map (λ (l : Local). l.sort) (if b then Some l else o) ≡
    (if b then Some l.sort else option_map (λ (l : Local). l.sort) o)
pick_map l o true = refl
pick_map l o false = refl

numbers_among_are : (locals : List Local) (word : Word) → AreNumbers locals → IsNumberSort (sort_among locals word)
numbers_among_are [] word h = tt
numbers_among_are (l ∷ locals) word h =
    subst IsNumberSort (sym
    (pick_map l (find (λ (l : Local). bytes_eq l.name.word word) locals) (bytes_eq l.name.word word)))
    (number_first l.sort (sort_among locals word) (bytes_eq l.name.word word) h.0 (numbers_among_are locals word h.1))

slot_or : (sorts : List Sort) (o p : Option Sort) (k : ℕ) → Slot sorts o k → IsNumberSort p →
    Slot sorts (option_or o p) k
slot_or sorts None None k h n = tt
slot_or sorts None (Some Int) k h n = tt
slot_or sorts None (Some Msg) k h n = absurd n
slot_or sorts None (Some Part) k h n = absurd n
slot_or sorts (Some x) p k h n = h

pub agree_numbers : (sorts : List Sort) (locals further : List Local) (messages : List (Word × ℕ)) →
    AreNumbers further →
    Agree sorts locals messages → Agree sorts (locals ++ further) messages
agree_numbers sorts locals further messages numbers agree word =
    subst (λ o. Slot sorts o (slot_among messages word)) (sym (among_both locals further word))
    (slot_or sorts (sort_among locals word) (sort_among further word) (slot_among messages word) (agree word)
    (numbers_among_are further word numbers))

pub locals_are_numbers : (names : List Name) → AreNumbers (locals_as [] names)
locals_are_numbers [] = tt
locals_are_numbers (name ∷ names) = (refl, locals_are_numbers names)

-- slots of which nothing is known yet

abbrev pub Free : List Sort → ℕ → Type 0
Free sorts n = (k : ℕ) → n ≤ k → k < length sorts → slice_get sorts k ≡ Some Int

pub free_more : (sorts : List Sort) (m n : ℕ) → m ≤ n → Free sorts m → Free sorts n
free_more sorts m n le free k from below = free k (omega (arith, le, from)) below

set_other : (sorts : List Sort) (n k : ℕ) (x : Sort) → (n ≡ k → ⊥) → slice_get (slice_set sorts n x) k ≡
    slice_get sorts k
set_other [] n k x other = refl
set_other (s ∷ sorts) zero zero x other = absurd (other refl)
set_other (s ∷ sorts) zero (suc k) x other = refl
set_other (s ∷ sorts) (suc n) zero x other = refl
set_other (s ∷ sorts) (suc n) (suc k) x other = set_other sorts n k x (λ e. other (ap suc e))

set_here : (sorts : List Sort) (n : ℕ) (x : Sort) → n < length sorts → slice_get (slice_set sorts n x) n ≡ Some x
set_here [] n x below = absurd (omega arith)
set_here (s ∷ sorts) zero x below = refl
set_here (s ∷ sorts) (suc n) x below = set_here sorts n x (omega (arith, below))

pub set_length : (sorts : List Sort) (n : ℕ) (x : Sort) → length (slice_set sorts n x) ≡ length sorts
set_length [] n x = refl
set_length (s ∷ sorts) zero x = refl
set_length (s ∷ sorts) (suc n) x = ap suc (set_length sorts n x)

pub free_set : (sorts : List Sort) (n : ℕ) (x : Sort) → Free sorts n → Free (slice_set sorts n x) (n + 1)
free_set sorts n x free k from below =
    set_other sorts n k x (λ e. omega (arith, from, e)) ∙
    free k (omega (arith, from)) (omega (arith, below, set_length sorts n x))

-- a new message after numbers, in a free slot

not_int : (sorts : List Sort) (n k : ℕ) (sort : Sort) → slice_get sorts n ≡ Some Int → slice_get sorts k ≡ Some sort →
    (sort ≡ Int → ⊥) → n ≡ k → ⊥
not_int sorts n k sort free is other e = other (some_same (sym is ∙ ap (slice_get sorts) (sym e) ∙ free)) where
  some_same : {x y : Sort} → Some x ≡ Some y → x ≡ y
  some_same e = cc e

slot_set : (sorts : List Sort) (n : ℕ) (x : Sort) (o : Option Sort) (k : ℕ) → slice_get sorts n ≡ Some Int →
    Slot sorts o k →
    Slot (slice_set sorts n x) o k
slot_set sorts n x None k free h = tt
slot_set sorts n x (Some Int) k free h = tt
slot_set sorts n x (Some Msg) k free h = set_other sorts n k x (not_int sorts n k Msg free h (λ e. cc e)) ∙ h
slot_set sorts n x (Some Part) k free h = set_other sorts n k x (not_int sorts n k Part free h (λ e. cc e)) ∙ h

-- what is visible isn't new

abbrev pub Hidden : List Local → Word → Type 0
Hidden locals word = sort_among locals word ≡ None

-- the slot of a word after a new message: the new one's, or else as before
slot_first : (word new : Word) (n : ℕ) (messages : List (Word × ℕ)) (b : Bool) → bytes_eq word new ≡ b →
    slot_among ((new, n) ∷ messages) word ≡ (if b then n else slot_among messages word)
slot_first word new n messages true is = rw is refl
slot_first word new n messages false is = rw is refl

-- the further locals of a taken row: their last is of a sort and stands for the new message, and the others are numbers
pub record LastLocal (further : List Local) (word : Word) (sort : Sort) : Type 0 where
  pub sorts_are : (w : Word) → bytes_eq w word ≡ true → sort_among further w ≡ Some sort
  pub others : (w : Word) → bytes_eq w word ≡ false → IsNumberSort (sort_among further w)

pub slot_new : (sorts : List Sort) (sort : Sort) (k : ℕ) → slice_get sorts k ≡ Some sort → Slot sorts (Some sort) k
slot_new sorts Int k is = tt
slot_new sorts Msg k is = is
slot_new sorts Part k is = is

pub agree_new : (sorts : List Sort) (n : ℕ) (x : Sort) (locals further : List Local) (messages : List (Word × ℕ))
    (new : Word) →
    n < length sorts → slice_get sorts n ≡ Some Int → LastLocal further new x →
    ((w : Word) → bytes_eq w new ≡ true → Hidden locals w) → Agree sorts locals messages →
    Agree (slice_set sorts n x) (locals ++ further) ((new, n) ∷ messages)
agree_new sorts n x locals further messages new below free last hidden agree word =
    subst (λ o. Slot (slice_set sorts n x) o (slot_among ((new, n) ∷ messages) word))
    (sym (among_both locals further word))
    (go (bytes_eq word new) refl)
  where
    go : (b : Bool) → bytes_eq word new ≡ b →
        Slot (slice_set sorts n x) (option_or (sort_among locals word) (sort_among further word))
        (slot_among ((new, n) ∷ messages) word)
    go true is = rw (slot_first word new n messages true is, hidden word is, last.sorts_are word is)
        (slot_new (slice_set sorts n x) x n (set_here sorts n x below))
    go false is = rw (slot_first word new n messages false is)
        (slot_or (slice_set sorts n x) (sort_among locals word) (sort_among further word) (slot_among messages word)
        (slot_set sorts n x (sort_among locals word) (slot_among messages word) free (agree word))
        (last.others word is))
