-- Tables of words, one word further.
use Rattle.std.proofs.Common.{◌≡◌, ℕ, suc, ◌+◌, ◌-◌, ◌<◌, get_or, Bool, true, false, ◌&&◌, ◌==◌, if◌then◌else◌, cond}
use Rattle.std.proofs.Common.{is_some, Result, Ok, Err, OnErr, List, [], ◌∷◌, ◌++◌, length, take, bytes_eq, Option}
use Rattle.std.proofs.Common.{Some, None, option_map, refl, sym, ap, ◌∙◌, subst, arith, length-take-le}
use Rattle.std.specs.List.{position, position_from}
use Rattle.std.specs.Option.{option_or}
use Rattle.std.proofs.Math.Seq.{take-append_seam}
use Rattle.std.proofs.lemmas.Bool.{eqb-false, eqb-true}
use Rattle.std.proofs.lemmas.List.{length-append, take-take, take_more}
use Rattle.std.proofs.lemmas.Iterator.Adapters.{position_from-zero}
use Rattle.std.proofs.lemmas.Slice.Eq.{bytes_eq-Decides}
use Rattle.std.specs.HashMap.{Updates}
use Rattle.indexmap.specs.IndexMap.{IndexMap, get}
use Rattle.file_scope.proofs.Lookups.{place_within}
use Rattle.file_scope.specs.Words.{Forgets, HasTable, IsSameTable, IsTable, NotesFirst, is_at, place_of}

place_more : (word : List ℕ) (xs : List (List ℕ)) (x : List ℕ) →
    place_of word (xs ++ x ∷ []) ≡ option_or (place_of word xs) (if bytes_eq x word then Some (length xs) else None)
place_more word [] x = go (bytes_eq x word) where
  go : (b : Bool) → (if b then Some 0 else None) ≡
      (if b then Some (length (let none : List (List ℕ) = [] in none)) else None)
  go true = refl
  go false = refl
place_more word (y ∷ xs) x = go (bytes_eq y word) (place_of word (xs ++ x ∷ [])) (place_of word xs) (bytes_eq x word)
    (place_more word xs x) where
      go : (b : Bool) (p q : Option ℕ) (c : Bool) → p ≡ option_or q (if c then Some (length xs) else None) →
          (if b then Some 0 else option_map (λ k. suc k) p) ≡
          option_or (if b then Some 0 else option_map (λ k. suc k) q) (if c then Some (suc (length xs)) else None)
      go true p q c e = refl
      go false p None true e = ap (option_map (λ k. suc k)) e
      go false p None false e = ap (option_map (λ k. suc k)) e
      go false p (Some k) c e = ap (option_map (λ k. suc k)) e

pub table_more : {S : Type 0} (old new : IndexMap (List ℕ) ℕ S) (words more : List (List ℕ)) (word : List ℕ)
    (place : ℕ) →
    more ≡ words ++ word ∷ [] → place ≡ length words → IsTable old words → NotesFirst old word place new →
    IsTable new more
table_more old new words more word place is at table notes w =
    notes w
    ∙ (ap (λ k. option_or (get bytes_eq old w) (if bytes_eq word w then Some k else None)) at
    ∙ (ap (λ p. option_or p (if bytes_eq word w then Some (length words) else None)) (table w)
    ∙ (sym (place_more w words word) ∙ ap (place_of w) (sym is))))

-- the first place by a test is that of the word
place_from : (word : List ℕ) (i : ℕ) (words : List (List ℕ)) →
    position_from (λ w. bytes_eq w word) i words ≡ option_map (λ k. i + k) (place_of word words)
place_from word i [] = refl
place_from word i (w ∷ words) = go (bytes_eq w word) (place_of word words) (place_from word (i + 1) words) where
  go : (b : Bool) (p : Option ℕ) → position_from (λ w. bytes_eq w word) (i + 1) words ≡
      option_map (λ k. (i + 1) + k) p →
      cond b (Some i) (position_from (λ w. bytes_eq w word) (i + 1) words)
      ≡ option_map (λ k. i + k) (if b then Some 0 else option_map (λ k. suc k) p)
  go true p rest = ap Some (omega arith)
  go false None rest = rest
  go false (Some k) rest = rest ∙ ap Some (omega arith)

pub place_is : (word : List ℕ) (words : List (List ℕ)) (found : Option ℕ) →
    found ≡ position (λ w. bytes_eq w word) words →
    found ≡ place_of word words
place_is word words found is = is ∙
    (position_from-zero (λ w. bytes_eq w word) words ∙ (place_from word 0 words ∙ go (place_of word words))) where
      go : (p : Option ℕ) → option_map (λ k. 0 + k) p ≡ p
      go None = refl
      go (Some k) = ap Some (omega arith)

-- what follows of an error
pub on_err_weaker : {T E : Type 0} {P Q : Type 0} (r : Result T E) → (P → Q) → OnErr r P → OnErr r Q
on_err_weaker (Ok x) goes p = p
on_err_weaker (Err e) goes p = goes p

-- words that are the same have the same table
pub told : {S : Type 0} (first : Option (IndexMap (List ℕ) ℕ S)) (words same : List (List ℕ)) → words ≡ same →
    HasTable first words →
    HasTable first same
told first words same is table = subst (HasTable first) is table

-- a table that tells the same is one of the same words
pub table_same : {S : Type 0} (old new : IndexMap (List ℕ) ℕ S) (words : List (List ℕ)) → IsTable old words →
    IsSameTable old new →
    IsTable new words
table_same old new words table same w = same w ∙ table w

-- a table of the first words knows one more
pub table_next : {S : Type 0} (old new : IndexMap (List ℕ) ℕ S) (words : List (List ℕ)) (k : ℕ) (word : List ℕ) →
    k < length words →
    word ≡ get_or words k word → IsTable old (take k words) → NotesFirst old word k new →
    IsTable new (take (k + 1) words)
table_next old new words k word within is table notes =
    table_more old new (take k words) (take (k + 1) words) word k
    (take_more words k word within ∙ ap (λ w. take k words ++ w ∷ []) (sym is))
    (let l = length-take-le k words (omega (arith, within)) in omega (arith, l)) table notes

pub noted_before : {S : Type 0} (table : IndexMap (List ℕ) ℕ S) (word : List ℕ) (place : ℕ) →
    is_some (get bytes_eq table word) ≡ true → NotesFirst table word place table
noted_before table word place there w = go (bytes_eq word w) refl (get bytes_eq table w) refl where
  go : (b : Bool) → bytes_eq word w ≡ b → (p : Option ℕ) → get bytes_eq table w ≡ p →
      p ≡ option_or p (if b then Some place else None)
  go b e (Some k) is = refl
  go false e None is = refl
  go true e None is =
      let same : word ≡ w = (bytes_eq-Decides word w).0 e in
      absurd (cc (there, ap (λ v. is_some (get bytes_eq table v)) same, ap is_some is))

pub noted_now : {S : Type 0} (old new : IndexMap (List ℕ) ℕ S) (word : List ℕ) (place : ℕ) →
    is_some (get bytes_eq old word) ≡ false → Updates bytes_eq old new word (Some place) → NotesFirst old word place new
noted_now old new word place lacks updates w = updates.0 w ∙ go (bytes_eq word w) refl (get bytes_eq old w) refl where
  go : (b : Bool) → bytes_eq word w ≡ b → (p : Option ℕ) → get bytes_eq old w ≡ p →
      cond b (Some place) p ≡ option_or p (if b then Some place else None)
  go true e None is = refl
  go false e None is = refl
  go false e (Some k) is = refl
  go true e (Some k) is =
      let same : word ≡ w = (bytes_eq-Decides word w).0 e in
      absurd (cc (lacks, ap (λ v. is_some (get bytes_eq old v)) same, ap is_some is))

same-place : (a b : ℕ) → a ≡ b → (a == b) ≡ true
same-place a b e = go (a == b) refl where
  go : (t : Bool) → (a == b) ≡ t → (a == b) ≡ true
  go true is = is
  go false is = absurd (eqb-false a b is e)

other-place : (a b : ℕ) → a < b → (a == b) ≡ false
other-place a b less = go (a == b) refl where
  go : (t : Bool) → (a == b) ≡ t → (a == b) ≡ false
  go true is = let e = eqb-true a b is in absurd (omega (arith, less, e))
  go false is = is

-- a table without its last word
pub table_less : {S : Type 0} (old new : IndexMap (List ℕ) ℕ S) (words less : List (List ℕ)) (word : List ℕ)
    (place : ℕ) →
    words ≡ less ++ word ∷ [] → place ≡ length less → IsTable old words → Forgets old word place new → IsTable new less
table_less old new words less word place is at table forgets w =
    forgets w ∙ go (bytes_eq word w) (get bytes_eq old w) (place_of w less)
    (table w ∙ (ap (place_of w) is ∙ place_more w less word)) (place_within w less) where
      go : (b : Bool) (p q : Option ℕ) → p ≡ option_or q (if b then Some (length less) else None) →
          ((k : ℕ) → q ≡ Some k → k < length less) →
          (if b && is_at place p then None else p) ≡ q
      go false p None e within = e
      go false p (Some k) e within = e
      go true p None e within =
          ap (λ o. if is_at place o then None else o) e
          ∙ ap (λ (b : Bool). if b then None else Some (length less)) (same-place (length less) place (sym at))
      go true p (Some k) e within =
          ap (λ o. if is_at place o then None else o) e
          ∙ ap (λ (b : Bool). if b then None else Some k)
          (other-place k place (let l = within k refl in omega (arith, l, at)))

pub forgot_none : {S : Type 0} (table : IndexMap (List ℕ) ℕ S) (word : List ℕ) (place : ℕ) →
    is_at place (get bytes_eq table word) ≡ false → Forgets table word place table
forgot_none table word place not_there w = go (bytes_eq word w) refl where
  go : (b : Bool) → bytes_eq word w ≡ b →
      get bytes_eq table w ≡ (if b && is_at place (get bytes_eq table w) then None else get bytes_eq table w)
  go false e = refl
  go true e =
      let same : word ≡ w = (bytes_eq-Decides word w).0 e in
      ap (λ (b : Bool). if b then None else get bytes_eq table w)
      (sym (ap (λ v. is_at place (get bytes_eq table v)) (sym same) ∙ not_there))

pub forgot_one : {S : Type 0} (old new : IndexMap (List ℕ) ℕ S) (word : List ℕ) (place : ℕ) →
    is_at place (get bytes_eq old word) ≡ true → Updates bytes_eq old new word None → Forgets old word place new
forgot_one old new word place is updates w = updates.0 w ∙ go (bytes_eq word w) refl where
  go : (b : Bool) → bytes_eq word w ≡ b →
      cond b None (get bytes_eq old w) ≡ (if b && is_at place (get bytes_eq old w) then None else get bytes_eq old w)
  go false e = refl
  go true e =
      let same : word ≡ w = (bytes_eq-Decides word w).0 e in
      ap (λ (b : Bool). if b then None else get bytes_eq old w)
      (sym (ap (λ v. is_at place (get bytes_eq old v)) (sym same) ∙ is))

-- a list without its last word, which begins as the list did
pub all_but_last : (xs ys : List (List ℕ)) (x : List ℕ) → xs ≡ ys ++ x ∷ [] → ys ≡ take (length xs - 1) xs
all_but_last xs ys x is =
    sym (ap (λ l. take (length l - 1) l) is
    ∙ (ap (λ n. take n (ys ++ x ∷ [])) (let count = length-append ys (x ∷ []) in omega (arith, count)) ∙
    take-append_seam ys (x ∷ [])))

pub fewer : (xs ys zs : List (List ℕ)) (n : ℕ) → n < length ys → zs ≡ take (length ys - 1) ys → take n ys ≡ take n xs →
    take n zs ≡ take n xs
fewer xs ys zs n within is so_far = ap (take n) is ∙ (take-take n (length ys - 1) ys (omega (arith, within)) ∙ so_far)
