-- Readers by their parts: what was read is written as it stood.
use Rattle.std.proofs.Common.{◌≡◌, ℕ, Bool, true, false, not, ◌==◌, List, [], ◌∷◌, ◌++◌, length, take, drop, map}
use Rattle.std.proofs.Common.{flat_map, Option, Some, None, option_and_then, codes, bytes_eq, refl, sym, ap, ◌∙◌, subst}
use Rattle.std.proofs.Common.{append_assoc, append-nil}
use Rattle.std.specs.Prelude.{if◌then◌else◌}
use Rattle.std.specs.List.{join_by, join_with_byte, position_or_len}
use Rattle.std.proofs.lemmas.List.{take-append-drop}
use Rattle.std.proofs.lemmas.List.Splits.{join_with_byte-slice_split}
use Rattle.std.proofs.lemmas.Slice.Eq.{bytes_eq-Decides}
use Rattle.bypass_mean.specs.Text.{bracketed_list}
use Rattle.pack_mean.specs.Reader.{Reader, ◌>>=◌, yields, option_reader, nowhere, the_text, is_name_byte, a_name}
use Rattle.pack_mean.specs.Reader.{a_word, whole}
use Rattle.pack_mean.specs.Reader.{nothing_after, each_of, more_of}
use Rattle.pack_laws.proofs.Readers.{some_same, Gives}

-- After some bytes a reader finds what these and its own bytes show.
pub record Writes {A : Type 0} (front : List ℕ) (shown : A → List ℕ) (read : Reader A) : Type 0 where
  pub said : (text : List ℕ) (x : A) (rest : List ℕ) → read text ≡ Some (x, rest) → front ++ text ≡ shown x ++ rest

pub writes_value : {A : Type 0} (front : List ℕ) (shown : A → List ℕ) (x : A) → front ≡ shown x →
    Writes front shown (yields x)
writes_value front shown x same =
    record { said = λ text y rest is. some_same (λ q. front ++ text ≡ shown q.0 ++ q.1) is (ap (λ f. f ++ text) same) }

pub writes_given : {A : Type 0} (front : List ℕ) (shown : A → List ℕ) (o : Option A) →
    ((x : A) → o ≡ Some x → front ≡ shown x) → Writes front shown (option_reader o)
writes_given front shown None h = record { said = λ text y rest is. absurd (cc is) }
writes_given front shown (Some x) h =
    record {
      said = λ text y rest is. some_same (λ q. front ++ text ≡ shown q.0 ++ q.1) is
          (ap (λ f. f ++ text) (h x refl));
    }

pub writes_nowhere : {A : Type 0} (front : List ℕ) (shown : A → List ℕ) → Writes front shown nowhere
writes_nowhere front shown = record { said = λ text y rest is. absurd (cc is) }

pub writes_then : {A B : Type 0} (first : A → List ℕ) (front : List ℕ) (shown : B → List ℕ) (read : Reader A)
    (next : A → Reader B) →
    Writes [] first read → ((x : A) → Writes (front ++ first x) shown (next x)) → Writes front shown (read >>= next)
writes_then {A = A} {B = B} first front shown read next h k =
    record { said = λ text y rest is. go text y rest (read text) refl is } where
      go : (text : List ℕ) (y : B) (rest : List ℕ) (o : Option (A × List ℕ)) → read text ≡ o →
          option_and_then (λ taken. next taken.0 taken.1) o ≡ Some (y, rest) → front ++ text ≡ shown y ++ rest
      go text y rest None e is = absurd (cc is)
      go text y rest (Some t) e is =
          ap (λ l. front ++ l) (h.said text t.0 t.1 e) ∙ sym (append_assoc front (first t.0) t.1) ∙
          (k t.0).said t.1 y rest is

-- two readers in a row, where the first finds what it shows after some bytes and gives something of which more is known
pub writes_such : {A B : Type 0} (P : A → Type 0) (first : A → List ℕ) (before front : List ℕ) (shown : B → List ℕ)
    (read : Reader A)
    (next : A → Reader B) → Gives P read → Writes front first read →
    ((x : A) → P x → Writes (before ++ first x) shown (next x)) →
    Writes (before ++ front) shown (read >>= next)
writes_such {A = A} {B = B} P first before front shown read next such h k =
    record { said = λ text y rest is. go text y rest (read text) refl is } where
      go : (text : List ℕ) (y : B) (rest : List ℕ) (o : Option (A × List ℕ)) → read text ≡ o →
          option_and_then (λ taken. next taken.0 taken.1) o ≡ Some (y, rest) → before ++ front ++ text ≡ shown y ++ rest
      go text y rest None e is = absurd (cc is)
      go text y rest (Some t) e is = append_assoc before front text ∙ ap (λ l. before ++ l) (h.said text t.0 t.1 e) ∙
          sym (append_assoc before (first t.0) t.1) ∙ (k t.0 (such.said text t.0 t.1 e)).said t.1 y rest is

pub writes_also : {A B : Type 0} (P : A → Type 0) (first : A → List ℕ) (front : List ℕ) (shown : B → List ℕ)
    (read : Reader A)
    (next : A → Reader B) → Gives P read → Writes [] first read →
    ((x : A) → P x → Writes (front ++ first x) shown (next x)) →
    Writes front shown (read >>= next)
writes_also P first front shown read next such h k =
    subst (λ f. Writes f shown (read >>= next)) (append-nil front)
    (writes_such P first front [] shown read next such h k)

pub writes_known : {A B : Type 0} (front : List ℕ) (shown : B → List ℕ) (o : Option A) (next : A → Reader B) →
    ((x : A) → o ≡ Some x → Writes front shown (next x)) → Writes front shown (option_reader o >>= next)
writes_known front shown None next h = record { said = λ text y rest is. absurd (cc is) }
writes_known front shown (Some x) next h = record { said = λ text y rest is. (h x refl).said text y rest is }

abbrev found_text : List ℕ → List ℕ → Option (Unit {0} × List ℕ)
found_text wanted text = Some (tt, drop (length wanted) text)

pub text_is : (wanted : List ℕ) → Writes [] (λ u. wanted) (the_text wanted)
text_is wanted = record
    { said = λ text u rest is. go text u rest (bytes_eq (take (length wanted) text) wanted) refl is } where
      go : (text : List ℕ) (u : Unit {0}) (rest : List ℕ) (b : Bool) → bytes_eq (take (length wanted) text) wanted ≡ b →
          (if b then found_text wanted text else None) ≡ Some (u, rest) → text ≡ wanted ++ rest
      go text u rest true e is = some_same (λ (q : Unit {0} × List ℕ). text ≡ wanted ++ q.1) is
          (sym (take-append-drop (length wanted) text) ∙
          ap (λ l. l ++ drop (length wanted) text) ((bytes_eq-Decides (take (length wanted) text) wanted).0 e))
      go text u rest false e is = absurd (cc is)

pub writes_text : {B : Type 0} (wanted front : List ℕ) (shown : B → List ℕ) (next : Unit {0} → Reader B) →
    ((u : Unit {0}) → Writes (front ++ wanted) shown (next u)) → Writes front shown (the_text wanted >>= next)
writes_text wanted front shown next h = writes_then (λ u. wanted) front shown (the_text wanted) next (text_is wanted) h

abbrev pub name_text : List (List ℕ) → List ℕ
name_text name = join_with_byte 46 name

name_is : Writes [] name_text a_name
name_is = record {
  said = λ text name rest is. let n = position_or_len (λ byte. not (is_name_byte byte)) text in
      some_same (λ (q : List (List ℕ) × List ℕ). text ≡ join_with_byte 46 q.0 ++ q.1) is
      (sym (take-append-drop n text) ∙ ap (λ l. l ++ drop n text) (sym (join_with_byte-slice_split 46 (take n text))));
}

pub writes_name : {B : Type 0} (front : List ℕ) (shown : B → List ℕ) (next : List (List ℕ) → Reader B) →
    ((name : List (List ℕ)) → Writes (front ++ name_text name) shown (next name)) → Writes front shown (a_name >>= next)
writes_name front shown next h = writes_then name_text front shown a_name next name_is h

word_is : Writes [] (λ word. word) a_word
word_is = record {
  said = λ text word rest is. let n = position_or_len (λ byte. not (not (byte == 32))) text in
      some_same (λ (q : List ℕ × List ℕ). text ≡ q.0 ++ q.1) is (sym (take-append-drop n text));
}

pub writes_word : {B : Type 0} (front : List ℕ) (shown : B → List ℕ) (next : List ℕ → Reader B) →
    ((word : List ℕ) → Writes (front ++ word) shown (next word)) → Writes front shown (a_word >>= next)
writes_word front shown next h = writes_then (λ word. word) front shown a_word next word_is h

-- by a word that begins it
pub writes_case : {A : Type 0} (word wanted : List ℕ) (shown : A → List ℕ) (f g : Reader A) → Writes wanted shown f →
    Writes word shown g →
    Writes word shown (if bytes_eq word wanted then f else g)
writes_case word wanted shown f g h k = go (bytes_eq word wanted) refl where
  go : (b : Bool) → bytes_eq word wanted ≡ b → Writes word shown (if b then f else g)
  go true e = subst (λ l. Writes l shown f) (sym ((bytes_eq-Decides word wanted).0 e)) h
  go false e = k

pub writes_either : {A : Type 0} (front : List ℕ) (shown : A → List ℕ) (test : List ℕ → Bool) (f g : Reader A) →
    Writes front shown f →
    Writes front shown g → Writes front shown (λ text. if test text then f text else g text)
writes_either {A = A} front shown test f g h k = record { said = λ text y rest is. go (test text) text y rest is } where
  go : (b : Bool) (text : List ℕ) (y : A) (rest : List ℕ) → (if b then f text else g text) ≡ Some (y, rest) →
      front ++ text ≡ shown y ++ rest
  go true text y rest is = h.said text y rest is
  go false text y rest is = k.said text y rest is

pub writes_whole : {A : Type 0} (shown : A → List ℕ) (read : Reader A) (text : List ℕ) (x : A) → Writes [] shown read →
    whole read text ≡ Some x →
    text ≡ shown x
writes_whole {A = A} shown read text x h is = go (read text) refl is where
  go : (o : Option (A × List ℕ)) → read text ≡ o → option_and_then nothing_after o ≡ Some x → text ≡ shown x
  go None e k = absurd (cc k)
  go (Some (y, [])) e k = some_same (λ z. text ≡ shown z) k (h.said text y [] e ∙ append-nil (shown y))
  go (Some (y, byte ∷ bytes)) e k = absurd (cc k)

-- what stands with commas between, as it is written
abbrev pub parted : List (List ℕ) → List ℕ
parted parts = join_by (λ part. part) (codes ",") parts

abbrev pub after_commas : List (List ℕ) → List ℕ
after_commas parts = flat_map (λ part. codes "," ++ part) parts

module _ {A B : Type 0} (shown : A → List ℕ) (read : Reader A) (h : Writes [] shown read) where
  writes_more : (bs : List B) → Writes [] (λ xs. after_commas (map shown xs)) (more_of read bs)
  writes_more [] = writes_value [] _ [] refl
  writes_more (b ∷ bs) = writes_text (codes ",") [] _ _ (λ u. writes_then shown _ _ _ _ h (λ x.
      writes_then (λ xs. after_commas (map shown xs)) _ _ _ _ (writes_more bs) (λ xs. writes_value _ _ (x ∷ xs) refl)))

  pub writes_each : (bs : List B) → Writes [] (λ xs. parted (map shown xs)) (each_of read bs)
  writes_each [] = writes_value [] _ [] refl
  writes_each (b ∷ bs) = writes_then shown [] _ _ _ h (λ x.
      writes_then (λ xs. after_commas (map shown xs)) _ _ _ _ (writes_more bs) (λ xs. writes_value _ _ (x ∷ xs) refl))

-- parts in brackets after some bytes
pub one_listed : (front a : List ℕ) → front ++ codes "(" ++ a ++ codes ")" ≡ front ++ bracketed_list (a ∷ [])
one_listed front a = simp (append_assoc, append-nil) refl

pub two_listed : (front a b : List ℕ) → front ++ codes "(" ++ a ++ codes "," ++ b ++ codes ")" ≡ front ++
    bracketed_list (a ∷ b ∷ [])
two_listed front a b = simp (append_assoc, append-nil) refl

pub in_brackets : (front a : List ℕ) → front ++ codes "(" ++ a ++ codes ")" ≡ front ++ (codes "(" ++ a ++ codes ")")
in_brackets front a = simp append_assoc refl

three_parts : (f a b c : List ℕ) → f ++ a ++ codes "," ++ b ++ codes "," ++ c ≡ f ++
    (a ++ ((codes "," ++ b) ++ (codes "," ++ c ++ [])))
three_parts f a b c = ap (λ l. l ++ codes "," ++ c) (append_assoc (f ++ a) (codes ",") b) ∙
    append_assoc (f ++ a ++ (codes "," ++ b)) (codes ",") c ∙ append_assoc (f ++ a) (codes "," ++ b) (codes "," ++ c) ∙
    append_assoc f a ((codes "," ++ b) ++ (codes "," ++ c)) ∙
    ap (λ l. f ++ (a ++ ((codes "," ++ b) ++ l))) (sym (append-nil (codes "," ++ c)))

pub three_listed : (front a b c : List ℕ) →
    front ++ codes "(" ++ a ++ codes "," ++ b ++ codes "," ++ c ++ codes ")" ≡ front ++ bracketed_list (a ∷ b ∷ c ∷ [])
three_listed front a b c = ap (λ l. l ++ codes ")") (three_parts (front ++ codes "(") a b c) ∙
    in_brackets front (a ++ ((codes "," ++ b) ++ (codes "," ++ c ++ [])))

pub after_more : (xs ys : List (List ℕ)) → after_commas xs ++ after_commas ys ≡ after_commas (xs ++ ys)
after_more [] ys = refl
after_more (x ∷ xs) ys = append_assoc (codes "," ++ x) (after_commas xs) (after_commas ys) ∙
    ap (λ l. codes "," ++ x ++ l) (after_more xs ys)

pub parted_more : (x : List ℕ) (xs ys : List (List ℕ)) → parted (x ∷ xs) ++ after_commas ys ≡ parted (x ∷ xs ++ ys)
parted_more x xs ys = append_assoc x (after_commas xs) (after_commas ys) ∙ ap (λ l. x ++ l) (after_more xs ys)

-- how pushes and outputs end
pub pushed_ends : (f p r x : List ℕ) → p ++ r ≡ x → f ++ codes " (" ++ p ++ r ++ codes ")" ≡ f ++ codes " " ++
    (codes "(" ++ x ++ codes ")")
pushed_ends f p r x is =
    subst (λ y. f ++ codes " (" ++ p ++ r ++ codes ")" ≡ f ++ codes " " ++ (codes "(" ++ y ++ codes ")")) is
    (simp append_assoc refl)

pub sent_ends : (w d n k p q b : List ℕ) → w ≡ d → n ≡ k → p ≡ q →
    codes "out " ++ w ++ codes " " ++ n ++ codes "(" ++ p ++ codes ")" ++ b ≡ codes "out " ++ d ++ codes " " ++ k ++
    (codes "(" ++ q ++ codes ")") ++ b
sent_ends w d n k p q b w_is n_is p_is = ap (λ l. l ++ b) (in_brackets (codes "out " ++ w ++ codes " " ++ n) p) ∙
    (λ x. codes "out " ++ w_is x ++ codes " " ++ n_is x ++ (codes "(" ++ p_is x ++ codes ")") ++ b)
