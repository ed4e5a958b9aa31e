-- Rows, chains and messages that are made.
use Rattle.std.proofs.Common.{◌≡◌, ℕ, zero, suc, ◌+◌, ◌-◌, ◌<◌, ◌≤◌, List, [], ◌∷◌, ◌++◌, length, map, take, drop}
use Rattle.std.proofs.Common.{get_or, Some, None, refl, sym, ap, subst, ◌∙◌, arith}
use Rattle.std.specs.Prelude.{slice_index, slice_index_or}
use Rattle.std.specs.List.{AllZip, slice_get}
use Rattle.std.proofs.lemmas.List.{map-append, take_all, take_more, drop_all, get_or_past}
use Rattle.std.proofs.Math.Seq.{drop-cons}
use Rattle.trace_mean.specs.Trace as trace
use Rattle.trace_core.proofs.Terms.{length_one}
use Rattle.trace_core.specs.View.{atom_tree}
use Rattle.trace_core.specs.Links.{link_tree}
use Rattle.trace_core.specs.declared.node.Atom.{Atom}
use Rattle.trace_core.specs.declared.node.Atom.TheVariants as atoms
use Rattle.trace_core.specs.declared.links.Link.{Link}
use Rattle.symbol_mean.specs.Symbolic.{Values, atom_value, link_value}
use Rattle.symbol_mean.specs.Value.{NumberValue, MessageValue, LinkValue}
use Rattle.symbol_compare.specs.declared.form.ValueForm.{ValueForm}
use Rattle.symbol_compare.specs.declared.walk.Walk.{Walk}
use Rattle.symbol_compare.specs.Meant.{Meant, a_number, a_message, a_row, a_chain, a_sending, row_of, chain_of}
use Rattle.symbol_compare.specs.Meant.{number_in}
use Rattle.symbol_compare.specs.Meant.{message_in, row_in, chain_in, meanings}
use Rattle.symbol_compare.specs.Table.{Stands, IsNumber, IsRow, IsChain, Made}
use Rattle.symbol_compare.specs.Walk.{known_to, AreNumbers, AllNumbers, AllMade, SomeMade}
use Rattle.symbol_compare.proofs.Growing.{grown_on, not_grown, stands_grown, made_as, made_after, number_is}
use Rattle.symbol_compare.proofs.Growing.{number_there, message_is, zip_last, numbers_grown, all_grown}

-- One more after the first of some.
pub one_more : {A : Type 0} (xs : List A) (many : ℕ) (d : A) → 1 ≤ many → many ≤ length xs →
    take many xs ≡ take (many - 1) xs ++ get_or xs (many - 1) d ∷ []
one_more xs many d pos le = let e : many - 1 + 1 ≡ many = omega (arith, pos) in
    ap (λ n. take n xs) (sym e) ∙ take_more xs (many - 1) d (omega (arith, pos, le))

pub positive : (n : ℕ) → (n ≡ 0 → ⊥) → 1 ≤ n
positive zero e = absurd (e refl)
positive (suc n) e = omega arith

pub length_more : {A : Type 0} (xs : List A) (x : A) (many : ℕ) → 1 ≤ many → length xs ≡ many - 1 →
    length (xs ++ x ∷ []) ≡ many
length_more xs x many pos e = omega (arith, length_one xs x, pos, e)

-- What some nodes mean.
pub none_all : (fs : List ValueForm) (f : ℕ → Meant) (parts : List ℕ) (many : ℕ) → many ≡ 0 → (ks : List ℕ) → ks ≡ [] →
    AllMade fs fs (map f (take many parts)) many ks
none_all fs f parts many zero_many ks e = subst (λ l. AllMade fs fs (map f (take many parts)) many l) (sym e)
    (subst (λ n. AllMade fs fs (map f (take n parts)) n []) (sym zero_many)
    (record { grows = not_grown fs; stand = tt; long = refl }))

pub next_all : {a b c : List ValueForm} (f : ℕ → Meant) (parts ks js : List ℕ) (many k p : ℕ) → 1 ≤ many →
    many ≤ length parts → p ≡ slice_index parts (many - 1) →
    AllMade a b (map f (take (many - 1) parts)) (many - 1) ks → Made b c k (f p) → js ≡ ks ++ k ∷ [] →
    AllMade a c (map f (take many parts)) many js
next_all {a} {b} {c} f parts ks js many k p pos le e h m j = subst (λ l. AllMade a c (map f (take many parts)) many l)
    (sym j) (record {
      grows = grown_on h.grows m.grows;
      stand = subst (λ l. AllZip (Stands (meanings c)) (ks ++ k ∷ []) l) same
          (zip_last (Stands (meanings c)) ks (map f (take (many - 1) parts)) k (f p)
          (all_grown m.grows ks (map f (take (many - 1) parts)) h.stand) m.stands);
      long = length_more ks k many pos h.long;
    })
  where
    same : map f (take (many - 1) parts) ++ f p ∷ [] ≡ map f (take many parts)
    same = ap (λ q. map f (take (many - 1) parts) ++ f q ∷ []) e
        ∙ sym (map-append f (take (many - 1) parts) (slice_index parts (many - 1) ∷ []))
        ∙ ap (map f) (sym (one_more parts many 0 pos le))

-- The values of some atoms.
pub none_some : (fs : List ValueForm) (v : Values) (atoms : List Atom) (many : ℕ) → many ≡ 0 → (ks : List ℕ) → ks ≡ [] →
    SomeMade fs fs (map (atom_value v) (map atom_tree (take many atoms))) many ks
none_some fs v atoms many zero_many ks e =
    subst (λ l. SomeMade fs fs (map (atom_value v) (map atom_tree (take many atoms))) many l) (sym e)
    (subst (λ n. SomeMade fs fs (map (atom_value v) (map atom_tree (take n atoms))) n []) (sym zero_many)
    (record { grows = not_grown fs; stand = tt; long = refl }))

pub next_some : {a b c : List ValueForm} (v : Values) (atoms : List Atom) (ks js : List ℕ) (many k : ℕ) (p d : Atom) →
    1 ≤ many → many ≤ length atoms →
    p ≡ slice_index_or atoms (many - 1) d →
    SomeMade a b (map (atom_value v) (map atom_tree (take (many - 1) atoms))) (many - 1) ks →
    Made b c k (a_number (atom_value v (atom_tree p))) → js ≡ ks ++ k ∷ [] →
    SomeMade a c (map (atom_value v) (map atom_tree (take many atoms))) many js
next_some {a} {b} {c} v atoms ks js many k p d pos le e h m j =
    subst (λ l. SomeMade a c (map (atom_value v) (map atom_tree (take many atoms))) many l) (sym j) (record {
      grows = grown_on h.grows m.grows;
      stand = subst (λ l. AreNumbers (meanings c) (ks ++ k ∷ []) l) same
          (zip_last (λ i x. Stands (meanings c) i (a_number x)) ks
          (map (atom_value v) (map atom_tree (take (many - 1) atoms))) k (atom_value v (atom_tree p))
          (numbers_grown m.grows ks (map (atom_value v) (map atom_tree (take (many - 1) atoms))) h.stand) m.stands);
      long = length_more ks k many pos h.long;
    })
  where
    same : map (atom_value v) (map atom_tree (take (many - 1) atoms)) ++ atom_value v (atom_tree p) ∷ [] ≡
        map (atom_value v) (map atom_tree (take many atoms))
    same = ap (λ q. map (atom_value v) (map atom_tree (take (many - 1) atoms)) ++ atom_value v (atom_tree q) ∷ []) e
        ∙ sym (map-append (atom_value v) (map atom_tree (take (many - 1) atoms))
        (atom_tree (get_or atoms (many - 1) d) ∷ []))
        ∙ ap (map (atom_value v)) (sym (map-append atom_tree (take (many - 1) atoms) (get_or atoms (many - 1) d ∷ [])))
        ∙ ap (λ l. map (atom_value v) (map atom_tree l)) (sym (one_more atoms many d pos le))

pub number_of_all : (ms : List Meant) (ks : List ℕ) (k i : ℕ) → AllNumbers ms ks → i < length ks →
    k ≡ slice_index ks i → IsNumber ms k
number_of_all ms [] k i h lt e = absurd (omega (arith, lt))
number_of_all ms (j ∷ ks) k zero h lt e = subst (λ n. IsNumber ms n) (sym e) h.0
number_of_all ms (j ∷ ks) k (suc i) h lt e = number_of_all ms ks k i h.1 (omega (arith, lt)) e

-- Numbers that stand for numbers.
pub all_numbers : (ms : List Meant) (ks : List ℕ) (xs : List NumberValue) → AreNumbers ms ks xs → AllNumbers ms ks
all_numbers ms [] [] h = tt
all_numbers ms [] (x ∷ xs) h = tt
all_numbers ms (k ∷ ks) [] h = absurd h
all_numbers ms (k ∷ ks) (x ∷ xs) h = (number_there h.0, all_numbers ms ks xs h.1)

pub numbers_are : (ms : List Meant) (ks : List ℕ) (xs : List NumberValue) → AreNumbers ms ks xs →
    map (number_in ms) ks ≡ xs
numbers_are ms [] [] h = refl
numbers_are ms [] (x ∷ xs) h = absurd h
numbers_are ms (k ∷ ks) [] h = absurd h
numbers_are ms (k ∷ ks) (x ∷ xs) h = λ t. number_is h.0 t ∷ numbers_are ms ks xs h.1 t

-- Rows, from their ends.
pub row_end : {a b : List ValueForm} {k : ℕ} (ks : List ℕ) (first : ℕ) → length ks ≤ first → Made a b k (a_row []) →
    Made a b k (a_row (map (number_in (meanings a)) (drop first ks)))
row_end {a} {b} {k} ks first le m =
    made_as m (ap (λ l. a_row (map (number_in (meanings a)) l)) (sym (drop_all first ks le)))

pub row_there : {ms : List Meant} {k : ℕ} {xs : List NumberValue} → Stands ms k (a_row xs) → IsRow ms k
row_there {ms} {k} s = subst (λ l. Stands ms k (a_row l)) (sym (ap row_of s.stands)) s

pub chain_there : {ms : List Meant} {k : ℕ} {xs : List LinkValue} → Stands ms k (a_chain xs) → IsChain ms k
chain_there {ms} {k} s = subst (λ l. Stands ms k (a_chain l)) (sym (ap chain_of s.stands)) s

pub row_next : {a b c : List ValueForm} {k r : ℕ} (ks : List ℕ) (first x : ℕ) → first < length ks →
    AllNumbers (meanings a) ks → x ≡ slice_index ks first →
    Made a b r (a_row (map (number_in (meanings a)) (drop (first + 1) ks))) →
    Made b c k (a_row (number_in (meanings b) x ∷ row_in (meanings b) r)) →
    Made a c k (a_row (map (number_in (meanings a)) (drop first ks)))
row_next {a} {b} {c} {k} {r} ks first x lt h e rest m = made_as (made_after rest.grows m) same
  where
    number : number_in (meanings b) x ≡ number_in (meanings a) x
    number = number_is (stands_grown rest.grows (number_of_all (meanings a) ks x first h lt e))

    more : first + 1 ≡ suc first
    more = omega arith

    same : a_row (number_in (meanings b) x ∷ row_in (meanings b) r) ≡
        a_row (map (number_in (meanings a)) (drop first ks))
    same = (λ t. a_row (number t ∷ ap row_of rest.stands.stands t))
        ∙ (λ t. a_row (number_in (meanings a) (e t) ∷ map (number_in (meanings a)) (drop (more t) ks)))
        ∙ ap (λ l. a_row (map (number_in (meanings a)) l)) (sym (drop-cons ks first 0 lt))

-- Chains and messages.
pub chain_end : {a b : List ValueForm} {k : ℕ} (v : Values) (ls : List trace.Link) → ls ≡ [] → Made a b k (a_chain []) →
    Made a b k (a_chain (map (link_value v) ls))
chain_end v ls e m = made_as m (ap (λ l. a_chain (map (link_value v) l)) (sym e))

pub chain_next : {a b c d : List ValueForm} {k r f : ℕ} (v : Values) (ls rest : List trace.Link) (l : Link) →
    ls ≡ link_tree l ∷ rest →
    Made a b r (a_chain (map (link_value v) rest)) → Made b c f (a_row (map (atom_value v) (map atom_tree l.fields))) →
    Made c d k (a_chain (record { place = l.place; tag = l.tag; fields = row_in (meanings c) f } ∷ chain_in
    (meanings c) r)) →
    Made a d k (a_chain (map (link_value v) ls))
chain_next {a} {b} {c} {d} {k} {r} {f} v ls rest l e mr mf m = made_as (made_after (grown_on mr.grows mf.grows) m)
    ((λ t. a_chain (record { place = l.place; tag = l.tag; fields = ap row_of mf.stands.stands t } ∷
    ap chain_of (stands_grown mf.grows mr.stands).stands t))
    ∙ ap (λ x. a_chain (map (link_value v) x)) (sym e))

pub message_sent : {a b c d : List ValueForm} {k i j : ℕ} {ls : List LinkValue} {x : MessageValue} →
    Made a b i (a_chain ls) → Made b c j (a_message x) →
    Made c d k (a_sending (Some (record { chain = chain_in (meanings c) i; message = message_in (meanings c) j }))) →
    Made a d k (a_sending (Some (record { chain = ls; message = x })))
message_sent ml mx m = made_as (made_after (grown_on ml.grows mx.grows) m)
    (λ t. a_sending (Some
    (record { chain = ap chain_of (stands_grown mx.grows ml.stands).stands t; message = message_is mx.stands t })))

-- What was made stays there.
pub number_kept : {a b : List ValueForm} {r x : ℕ} {y : Meant} (ks : List ℕ) (first : ℕ) → first < length ks →
    AllNumbers (meanings a) ks → x ≡ slice_index ks first →
    Made a b r y → IsNumber (meanings b) x
number_kept {a} {b} {r} {x} ks first lt h e m =
    number_there (stands_grown m.grows (number_of_all (meanings a) ks x first h lt e))

pub chain_later : {a b c : List ValueForm} {k j : ℕ} {xs : List LinkValue} {y : Meant} → Made a b k (a_chain xs) →
    Made b c j y → IsChain (meanings c) k
chain_later m n = chain_there (stands_grown n.grows m.stands)

pub row_of_numbers : {a b c : List ValueForm} {r many : ℕ} {xs : List NumberValue} (ks : List ℕ) →
    SomeMade a b xs many ks → Made b c r (a_row (map (number_in (meanings b)) ks)) → Made a c r (a_row xs)
row_of_numbers {a} {b} {c} {r} {many} {xs} ks m n =
    made_as (made_after m.grows n) (ap a_row (numbers_are (meanings b) ks xs m.stand))

-- An atom that isn't there.
pub no_atom : (xs : List Atom) (n : ℕ) → None ≡ slice_get xs n → atoms.Number 0 ≡ slice_index_or xs n (atoms.Number 0)
no_atom [] n e = sym (get_or_past [] n (atoms.Number 0) (omega arith))
no_atom (x ∷ xs) zero e = absurd (cc e)
no_atom (x ∷ xs) (suc n) e = no_atom xs n e

pub row_of_atoms : {a b c : List ValueForm} {r : ℕ} (w : Walk) (xs : List Atom) (many : ℕ) (ks : List ℕ) →
    many ≡ length xs → SomeMade a b (map (atom_value (known_to w)) (map atom_tree (take many xs))) many ks →
    Made b c r (a_row (map (number_in (meanings b)) ks)) →
    Made a c r (a_row (map (atom_value (known_to w)) (map atom_tree xs)))
row_of_atoms w xs many ks e m n = made_as (row_of_numbers ks m n)
    (ap (λ l. a_row (map (atom_value (known_to w)) (map atom_tree l))) (take_all many xs (omega (arith, e))))
