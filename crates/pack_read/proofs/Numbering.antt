-- The numbers of a row, one after the other.
use Rattle.std.proofs.Common.{◌≡◌, ℕ, ◌-◌, ◌≤◌, ◌<◌, length, take, drop, arith, List, [], ◌∷◌, ◌++◌, map, Option, Some}
use Rattle.std.proofs.Common.{None, Result, Ok, Err, refl, sym, ap, subst, ◌∙◌}
use Rattle.std.specs.Prelude.{codes}
use Rattle.std.proofs.lemmas.List.{append_assoc, append-nil, map-append, take_all}
use Rattle.trace_mean.specs.Trace.{TraceNumber}
use Rattle.pack_mean.specs.Reader.{Reader, the_text, more_of, each_of}
use Rattle.trace_core.specs.declared.node.Node.{Node}
use Rattle.trace_core.specs.View.{number_in, terms}
use Rattle.trace_core.specs.Operations.{AllNumbers}
use Rattle.trace_core.proofs.Makes.{number_made}
use Rattle.pack_words.specs.declared.error.LineError.{LineError}
use Rattle.pack_words.specs.declared.error.LineError.TheVariants.{Form, Memory}
use Rattle.pack_read.specs.Expressions.{NumberMade, NumberRead}
use Rattle.pack_read.specs.Operations.{NumbersRead, ReadsNumbers}
use Rattle.trace_core.proofs.Growing.{made_more, more_then, none_more, numbers_stay, numbers_with}
use Rattle.pack_read.proofs.Listing.{with_first, each_step, each_none, more_step, more_no_comma, more_none}

abbrev Taken : Type 0
Taken = Option (List TraceNumber × List ℕ)

-- no more numbers
pub none_read : (ns : List Node) (text : List ℕ) (front : List ℕ) → AllNumbers (terms ns) front →
    NumbersRead (Some ([], text)) ns ns text front front
none_read ns text front there = record {
  rest = [];
  is = refl;
  all_are = sym (append-nil (map (number_in (terms ns)) front));
  there = there;
  more = none_more ns;
}

-- one more is there
pub numbers_next : (a b : List Node) (front next : List ℕ) (k : ℕ) → AllNumbers (terms a) front → NumberMade a b k →
    next ≡ front ++ k ∷ [] →
    AllNumbers (terms b) next
numbers_next a b front next k there made e = subst (AllNumbers (terms b)) (sym e)
    (numbers_with front k (numbers_stay front there (made_more made)).1 (number_made made))

-- one before those that are read after it
number_first : (a b c : List Node) (front next : List ℕ) (k : ℕ) (taken whole : Taken) (r : Result (List ℕ) LineError)
    (after : List ℕ) →
    AllNumbers (terms a) front → NumberMade a b k → next ≡ front ++ k ∷ [] →
    whole ≡ with_first (number_in (terms b) k) taken →
    ReadsNumbers taken b c after next r → ReadsNumbers whole a c after front r
number_first a b c front next k taken whole (Ok all) after there made e is h =
    let x : TraceNumber = number_in (terms b) k in
    let old : map (number_in (terms b)) next ≡ map (number_in (terms a)) front ++ x ∷ [] =
    ap (map (number_in (terms b))) e ∙ map-append (number_in (terms b)) front (k ∷ [])
    ∙ ap (λ l. l ++ x ∷ []) (numbers_stay front there (made_more made)).0 in
    record {
      rest = x ∷ h.rest;
      is = is ∙ ap (with_first x) h.is;
      all_are = h.all_are ∙ ap (λ l. l ++ h.rest) old ∙ append_assoc (map (number_in (terms a)) front) (x ∷ []) h.rest;
      there = h.there;
      more = more_then (made_more made) h.more;
    }
number_first a b c front next k taken whole (Err Form) after there made e is h = is ∙
    ap (with_first (number_in (terms b) k)) h
number_first a b c front next k taken whole (Err Memory) after there made e is h = tt

numbers_more : {B : Type 0} (read : Reader TraceNumber) (names bs : List B) (n : B) (a b c : List Node)
    (t0 t1 t2 after front next : List ℕ) (k : ℕ)
    (r : Result (List ℕ) LineError) → names ≡ n ∷ bs → AllNumbers (terms a) front →
    the_text (codes ",") t0 ≡ Some (tt, t1) →
    NumberRead (read t1) a b t2 k → next ≡ front ++ k ∷ [] → ReadsNumbers (more_of read bs t2) b c after next r →
    ReadsNumbers (more_of read names t0) a c after front r
numbers_more read names bs n a b c t0 t1 t2 after front next k r all there comma first e h =
    number_first a b c front next k _ _ r after there first.made e
    (ap (λ l. more_of read l t0) all ∙ more_step read n bs t0 t1 t2 (number_in (terms b) k) comma first.is) h

pub no_comma : {B : Type 0} (read : Reader TraceNumber) (names bs : List B) (n : B) (t0 : List ℕ) → names ≡ n ∷ bs →
    the_text (codes ",") t0 ≡ None →
    more_of read names t0 ≡ None
no_comma read names bs n t0 all comma = ap (λ l. more_of read l t0) all ∙ more_no_comma read n bs t0 comma

pub no_number : {B : Type 0} (read : Reader TraceNumber) (names bs : List B) (n : B) (t0 t1 : List ℕ) → names ≡ n ∷ bs →
    the_text (codes ",") t0 ≡ Some (tt, t1) → read t1 ≡ None → more_of read names t0 ≡ None
no_number read names bs n t0 t1 all comma first = ap (λ l. more_of read l t0) all ∙
    more_none read n bs t0 t1 comma first

numbers_after : {B : Type 0} (read : Reader TraceNumber) (names bs : List B) (n : B) (a b c : List Node)
    (t0 t1 after next : List ℕ) (k : ℕ)
    (r : Result (List ℕ) LineError) → names ≡ n ∷ bs → NumberRead (read t0) a b t1 k → next ≡ k ∷ [] →
    ReadsNumbers (more_of read bs t1) b c after next r → ReadsNumbers (each_of read names t0) a c after [] r
numbers_after read names bs n a b c t0 t1 after next k r all first e h =
    number_first a b c [] next k _ _ r after tt first.made e
    (ap (λ l. each_of read l t0) all ∙ each_step read n bs t0 t1 (number_in (terms b) k) first.is) h

pub no_first : {B : Type 0} (read : Reader TraceNumber) (names bs : List B) (n : B) (t0 : List ℕ) → names ≡ n ∷ bs →
    read t0 ≡ None →
    each_of read names t0 ≡ None
no_first read names bs n t0 all first = ap (λ l. each_of read l t0) all ∙ each_none read n bs t0 first

pub first_there : (a b : List Node) (next : List ℕ) (k : ℕ) → NumberMade a b k → next ≡ k ∷ [] →
    AllNumbers (terms b) next
first_there a b next k made e = subst (AllNumbers (terms b)) (sym e) (number_made made, tt)

-- what is taken of a list after its first, one fewer than it has, is all of that
all_left : {B : Type 0} (n : B) (bs : List B) → take (length (n ∷ bs) - 1) bs ≡ bs
all_left n bs = take_all (length (n ∷ bs) - 1) bs (omega arith)

pub others_read : {B : Type 0} (read : Reader TraceNumber) (names : List B) (a b c : List Node)
    (t0 t1 t2 after front next : List ℕ) (k : ℕ)
    (r : Result (List ℕ) LineError) → 1 ≤ length names → AllNumbers (terms a) front →
    the_text (codes ",") t0 ≡ Some (tt, t1) →
    NumberRead (read t1) a b t2 k → next ≡ front ++ k ∷ [] → ReadsNumbers
    (more_of read (take (length names - 1) (drop 1 names)) t2) b c after next r →
    ReadsNumbers (more_of read names t0) a c after front r
others_read read [] a b c t0 t1 t2 after front next k r some there comma first e h = absurd (omega (arith, some))
others_read read (n ∷ bs) a b c t0 t1 t2 after front next k r some there comma first e h =
    numbers_more read (n ∷ bs) bs n a b c t0 t1 t2 after front next k r refl there comma first e
    (subst (λ l. ReadsNumbers (more_of read l t2) b c after next r) (all_left n bs) h)

pub no_others : {B : Type 0} (read : Reader TraceNumber) (names : List B) (ns : List Node) (text front : List ℕ) →
    length names < 1 →
    AllNumbers (terms ns) front →
    NumbersRead (more_of read names text) ns ns text front front
no_others read [] ns text front none there = none_read ns text front there
no_others read (n ∷ bs) ns text front none there = absurd (omega (arith, none))

pub first_read : {B : Type 0} (read : Reader TraceNumber) (names : List B) (a b c : List Node)
    (t0 t1 after next : List ℕ) (k : ℕ)
    (r : Result (List ℕ) LineError) → 1 ≤ length names → NumberRead (read t0) a b t1 k → next ≡ k ∷ [] →
    ReadsNumbers (more_of read (take (length names - 1) (drop 1 names)) t1) b c after next r →
    ReadsNumbers (each_of read names t0) a c after [] r
first_read read [] a b c t0 t1 after next k r some first e h = absurd (omega (arith, some))
first_read read (n ∷ bs) a b c t0 t1 after next k r some first e h =
    numbers_after read (n ∷ bs) bs n a b c t0 t1 after next k r refl first e
    (subst (λ l. ReadsNumbers (more_of read l t1) b c after next r) (all_left n bs) h)
