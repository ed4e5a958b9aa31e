-- The fields of a header, one after the other.
use Rattle.std.proofs.Common.{◌≡◌, ℕ, ◌-◌, List, [], ◌∷◌, ◌++◌, map, Option, Some, None, Result, Ok, Err, refl, sym, ap}
use Rattle.std.proofs.Common.{subst, ◌∙◌}
use Rattle.std.specs.Prelude.{replicate, codes}
use Rattle.std.proofs.lemmas.List.{append_assoc, append-nil, map-append}
use Rattle.trace_mean.specs.Trace as trace
use Rattle.pack_mean.specs.Reader.{Reader, the_text, more_of, each_of}
use Rattle.trace_core.specs.declared.node.Atom.{Atom}
use Rattle.trace_core.specs.View.{atom_tree}
use Rattle.pack_words.specs.declared.error.LineError.{LineError}
use Rattle.pack_words.specs.declared.error.LineError.TheVariants.{Form, Memory}
use Rattle.pack_read.specs.Operations.{AreTaken, TakesAtoms, TakesAs}
use Rattle.pack_read.proofs.Listing.{with_first, each_step, each_none, more_step, more_no_comma, more_none}
use Rattle.pack_read.proofs.Listing.{one_less}

abbrev Taken : Type 0
Taken = Option (List trace.Atom × List ℕ)

-- no more fields
pub no_fields : (read : Reader trace.Atom) (place : ℕ) (text : List ℕ) (front : List Atom) → AreTaken
    (more_of read (replicate 0 place) text) front front text
no_fields read place text front = record { rest = []; is = refl; all_are = sym (append-nil (map atom_tree front)) }

-- one before those that are taken after it
fields_first : (a : Atom) (front next : List Atom) (taken whole : Taken) (r : Result (List Atom) LineError)
    (after : List ℕ) → next ≡
    front ++ a ∷ [] →
    whole ≡ with_first (atom_tree a) taken → TakesAtoms taken next r after → TakesAtoms whole front r after
fields_first a front next taken whole (Ok all) after e is h = record {
  rest = atom_tree a ∷ h.rest;
  is = is ∙ ap (with_first (atom_tree a)) h.is;
  all_are = h.all_are ∙ ap (λ l. l ++ h.rest) (ap (map atom_tree) e ∙ map-append atom_tree front (a ∷ [])) ∙
      append_assoc
      (map atom_tree front) (atom_tree a ∷ []) h.rest;
}
fields_first a front next taken whole (Err Form) after e is h = is ∙ ap (with_first (atom_tree a)) h
fields_first a front next taken whole (Err Memory) after e is h = tt

pub field_more : (read : Reader trace.Atom) (n place : ℕ) (t0 t1 t2 t3 : List ℕ) (a : Atom) (front next : List Atom)
    (r : Result (List Atom) LineError) →
    (n ≡ 0 → ⊥) → the_text (codes ",") t0 ≡ Some (tt, t1) → read t1 ≡ Some (atom_tree a, t2) → next ≡ front ++ a ∷ [] →
    TakesAtoms (more_of read (replicate (n - 1) place) t2) next r t3 →
    TakesAtoms (more_of read (replicate n place) t0) front r t3
field_more read n place t0 t1 t2 t3 a front next r some comma first e h =
    subst (λ k. TakesAtoms (more_of read (replicate k place) t0) front r t3) (sym (one_less n some))
    (fields_first a front next _ _ r t3 e
    (more_step read place (replicate (n - 1) place) t0 t1 t2 (atom_tree a) comma first) h)

pub no_comma : (read : Reader trace.Atom) (n place : ℕ) (t0 : List ℕ) → (n ≡ 0 → ⊥) → the_text (codes ",") t0 ≡ None →
    more_of read (replicate n place) t0 ≡ None
no_comma read n place t0 some comma = ap (λ k. more_of read (replicate k place) t0) (one_less n some)
    ∙ more_no_comma read place (replicate (n - 1) place) t0 comma

pub no_field : (read : Reader trace.Atom) (n place : ℕ) (t0 t1 : List ℕ) → (n ≡ 0 → ⊥) →
    the_text (codes ",") t0 ≡ Some (tt, t1) → read t1 ≡ None →
    more_of read (replicate n place) t0 ≡ None
no_field read n place t0 t1 some comma first = ap (λ k. more_of read (replicate k place) t0) (one_less n some)
    ∙ more_none read place (replicate (n - 1) place) t0 t1 comma first

-- the first field, and the others
first_alone : (a : Atom) (next : List Atom) (taken whole : Taken) (r : Result (List Atom) LineError) (after : List ℕ) →
    next ≡ a ∷ [] →
    whole ≡ with_first (atom_tree a) taken → TakesAtoms taken next r after → TakesAs (map atom_tree) whole r after
first_alone a next taken whole (Ok all) after e is h = is ∙ ap (with_first (atom_tree a)) h.is
    ∙ ap (λ l. Some (l, after)) (sym (h.all_are ∙ ap (λ l. map atom_tree l ++ h.rest) e))
first_alone a next taken whole (Err Form) after e is h = is ∙ ap (with_first (atom_tree a)) h
first_alone a next taken whole (Err Memory) after e is h = tt

pub fields_after : (read : Reader trace.Atom) (n place : ℕ) (t0 t1 t2 : List ℕ) (a : Atom) (next : List Atom)
    (r : Result (List Atom) LineError) →
    (n ≡ 0 → ⊥) → read t0 ≡ Some (atom_tree a, t1) → next ≡ a ∷ [] →
    TakesAtoms (more_of read (replicate (n - 1) place) t1) next r t2 →
    TakesAs (map atom_tree) (each_of read (replicate n place) t0) r t2
fields_after read n place t0 t1 t2 a next r some first e h =
    subst (λ k. TakesAs (map atom_tree) (each_of read (replicate k place) t0) r t2) (sym (one_less n some))
    (first_alone a next _ _ r t2 e (each_step read place (replicate (n - 1) place) t0 t1 (atom_tree a) first) h)

pub no_first : (read : Reader trace.Atom) (n place : ℕ) (t0 : List ℕ) → (n ≡ 0 → ⊥) → read t0 ≡ None →
    each_of read (replicate n place) t0 ≡ None
no_first read n place t0 some first = ap (λ k. each_of read (replicate k place) t0) (one_less n some)
    ∙ each_none read place (replicate (n - 1) place) t0 first
