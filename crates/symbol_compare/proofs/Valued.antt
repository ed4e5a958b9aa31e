-- What nodes mean, from what was made.
use Rattle.std.proofs.Common.{◌≡◌, ℕ, zero, suc, ◌<◌, List, [], ◌∷◌, length, map, take, Some, sym, ap, subst, ◌∙◌}
use Rattle.std.proofs.Common.{arith}
use Rattle.std.specs.Prelude.{slice_index}
use Rattle.std.specs.List.{AllZip, slice_get}
use Rattle.std.specs.Option.{unwrap_or}
use Rattle.std.proofs.lemmas.List.{take_all}
use Rattle.std.proofs.lemmas.Option.{slice_get_within}
use Rattle.trace_mean.specs.Trace as trace
use Rattle.trace_core.specs.declared.node.Node.{Node}
use Rattle.trace_core.specs.declared.node.Atom as atom
use Rattle.trace_core.specs.declared.node.Core as core
use Rattle.trace_core.specs.View as term
use Rattle.trace_core.specs.View.{Term, atom_tree, core_tree, term_of, terms}
use Rattle.trace_core.specs.Arena as arena
use Rattle.trace_core.specs.Operations as operations
use Rattle.trace_core.proofs.Terms.{terms_long}
use Rattle.symbol_mean.specs.Symbolic.{atom_value, core_value, number_value, message_value}
use Rattle.symbol_compare.specs.declared.sort.Sort.TheVariants as sorts
use Rattle.symbol_compare.specs.declared.form.ValueForm.{ValueForm}
use Rattle.symbol_compare.specs.declared.walk.Walk.{Walk}
use Rattle.symbol_compare.specs.Meant.{Meant, a_number, a_message, meant_of, meanings}
use Rattle.symbol_compare.specs.Table.{Stands, IsWell, Made}
use Rattle.symbol_compare.specs.Parts.{sort_of, parts_of, AreBelow, seen_in, form_of}
use Rattle.symbol_compare.specs.Walk.{known_to, meant_by, meant_at, AreNumbers, Knows, AllMade, NumbersMade}
use Rattle.symbol_compare.proofs.Growing.{made_as, made_after}
use Rattle.symbol_compare.proofs.Compound.{parts_below, atom_sort, core_sort, form_is, number_meant_is}
use Rattle.symbol_compare.proofs.Compound.{message_meant_is}

-- The terms of a walk's trace.
abbrev terms_of : Walk → List Term
terms_of w = terms w.trace.now.nodes

node_meant : (w : Walk) (node : ℕ) (x : Node) → slice_get (terms_of w) node ≡ Some (term_of (terms_of w) x) →
    meant_at w node ≡ meant_by (known_to w) (term_of (terms_of w) x)
node_meant w node x e = ap (λ o. meant_by (known_to w) (unwrap_or o (term.a_number (trace.atom (trace.number 0))))) e

pub atom_meant : {a b : List ValueForm} {k : ℕ} (w : Walk) (node : ℕ) (x : Node) (i : atom.Atom) →
    slice_get (terms_of w) node ≡ Some (term_of (terms_of w) x) →
    sorts.Number i ≡ sort_of x → Made a b k (a_number (atom_value (known_to w) (atom_tree i))) →
    Made a b k (meant_at w node)
atom_meant w node x i e s m = made_as m
    (sym (node_meant w node x e ∙ ap (λ y. meant_by (known_to w) (term_of (terms_of w) y)) (atom_sort x i s)))

pub core_meant : {a b : List ValueForm} {k : ℕ} (w : Walk) (node : ℕ) (x : Node) (i : core.Core) →
    slice_get (terms_of w) node ≡ Some (term_of (terms_of w) x) →
    sorts.Message i ≡ sort_of x → Made a b k (a_message (core_value (known_to w) (core_tree i))) →
    Made a b k (meant_at w node)
core_meant w node x i e s m = made_as m
    (sym (node_meant w node x e ∙ ap (λ y. meant_by (known_to w) (term_of (terms_of w) y)) (core_sort x i s)))

-- A form that is made of the values of a node's parts.
pub record FormMade (fs : List ValueForm) (w : Walk) (node : ℕ) (f : ValueForm) : Type 0 where
  pub well : IsWell (meanings fs) f
  pub is : meant_of (meanings fs) f ≡ meant_at w node

all_parts : (w : Walk) (many : ℕ) (parts : List ℕ) (x : Node) → parts ≡ parts_of x → many ≡ length parts →
    map (meant_at w) (take many parts) ≡ map (meant_at w) (parts_of x)
all_parts w many parts x p n = ap (map (meant_at w)) (take_all many parts (omega (arith, n)) ∙ p)

pub form_made : {a b : List ValueForm} (w : Walk) (node many : ℕ) (x : Node) (parts ks : List ℕ) (f : ValueForm) →
    Knows a w → slice_get (terms_of w) node ≡ Some (term_of (terms_of w) x) → arena.IsWell (terms_of w) x →
    sorts.Parts ≡ sort_of x →
    parts ≡ parts_of x → many ≡ length parts → AllMade a b (map (meant_at w) (take many parts)) many ks →
    f ≡ form_of (seen_in w.counts) x ks →
    FormMade b w node f
form_made {a} {b} w node many x parts ks f h e well s p n m i =
    let made = form_is (terms_of w) (meanings b) (known_to w) (seen_in w.counts)
    (λ q c. λ t. record { place = q; cell = c; writes = h.counts q c t }) x ks s well
    (subst (λ l. AllZip (Stands (meanings b)) ks l) (all_parts w many parts x p n) m.stand) in
    record {
      well = subst (λ y. IsWell (meanings b) y) (sym i) made.well;
      is = ap (meant_of (meanings b)) i ∙ made.is ∙ sym (node_meant w node x e);
    }

pub form_meant : {a b c : List ValueForm} {k many : ℕ} {xs : List Meant} {ks : List ℕ} (w : Walk) (node : ℕ)
    (f : ValueForm) → AllMade a b xs many ks →
    FormMade b w node f → Made b c k (meant_of (meanings b) f) → Made a c k (meant_at w node)
form_meant w node f m i made = made_as (made_after m.grows made) i.is

pub below_at : (n : ℕ) (ks : List ℕ) (i k : ℕ) → AreBelow n ks → i < length ks → k ≡ slice_index ks i → k < n
below_at n [] i k h lt e = absurd (omega (arith, lt))
below_at n (j ∷ ks) zero k h lt e = subst (λ x. x < n) (sym e) h.0
below_at n (j ∷ ks) (suc i) k h lt e = below_at n ks i k h.1 (omega (arith, lt)) e

pub numbers_below : (w : Walk) (ks : List ℕ) → operations.AllNumbers (terms_of w) ks →
    AreBelow (length w.trace.now.nodes) ks
numbers_below w [] h = tt
numbers_below w (k ∷ ks) h =
    (omega (arith, slice_get_within (terms_of w) k _ h.0.stands, terms_long w.trace.now.nodes), numbers_below w ks h.1)

pub number_within : (w : Walk) (k : ℕ) → arena.IsNumber (terms_of w) k → k < length w.trace.now.nodes
number_within w k h = omega (arith, slice_get_within (terms_of w) k _ h.stands, terms_long w.trace.now.nodes)

pub message_within : (w : Walk) (k : ℕ) → arena.IsMessage (terms_of w) k → k < length w.trace.now.nodes
message_within w k h = omega (arith, slice_get_within (terms_of w) k _ h.stands, terms_long w.trace.now.nodes)

pub number_of_node : {a b : List ValueForm} {k : ℕ} (w : Walk) (node : ℕ) → arena.IsNumber (terms_of w) node →
    Made a b k (meant_at w node) →
    Made a b k (a_number (number_value (known_to w) (term.number_in (terms_of w) node)))
number_of_node {a} {b} w node h m = made_as m (number_meant_is (terms_of w) (meanings b) (known_to w) node h)

pub message_of_node : {a b : List ValueForm} {k : ℕ} (w : Walk) (node : ℕ) → arena.IsMessage (terms_of w) node →
    Made a b k (meant_at w node) →
    Made a b k (a_message (message_value (known_to w) (term.message_in (terms_of w) node)))
message_of_node {a} {b} w node h m = made_as m (message_meant_is (terms_of w) (meanings b) (known_to w) node h)

all_numbers : (w : Walk) (ms : List Meant) (nodes ks : List ℕ) → operations.AllNumbers (terms_of w) nodes →
    AllZip (Stands ms) ks (map (meant_at w) nodes) →
    AreNumbers ms ks (map (number_value (known_to w)) (map (term.number_in (terms_of w)) nodes))
all_numbers w ms [] [] h m = tt
all_numbers w ms [] (k ∷ ks) h m = absurd m
all_numbers w ms (n ∷ nodes) [] h m = absurd m
all_numbers w ms (n ∷ nodes) (k ∷ ks) h m = (
  subst (λ x. Stands ms k x) (number_meant_is (terms_of w) ms (known_to w) n h.0) m.0,
  all_numbers w ms nodes ks h.1 m.1,
)

pub numbers_of_nodes : {a b : List ValueForm} (w : Walk) (nodes ks : List ℕ) (many : ℕ) →
    operations.AllNumbers (terms_of w) nodes → many ≡ length nodes →
    AllMade a b (map (meant_at w) (take many nodes)) many ks →
    NumbersMade a b (map (number_value (known_to w)) (map (term.number_in (terms_of w)) nodes)) ks
numbers_of_nodes {a} {b} w nodes ks many h e m = record {
  grows = m.grows;
  stand = all_numbers w (meanings b) nodes ks h
      (subst (λ l. AllZip (Stands (meanings b)) ks (map (meant_at w) l)) (take_all many nodes (omega (arith, e)))
      m.stand);
}

pub below_parts : {parts : List ℕ} (n : ℕ) (x : Node) → parts ≡ parts_of x → arena.IsBelow n x → AreBelow n parts
below_parts n x e b = subst (AreBelow n) (sym e) (parts_below n x b)
