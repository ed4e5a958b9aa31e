-- The form of a node is made of its parts' values.
use Rattle.std.proofs.Common.{◌≡◌, ℕ, List, [], ◌∷◌, map, refl, sym, ap, subst, ◌∙◌}
use Rattle.std.specs.Prelude.{slice_index}
use Rattle.std.specs.List.{AllZip}
use Rattle.std.specs.Option.{unwrap_or}
use Rattle.trace_mean.specs.Trace as trace
use Rattle.trace_core.specs.declared.node.Node.{Node}
use Rattle.trace_core.specs.declared.node.Node.TheVariants as nodes
use Rattle.trace_core.specs.declared.node.Atom as atom
use Rattle.trace_core.specs.declared.node.Core as core
use Rattle.trace_core.specs.View as term
use Rattle.trace_core.specs.View.{Term, load_tree, term_of}
use Rattle.trace_core.specs.Arena as arena
use Rattle.symbol_mean.specs.Value as value
use Rattle.symbol_mean.specs.Symbolic.{Values, cell_seen, number_value, message_value}
use Rattle.symbol_compare.specs.declared.sort.Sort.{Sort}
use Rattle.symbol_compare.specs.declared.sort.Sort.TheVariants as sorts
use Rattle.symbol_compare.specs.declared.form.Seen.{Seen}
use Rattle.symbol_compare.specs.declared.form.ValueForm.{ValueForm}
use Rattle.symbol_compare.specs.Meant.{Meant, a_number, a_message, number_in, message_in, seen_tree, meant_of}
use Rattle.symbol_compare.specs.Table.{Stands, IsNumber, IsMessage, IsWell}
use Rattle.symbol_compare.specs.Parts.{sort_of, parts_of, AreBelow, form_of}
use Rattle.symbol_compare.specs.Walk.{meant_by, term_in}
use Rattle.symbol_compare.proofs.Growing.{number_is, number_there, message_is, message_there}

-- A node that is an atom, and one that is a core.
abbrev node_back : Sort → Node → Node
node_back (sorts.Number a) x = nodes.Atom a
node_back (sorts.Message c) x = nodes.Core c
node_back sorts.Parts x = x

node_again : (x : Node) → node_back (sort_of x) x ≡ x
node_again (nodes.Atom a) = refl
node_again (nodes.Core c) = refl
node_again _ = refl

pub atom_sort : (x : Node) (a : atom.Atom) → sorts.Number a ≡ sort_of x → x ≡ nodes.Atom a
atom_sort x a e = sym (node_again x) ∙ ap (λ s. node_back s x) (sym e)

pub core_sort : (x : Node) (c : core.Core) → sorts.Message c ≡ sort_of x → x ≡ nodes.Core c
core_sort x c e = sym (node_again x) ∙ ap (λ s. node_back s x) (sym e)

pub parts_below : (n : ℕ) (x : Node) → arena.IsBelow n x → AreBelow n (parts_of x)
parts_below n (nodes.Element p c i) b = (b, tt)
parts_below n (nodes.Square p c i j) b = (b.0, (b.1, tt))
parts_below n (nodes.Rows p c i) b = (b, tt)
parts_below n (nodes.Item p c i j k) b = (b.0, (b.1, tt))
parts_below n (nodes.Size m) b = (b, tt)
parts_below n (nodes.Binary o i j) b = (b.0, (b.1, tt))
parts_below n (nodes.Apply f i) b = (b, tt)
parts_below n (nodes.Pick i j k) b = (b.0, (b.1, (b.2, tt)))
parts_below n (nodes.Held p c i j load) b = (b.0, (b.1, tt))
parts_below n (nodes.Cut m i j) b = (b.0, (b.1, (b.2, tt)))
parts_below n (nodes.Tail m i) b = (b.0, (b.1, tt))
parts_below n (nodes.Join m w) b = (b.0, (b.1, tt))
parts_below n (nodes.Atom a) b = tt
parts_below n (nodes.Core c) b = tt
parts_below n nodes.Me b = tt
parts_below n nodes.Count b = tt
parts_below n nodes.Ltime b = tt

-- What some numbers stand for, one by one.
first_part : (ms : List Meant) (vs : List ℕ) (t : Meant) (rest : List Meant) → AllZip (Stands ms) vs (t ∷ rest) →
    Stands ms (slice_index vs 0) t
first_part ms [] t rest h = absurd h
first_part ms (k ∷ vs) t rest h = h.0

second_part : (ms : List Meant) (vs : List ℕ) (s t : Meant) (rest : List Meant) → AllZip (Stands ms) vs (s ∷ t ∷ rest) →
    Stands ms (slice_index vs 1) t
second_part ms [] s t rest h = absurd h
second_part ms (k ∷ []) s t rest h = absurd h.1
second_part ms (k ∷ j ∷ vs) s t rest h = h.1.0

third_part : (ms : List Meant) (vs : List ℕ) (r s t : Meant) (rest : List Meant) →
    AllZip (Stands ms) vs (r ∷ s ∷ t ∷ rest) → Stands ms (slice_index vs 2) t
third_part ms [] r s t rest h = absurd h
third_part ms (k ∷ []) r s t rest h = absurd h.1
third_part ms (k ∷ j ∷ []) r s t rest h = absurd h.1.1
third_part ms (k ∷ j ∷ i ∷ vs) r s t rest h = h.1.1.0

module _ (ts : List Term) (ms : List Meant) (v : Values) where
  abbrev meant : ℕ → Meant
  meant k = meant_by v (term_in ts k)

  pub number_meant_is : (k : ℕ) → arena.IsNumber ts k → meant k ≡ a_number (number_value v (term.number_in ts k))
  number_meant_is k b = ap (λ o. meant_by v (unwrap_or o (term.a_number (trace.atom (trace.number 0))))) b.stands

  pub message_meant_is : (k : ℕ) → arena.IsMessage ts k → meant k ≡ a_message (message_value v (term.message_in ts k))
  message_meant_is k b = ap (λ o. meant_by v (unwrap_or o (term.a_number (trace.atom (trace.number 0))))) b.stands

  record NumberPart (i k : ℕ) : Type 0 where
    pub there : IsNumber ms k
    pub is : number_in ms k ≡ number_value v (term.number_in ts i)

  record MessagePart (i k : ℕ) : Type 0 where
    pub there : IsMessage ms k
    pub is : message_in ms k ≡ message_value v (term.message_in ts i)

  number_part : (i k : ℕ) → arena.IsNumber ts i → Stands ms k (meant i) → NumberPart i k
  number_part i k b s = let n = subst (λ x. Stands ms k x) (number_meant_is i b) s in
      record { there = number_there n; is = number_is n }

  message_part : (i k : ℕ) → arena.IsMessage ts i → Stands ms k (meant i) → MessagePart i k
  message_part i k b s = let n = subst (λ x. Stands ms k x) (message_meant_is i b) s in
      record { there = message_there n; is = message_is n }

  abbrev Parts : List ℕ → List ℕ → Type 0
  Parts ks vs = AllZip (Stands ms) vs (map meant ks)

  -- The first, second and third of some parts.
  n1 : (i : ℕ) (rest vs : List ℕ) → arena.IsNumber ts i → Parts (i ∷ rest) vs → NumberPart i (slice_index vs 0)
  n1 i rest vs b h = number_part i (slice_index vs 0) b (first_part ms vs (meant i) (map meant rest) h)

  n2 : (j i : ℕ) (rest vs : List ℕ) → arena.IsNumber ts i → Parts (j ∷ i ∷ rest) vs → NumberPart i (slice_index vs 1)
  n2 j i rest vs b h = number_part i (slice_index vs 1) b (second_part ms vs (meant j) (meant i) (map meant rest) h)

  n3 : (k j i : ℕ) (rest vs : List ℕ) → arena.IsNumber ts i → Parts (k ∷ j ∷ i ∷ rest) vs →
      NumberPart i (slice_index vs 2)
  n3 k j i rest vs b h =
      number_part i (slice_index vs 2) b (third_part ms vs (meant k) (meant j) (meant i) (map meant rest) h)

  m1 : (i : ℕ) (rest vs : List ℕ) → arena.IsMessage ts i → Parts (i ∷ rest) vs → MessagePart i (slice_index vs 0)
  m1 i rest vs b h = message_part i (slice_index vs 0) b (first_part ms vs (meant i) (map meant rest) h)

  m2 : (j i : ℕ) (rest vs : List ℕ) → arena.IsMessage ts i → Parts (j ∷ i ∷ rest) vs → MessagePart i (slice_index vs 1)
  m2 j i rest vs b h = message_part i (slice_index vs 1) b (second_part ms vs (meant j) (meant i) (map meant rest) h)

  module _ (sees : ℕ → ℕ → Seen) (same : (p c : ℕ) → seen_tree (sees p c) ≡ cell_seen v p c) where
    -- A form is well, and means what a node does.
    pub record FormIs (x : Node) (f : ValueForm) : Type 0 where
      pub well : IsWell ms f
      pub is : meant_of ms f ≡ meant_by v (term_of ts x)

    pub form_is : (x : Node) (vs : List ℕ) → sorts.Parts ≡ sort_of x → arena.IsWell ts x → Parts (parts_of x) vs →
        FormIs x (form_of sees x vs)
    form_is (nodes.Atom a) vs e b h = absurd (cc e)
    form_is (nodes.Core c) vs e b h = absurd (cc e)
    form_is nodes.Me vs e b h = record { well = tt; is = refl }
    form_is nodes.Count vs e b h = record { well = tt; is = refl }
    form_is nodes.Ltime vs e b h = record { well = tt; is = refl }
    form_is (nodes.Element p c i) vs e b h = let x = n1 i [] vs b h in
        record { well = x.there; is = λ t. a_number (value.element (same p c t) (x.is t)) }
    form_is (nodes.Square p c i j) vs e b h = let x = n1 i (j ∷ []) vs b.0 h in let y = n2 i j [] vs b.1 h in
        record { well = (x.there, y.there); is = λ t. a_number (value.square (same p c t) (x.is t) (y.is t)) }
    form_is (nodes.Rows p c i) vs e b h = let x = n1 i [] vs b h in
        record { well = x.there; is = λ t. a_number (value.rows (same p c t) (x.is t)) }
    form_is (nodes.Item p c i j k) vs e b h = let x = n1 i (j ∷ []) vs b.0 h in let y = n2 i j [] vs b.1 h in
        record { well = (x.there, y.there); is = λ t. a_number (value.item (same p c t) (x.is t) (y.is t) k) }
    form_is (nodes.Size m) vs e b h = let x = m1 m [] vs b h in
        record { well = x.there; is = λ t. a_number (value.size (x.is t)) }
    form_is (nodes.Binary o i j) vs e b h = let x = n1 i (j ∷ []) vs b.0 h in let y = n2 i j [] vs b.1 h in
        record { well = (x.there, y.there); is = λ t. a_number (value.binary o (x.is t) (y.is t)) }
    form_is (nodes.Apply f i) vs e b h = let x = n1 i [] vs b h in
        record { well = x.there; is = λ t. a_number (value.apply f (x.is t)) }
    form_is (nodes.Pick i j k) vs e b h =
        let x = n1 i (j ∷ k ∷ []) vs b.0 h in let y = n2 i j (k ∷ []) vs b.1 h in let z = n3 i j k [] vs b.2 h in
        record { well = (x.there, y.there, z.there); is = λ t. a_number (value.pick (x.is t) (y.is t) (z.is t)) }
    form_is (nodes.Held p c i j load) vs e b h = let x = n1 i (j ∷ []) vs b.0 h in let y = n2 i j [] vs b.1 h in
        record {
          well = (x.there, y.there);
          is = λ t.
              a_message (value.held (same p c t) (x.is t) (y.is t) (load_tree load));
        }
    form_is (nodes.Cut m i j) vs e b h =
        let x = m1 m (i ∷ j ∷ []) vs b.0 h in let y = n2 m i (j ∷ []) vs b.1 h in let z = n3 m i j [] vs b.2 h in
        record { well = (x.there, y.there, z.there); is = λ t. a_message (value.cut (x.is t) (y.is t) (z.is t)) }
    form_is (nodes.Tail m i) vs e b h = let x = m1 m (i ∷ []) vs b.0 h in let y = n2 m i [] vs b.1 h in
        record { well = (x.there, y.there); is = λ t. a_message (value.tail (x.is t) (y.is t)) }
    form_is (nodes.Join m w) vs e b h = let x = m1 m (w ∷ []) vs b.0 h in let y = m2 m w [] vs b.1 h in
        record { well = (x.there, y.there); is = λ t. a_message (value.join (x.is t) (y.is t)) }
