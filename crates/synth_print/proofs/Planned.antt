-- The headers of a plan.
use Rattle.std.proofs.Common.{◌≡◌, ℕ, zero, suc, ◌+◌, ◌≤◌, List, [], ◌∷◌, ◌++◌, codes, drop, length, map, take, Option}
use Rattle.std.proofs.Common.{Some, None, refl, sym, ap, ◌∙◌, arith}
use Rattle.std.proofs.lemmas.List.{append_assoc, drop-drop, drop_all, take_all}
use Rattle.std.specs.List.{flat_map, join_by}
use Rattle.bypass_mean.specs.Lines.{ended_line, packet_word, plan_line, plan_name, planned_field}
use Rattle.bypass_mean.specs.Text.{chain_text, layer_of, link_text}
use Rattle.layer_mean.specs.Headers.{header_of_tag}
use Rattle.layer_mean.specs.Tree.{LayerTree, no_layer}
use Rattle.stack_mean.specs.Plan.{Plan}
use Rattle.synth_print.specs.Entries.{all_headers, count_of, more_headers, plan_text, field_text, planned_header}
use Rattle.synth_print.specs.Headers.{header_called}
use Rattle.trace_mean.specs.Fuse.{entry_chain, field_atoms, fields_of}
use Rattle.trace_mean.specs.Trace as trace
use Rattle.trace_mean.specs.Trace.{Atom, Link}

pub all_first : {X : Type 0} (xs : List X) (n : ℕ) → length xs ≤ n → xs ≡ take n xs
all_first xs n le = sym (take_all n xs le)

pub none_after : {X : Type 0} (xs rest : List X) (n : ℕ) → length xs ≤ n → rest ≡ [] → rest ≡ drop n xs
none_after xs rest n le is = is ∙ sym (drop_all n xs le)

-- the fields of a header
atoms_planned : (n : ℕ) (fields : List (Option ℕ)) → map planned_field (field_atoms n fields) ≡ map field_text fields
atoms_planned n [] = refl
atoms_planned n (Some m ∷ fields) = ap (λ ls. field_text (Some m) ∷ ls) (atoms_planned n fields)
atoms_planned n (None ∷ fields) = ap (λ ls. field_text None ∷ ls) (atoms_planned (suc n) fields)

after_map : {X : Type 0} (f : X → List ℕ) (sep : List ℕ) (xs : List X) →
    flat_map (λ piece. sep ++ piece) (map f xs) ≡ flat_map (λ x. sep ++ f x) xs
after_map f sep [] = refl
after_map f sep (x ∷ xs) = ap (λ rest. (sep ++ f x) ++ rest) (after_map f sep xs)

join_map : {X : Type 0} (f : X → List ℕ) (sep : List ℕ) (xs : List X) → join_by (λ piece. piece) sep (map f xs) ≡
    join_by f sep xs
join_map f sep [] = refl
join_map f sep (x ∷ xs) = ap (λ rest. f x ++ rest) (after_map f sep xs)

first_atoms : (k n : ℕ) (fields : List (Option ℕ)) → take k (field_atoms n fields) ≡ field_atoms n (take k fields)
first_atoms zero n fields = refl
first_atoms (suc k) n [] = refl
first_atoms (suc k) n (Some m ∷ fields) = λ t. trace.number m ∷ first_atoms k n fields t
first_atoms (suc k) n (None ∷ fields) = λ t. trace.field n ∷ first_atoms k (suc n) fields t

later_atoms : (k n : ℕ) (fields : List (Option ℕ)) →
    (m : ℕ) × (drop k (field_atoms n fields) ≡ field_atoms m (drop k fields))
later_atoms zero n fields = (n, refl)
later_atoms (suc k) n [] = (n, refl)
later_atoms (suc k) n (Some m ∷ fields) = later_atoms k n fields
later_atoms (suc k) n (None ∷ fields) = later_atoms k (suc n) fields

-- a header
abbrev linked : (place tag : ℕ) → List Atom → Link
linked place tag fields = record { place = place; tag = tag; fields = fields }

link_planned : (stack : List LayerTree) (place tag n : ℕ) (fields : List (Option ℕ)) →
    link_text stack planned_field (linked place tag (field_atoms n fields)) ≡ planned_header stack place tag fields
link_planned stack place tag n fields =
    let name = (layer_of stack place).name ++ codes "." ++ header_called (header_of_tag (layer_of stack place) tag) in
    let texts = join_by field_text (codes ",") fields in
    ap (λ parts. name ++ (codes "(" ++ join_by (λ part. part) (codes ",") parts ++ codes ")")) (atoms_planned n fields)
    ∙ ap (λ text. name ++ (codes "(" ++ text ++ codes ")")) (join_map field_text (codes ",") fields)
    ∙ sym (append_assoc name (codes "(") (texts ++ codes ")"))
    ∙ sym (append_assoc (name ++ codes "(") texts (codes ")"))

-- the chain from a place on
abbrev first_layer : List LayerTree → LayerTree
first_layer [] = no_layer
first_layer (layer ∷ above) = layer

first_at : (stack : List LayerTree) (place : ℕ) → first_layer (drop place stack) ≡ layer_of stack place
first_at [] zero = refl
first_at [] (suc place) = refl
first_at (layer ∷ above) zero = refl
first_at (layer ∷ above) (suc place) = first_at above place

no_fields : (tag : ℕ) → fields_of no_layer tag ≡ 0
no_fields zero = refl
no_fields (suc tag) = refl

entry_next : (place : ℕ) (layers : List LayerTree) (tag : ℕ) (tags : List ℕ) (atoms : List Atom) →
    entry_chain place layers (tag ∷ tags) atoms
    ≡ linked place tag (take (fields_of (first_layer layers) tag) atoms)
    ∷ entry_chain (suc place) (drop 1 layers) tags (drop (fields_of (first_layer layers) tag) atoms)
entry_next place [] tag tags atoms =
    ap (λ k. linked place tag (take k atoms) ∷ entry_chain (suc place) [] tags (drop k atoms)) (sym (no_fields tag))
entry_next place (layer ∷ above) tag tags atoms = refl

module _ (stack : List LayerTree) (place tag : ℕ) (tags : List ℕ) (n : ℕ) (fields : List (Option ℕ)) where
  abbrev own : ℕ
  own = count_of stack place tag

  next_place : suc place ≡ place + 1
  next_place = omega arith

  chain_next : entry_chain place (drop place stack) (tag ∷ tags) (field_atoms n fields)
      ≡ linked place tag (field_atoms n (take own fields)) ∷ entry_chain
      (place + 1) (drop (place + 1) stack) tags (field_atoms
      (later_atoms own n fields).0 (drop own fields))
  chain_next = entry_next place (drop place stack) tag tags (field_atoms n fields)
      ∙ ap (λ layer. linked place tag (take (fields_of layer tag) (field_atoms n fields))
      ∷ entry_chain (suc place) (drop 1 (drop place stack)) tags (drop (fields_of layer tag) (field_atoms n fields)))
      (first_at stack place)
      ∙ (λ t. linked place tag (first_atoms own n fields t) ∷ entry_chain (suc place) (drop-drop 1 place stack t) tags
      ((later_atoms own n fields).1 t))
      ∙ ap (λ p. linked place tag (field_atoms n (take own fields)) ∷ entry_chain
      p (drop (place + 1) stack) tags (field_atoms
      (later_atoms own n fields).0 (drop own fields)))
      next_place

abbrev slashed : List LayerTree → Link → List ℕ
slashed stack l = codes "/" ++ link_text stack planned_field l

more_is : (stack : List LayerTree) (place : ℕ) (tags : List ℕ) (n : ℕ) (fields : List (Option ℕ)) →
    flat_map (slashed stack) (entry_chain place (drop place stack) tags (field_atoms n fields)) ≡
    more_headers stack place tags fields
more_is stack place [] n fields = refl
more_is stack place (tag ∷ tags) n fields =
    let own = count_of stack place tag in
    ap (flat_map (slashed stack)) (chain_next stack place tag tags n fields)
    ∙ ap (λ text. codes "/" ++ text ++ flat_map (slashed stack)
    (entry_chain (place + 1) (drop (place + 1) stack) tags
    (field_atoms (later_atoms own n fields).0 (drop own fields))))
    (link_planned stack place tag n (take own fields))
    ∙ ap (λ text. codes "/" ++ planned_header stack place tag (take own fields) ++ text)
    (more_is stack (place + 1) tags (later_atoms own n fields).0 (drop own fields))

all_are : (stack : List LayerTree) (tags : List ℕ) (fields : List (Option ℕ)) →
    chain_text stack planned_field (entry_chain 0 stack tags (field_atoms 0 fields)) ≡ all_headers stack tags fields
all_are stack [] fields = refl
all_are stack (tag ∷ tags) fields =
    let own = count_of stack 0 tag in
    ap (join_by (link_text stack planned_field) (codes "/")) (chain_next stack 0 tag tags 0 fields)
    ∙ ap (λ text. text ++ flat_map (slashed stack)
    (entry_chain 1 (drop 1 stack) tags (field_atoms (later_atoms own 0 fields).0 (drop own fields))))
    (link_planned stack 0 tag 0 (take own fields))
    ∙ ap (λ text. planned_header stack 0 tag (take own fields) ++ text)
    (more_is stack 1 tags (later_atoms own 0 fields).0 (drop own fields))

pub plan_is : (stack : List LayerTree) (k : ℕ) (plan : Plan) → ended_line (plan_line stack k plan) ≡
    plan_text stack k plan
plan_is stack k plan =
    ap (λ text. ended_line (plan_name k ++ codes " " ++ packet_word plan.kind ++ codes " " ++ text))
    (all_are stack plan.tags plan.fields)
