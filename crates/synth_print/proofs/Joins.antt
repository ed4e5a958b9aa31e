-- Texts with commas between.
use Rattle.std.proofs.Common.{◌≡◌, ℕ, zero, suc, ◌+◌, ◌<◌, List, [], ◌∷◌, ◌++◌, codes, get_or, length, map, take}
use Rattle.std.proofs.Common.{Option, Some, None, refl, sym, ap, subst, ◌∙◌, append-nil}
use Rattle.std.proofs.lemmas.List.{append_assoc, length-map}
use Rattle.std.proofs.lemmas.Option.{get_or_from_slice_get, slice_get-get_or, slice_get-map}
use Rattle.std.specs.List.{slice_get}
use Rattle.std.specs.Option.{option_map}
use Rattle.std.specs.Prelude.{OnOk, Result, option_to_list, slice_index_or}
use Rattle.bypass_mean.specs.Text.{Written, atom_text, number_text}
use Rattle.layer_mean.specs.Tree.{LayerTree}
use Rattle.report_lines.proofs.Joined.{join_step, line_more}
use Rattle.report_lines.specs.Lead.{lead}
use Rattle.synth_print.specs.Headers.{atom_texts, comma_list}
use Rattle.synth_print.specs.Operations.{core_of, last_part, listed_cores, listed_rows, number_texts, pushed_of}
use Rattle.trace_core.specs.Operations.{operation_in}
use Rattle.trace_core.specs.View.{Term, atom_tree, number_in}
use Rattle.trace_core.specs.declared.node.Atom.{Atom}
use Rattle.trace_core.specs.declared.operation.Chained.{Chained}
use Rattle.trace_core.specs.declared.operation.Operation.{Operation}
use Rattle.trace_mean.specs.Trace as trace

-- one more text after a line that has those before it
pub line_lead : (parts : List (List ℕ)) (k : ℕ) (base a b c : List ℕ) → a ≡ base ++ comma_list (take k parts) →
    b ≡ a ++ lead (codes ",") k →
    c ≡ b ++ get_or parts k [] → k < length parts → c ≡ base ++ comma_list (take (k + 1) parts)
line_lead parts k base a b c ea eb ec lt = line_more (λ part. part) (codes ",") parts k (get_or parts k []) [] base a b
    c ea eb ec lt refl

-- an atom of a list
mapped : {X Y : Type 0} (f : X → Y) (xs : List X) (k : ℕ) (x : X) (d : Y) → slice_get xs k ≡ Some x →
    get_or (map f xs) k d ≡ f x
mapped f xs k x d is = get_or_from_slice_get (map f xs) k (f x) d (slice_get-map f xs k ∙ ap (option_map f) is)

unmapped : {X Y : Type 0} (f : X → Y) (xs : List X) (k : ℕ) (d : Y) → slice_get xs k ≡ None → get_or (map f xs) k d ≡ d
unmapped f [] k d is = refl
unmapped f (x ∷ xs) zero d is = absurd (cc is)
unmapped f (x ∷ xs) (suc k) d is = unmapped f xs k d is

-- the number of a node of a list, and the operation of a list
pub node_at : (ts : List Term) (ks : List ℕ) (k n : ℕ) (d : trace.TraceNumber) → slice_get ks k ≡ Some n →
    number_in ts n ≡ get_or (map (number_in ts) ks) k d
node_at ts ks k n d is = sym (mapped (number_in ts) ks k n d is)

pub operation_at : (ts : List Term) (cs : List (List trace.Link)) (os : List Operation) (k : ℕ) (o : Operation)
    (d : trace.Operation) →
    slice_get os k ≡ Some o → operation_in ts cs o ≡ get_or (map (operation_in ts cs) os) k d
operation_at ts cs os k o d is = sym (mapped (operation_in ts cs) os k o d is)

pub atom_there : {E : Type 0} (w : Written) (atoms : List Atom) (k : ℕ) (a : Atom) (r : Result (Unit {0}) E)
    (old new : List ℕ) →
    Some a ≡ slice_get atoms k → OnOk r (new ≡ old ++ atom_text w (atom_tree a)) →
    OnOk r (new ≡ old ++ slice_index_or (atom_texts w atoms) k [])
atom_there w atoms k a r old new is put =
    subst (λ text. OnOk r (new ≡ old ++ text))
    (sym (mapped (atom_text w) (map atom_tree atoms) k (atom_tree a) []
    (slice_get-map atom_tree atoms k ∙ ap (option_map atom_tree) (sym is)))) put

pub atom_missing : (w : Written) (atoms : List Atom) (k : ℕ) (old : List ℕ) → None ≡ slice_get atoms k →
    old ≡ old ++ slice_index_or (atom_texts w atoms) k []
atom_missing w atoms k old is =
    sym (append-nil old) ∙ ap (λ text. old ++ text) (sym (unmapped (atom_text w) (map atom_tree atoms) k []
    (slice_get-map atom_tree atoms k ∙ ap (option_map atom_tree) (sym is))))

-- parts and a last one, in brackets
with_last : (parts : List (List ℕ)) (n : ℕ) (text : List ℕ) → n ≡ length parts →
    comma_list (parts ++ text ∷ []) ≡ comma_list parts ++ last_part n (Some text)
with_last parts n text is = join_step (λ part. part) (codes ",") parts text
    ∙ append_assoc (comma_list parts) (lead (codes ",") (length parts)) text
    ∙ ap (λ k. comma_list parts ++ last_part k (Some text)) (sym is)

bracketed : {E : Type 0} (r : Result (Unit {0}) E) (old new parts last all : List ℕ) → all ≡ parts ++ last →
    OnOk r (new ≡ old ++ codes "(" ++ parts ++ last ++ codes ")") →
    OnOk r (new ≡ old ++ (codes "(" ++ all ++ codes ")"))
bracketed r old new parts last all is put =
    subst (λ text. OnOk r (new ≡ text))
    (ap (λ text. text ++ codes ")") (append_assoc (old ++ codes "(") parts last)
    ∙ ap (λ text. (old ++ codes "(") ++ text ++ codes ")") (sym is)
    ∙ ap (λ text. text ++ codes ")") (append_assoc old (codes "(") all)
    ∙ append_assoc old (codes "(" ++ all) (codes ")")) put

pub many_atoms : (w : Written) (atoms : List Atom) → length (atom_texts w atoms) ≡ length atoms
many_atoms w atoms = length-map (map atom_tree atoms) (atom_text w) ∙ length-map atoms atom_tree

pub many_numbers : (stack : List LayerTree) (w : Written) (ts : List Term) (ks : List ℕ) →
    length (number_texts stack w ts ks) ≡ length ks
many_numbers stack w ts ks = length-map (map (number_in ts) ks) (number_text stack w) ∙ length-map ks (number_in ts)

all_parts : (parts : List (List ℕ)) (n : ℕ) (last : Option (List ℕ)) → n ≡ length parts →
    comma_list (parts ++ option_to_list last) ≡ comma_list parts ++ last_part n last
all_parts parts n None is = ap comma_list (append-nil parts) ∙ sym (append-nil (comma_list parts))
all_parts parts n (Some text) is = with_last parts n text is

pub cores_listed : {E : Type 0} (w : Written) (cs : List (List trace.Link)) (atoms : List Atom)
    (message : Option Chained) (r : Result (Unit {0}) E)
    (old new : List ℕ) →
    OnOk r (new ≡ old ++ codes "(" ++ comma_list (atom_texts w atoms) ++
    last_part (length atoms) (option_map (core_of w) message) ++ codes ")") →
    OnOk r (new ≡ old ++ listed_cores w cs atoms message)
cores_listed w cs atoms None r old new put =
    bracketed r old new (comma_list (atom_texts w atoms)) [] (comma_list (atom_texts w atoms ++ []))
    (all_parts (atom_texts w atoms) (length atoms) None (sym (many_atoms w atoms))) put
cores_listed w cs atoms (Some m) r old new put =
    bracketed r old new (comma_list (atom_texts w atoms)) (last_part (length atoms) (Some (core_of w m))) (comma_list
    (atom_texts w atoms ++ core_of w m ∷ []))
    (all_parts (atom_texts w atoms) (length atoms) (Some (core_of w m)) (sym (many_atoms w atoms))) put

pub rows_listed : {E : Type 0} (stack : List LayerTree) (w : Written) (ts : List Term) (cs : List (List trace.Link))
    (ks : List ℕ)
    (message : Option Chained) (r : Result (Unit {0}) E) (old new : List ℕ) →
    OnOk r (new ≡ old
    ++ codes "(" ++ comma_list (number_texts stack w ts ks) ++
    last_part (length ks) (option_map (pushed_of stack w cs) message) ++ codes ")") →
    OnOk r (new ≡ old ++ listed_rows stack w ts cs ks message)
rows_listed stack w ts cs ks None r old new put =
    bracketed r old new (comma_list (number_texts stack w ts ks)) [] (comma_list (number_texts stack w ts ks ++ []))
    (all_parts (number_texts stack w ts ks) (length ks) None (sym (many_numbers stack w ts ks))) put
rows_listed stack w ts cs ks (Some m) r old new put =
    bracketed r old new (comma_list (number_texts stack w ts ks))
    (last_part (length ks) (Some (pushed_of stack w cs m)))
    (comma_list (number_texts stack w ts ks ++ pushed_of stack w cs m ∷ []))
    (all_parts (number_texts stack w ts ks) (length ks) (Some (pushed_of stack w cs m))
    (sym (many_numbers stack w ts ks))) put

-- a number of a list
pub number_text_at : (stack : List LayerTree) (w : Written) (ts : List Term) (ks : List ℕ) (k n : ℕ) → k < length ks →
    n ≡ get_or ks k 0 →
    number_text stack w (number_in ts n) ≡ get_or (number_texts stack w ts ks) k []
number_text_at stack w ts ks k n lt is =
    let here : slice_get ks k ≡ Some n = slice_get-get_or ks k 0 lt ∙ ap Some (sym is) in
    sym (mapped (number_text stack w) (map (number_in ts) ks) k (number_in ts n) []
    (slice_get-map (number_in ts) ks k ∙ ap (option_map
    (number_in ts)) here))
