-- What is read of cells.
use Rattle.std.proofs.Common.{◌≡◌, ℕ, List, Option, Some, None, option_and_then, option_map, Result, refl, sym, ap}
use Rattle.std.proofs.Common.{subst, ◌∙◌}
use Rattle.layer_words.specs.declared.sorts.Shape.TheVariants as shapes
use Rattle.layer_mean.specs.Tree.{Form, LayerTree, numbers, queue, queues}
use Rattle.bypass_mean.specs.Text.{layer_of}
use Rattle.trace_mean.specs.Fuse.{form_at}
use Rattle.trace_mean.specs.Trace.{TraceNumber, element, square}
use Rattle.pack_mean.specs.Reader.{a_name, option_reader, ◌>>=◌}
use Rattle.pack_mean.specs.Named.{cell_named}
use Rattle.pack_mean.specs.Expression.{Inner, a_cell, an_index, index_of_queue, number_of_cell, queue_with}
use Rattle.trace_core.specs.declared.node.Node.{Node}
use Rattle.trace_core.specs.declared.node.Node.TheVariants as nodes
use Rattle.trace_core.specs.declared.node.Atom.TheVariants as atoms
use Rattle.trace_core.specs.View.{a_number, number_in, term_of, terms}
use Rattle.trace_core.specs.Arena.{Made}
use Rattle.trace_core.proofs.Makes.{following, element_made, is_number, made_as, stays}
use Rattle.pack_words.specs.View.{pair_of}
use Rattle.pack_words.specs.declared.error.LineError.{LineError}
use Rattle.pack_words.specs.declared.spot.Spot.{Spot}
use Rattle.pack_read.specs.declared.sort.Sort.{Sort}
use Rattle.pack_read.specs.declared.sort.Sort.TheVariants as sorts
use Rattle.pack_read.specs.declared.targeted.Target.{Target}
use Rattle.pack_read.specs.declared.targeted.Target.TheVariants as targets
use Rattle.pack_read.specs.Sorts.{number_by_sort, queue_by_sort, sort_of}
use Rattle.pack_read.specs.Expressions.{NumberRead, QueueRead, ReadsTarget, TargetRead}
use Rattle.pack_read.proofs.Took.{number_read, onto}

number_is_by : (inner : Inner) (p c : ℕ) (form : Option Form) → number_of_cell inner p c form ≡
    number_by_sort inner p c (option_map sort_of form)
number_is_by inner p c None = refl
number_is_by inner p c (Some (numbers shapes.One initial)) = refl
number_is_by inner p c (Some (numbers shapes.Array initial)) = refl
number_is_by inner p c (Some (numbers shapes.Square initial)) = refl
number_is_by inner p c (Some (queue capacity items)) = refl
number_is_by inner p c (Some (queues capacity items)) = refl

queue_is_by : (inner : Inner) (p c : ℕ) (form : Option Form) → index_of_queue inner p c form ≡
    queue_by_sort inner p c (option_map sort_of form)
queue_is_by inner p c None = refl
queue_is_by inner p c (Some (numbers shapes.One initial)) = refl
queue_is_by inner p c (Some (numbers shapes.Array initial)) = refl
queue_is_by inner p c (Some (numbers shapes.Square initial)) = refl
queue_is_by inner p c (Some (queue capacity items)) = refl
queue_is_by inner p c (Some (queues capacity items)) = refl

-- the cell of a name
cell_by : (stack : List LayerTree) (inner : Inner) (name : List (List ℕ)) (spot : Spot) (sort : Option Sort)
    (t : List ℕ) →
    Some (pair_of spot) ≡ cell_named stack name →
    sort ≡ option_map sort_of (form_at (layer_of stack spot.place) spot.cell) →
    a_cell stack inner name t ≡ number_by_sort inner spot.place spot.cell sort t
cell_by stack inner name spot sort t found sorted =
    ap (λ o. (option_reader o >>= λ cell. number_of_cell inner cell.0 cell.1 (form_at (layer_of stack cell.0) cell.1))
    t)
    (sym found)
    ∙ ap (λ read. read t) (number_is_by inner spot.place spot.cell (form_at (layer_of stack spot.place) spot.cell)
    ∙ ap (number_by_sort inner spot.place spot.cell) (sym sorted))

pub target_read : (stack : List LayerTree) (inner : Inner) (name : List (List ℕ)) (spot : Spot) (sort : Option Sort)
    (t0 t1 : List ℕ) (a b : List Node)
    (r : Result Target LineError) → Some (pair_of spot) ≡ cell_named stack name →
    sort ≡ option_map sort_of (form_at (layer_of stack spot.place) spot.cell) →
    ReadsTarget (number_by_sort inner spot.place spot.cell sort t0) a b t1 r →
    ReadsTarget (a_cell stack inner name t0) a b t1 r
target_read stack inner name spot sort t0 t1 a b r found sorted h =
    subst (λ taken. ReadsTarget taken a b t1 r) (sym (cell_by stack inner name spot sort t0 found sorted)) h

pub queue_by : (stack : List LayerTree) (inner : Inner) (name : List (List ℕ)) (spot : Spot) (sort : Option Sort)
    (t0 t1 : List ℕ) →
    a_name t0 ≡ Some (name, t1) → Some (pair_of spot) ≡ cell_named stack name →
    sort ≡ option_map sort_of (form_at (layer_of stack spot.place) spot.cell) →
    queue_with stack inner t0 ≡ queue_by_sort inner spot.place spot.cell sort t1
queue_by stack inner name spot sort t0 t1 named found sorted =
    ap (option_and_then (λ taken. (option_reader (cell_named stack taken.0)
    >>= λ cell. index_of_queue inner cell.0 cell.1 (form_at (layer_of stack cell.0) cell.1)) taken.1)) named
    ∙ ap (λ o. (option_reader o >>= λ cell. index_of_queue inner cell.0 cell.1 (form_at (layer_of stack cell.0) cell.1))
    t1)
    (sym found)
    ∙ ap (λ read. read t1) (queue_is_by inner spot.place spot.cell (form_at (layer_of stack spot.place) spot.cell)
    ∙ ap (queue_by_sort inner spot.place spot.cell) (sym sorted))

pub no_queue_by : (stack : List LayerTree) (inner : Inner) (name : List (List ℕ)) (t0 t1 : List ℕ) →
    a_name t0 ≡ Some (name, t1) →
    None ≡ cell_named stack name → queue_with stack inner t0 ≡ None
no_queue_by stack inner name t0 t1 named none =
    ap (option_and_then (λ taken. (option_reader (cell_named stack taken.0)
    >>= λ cell. index_of_queue inner cell.0 cell.1 (form_at (layer_of stack cell.0) cell.1)) taken.1)) named
    ∙ ap (λ o. (option_reader o >>= λ cell. index_of_queue inner cell.0 cell.1 (form_at (layer_of stack cell.0) cell.1))
    t1)
    (sym none)

-- nodes of cells
pub element_read : (taken : Option (TraceNumber × List ℕ)) (spot : Spot) (t : List ℕ) (a b c : List Node) (i k : ℕ) →
    TargetRead taken a b t (targets.Element spot i) →
    Made b c k (term_of (terms b) (nodes.Element spot.place spot.cell i)) → NumberRead taken a c t k
element_read taken spot t a b c i k h made = number_read _ _ _ _ _ _ h.is (element_made h.made made)

pub square_read : (taken : Option (TraceNumber × List ℕ)) (spot : Spot) (t : List ℕ) (a b c : List Node) (i j k : ℕ) →
    TargetRead taken a b t (targets.Square spot i j) →
    Made b c k (term_of (terms b) (nodes.Square spot.place spot.cell i j)) → NumberRead taken a c t k
square_read taken spot t a b c i j k h made = number_read _ _ _ _ _ _ h.is square_both
  where
    square_both : Made a c k (a_number (square spot.place spot.cell (number_in (terms b) i) (number_in (terms b) j)))
    square_both = following h.made.1 made

-- a cell without an index has the index 0
pub one_read : (inner : Inner) (spot : Spot) (t : List ℕ) (a b : List Node) (i : ℕ) →
    Made a b i (term_of (terms a) (nodes.Atom (atoms.Number 0))) →
    TargetRead (number_by_sort inner spot.place spot.cell (Some sorts.Number) t) a b t (targets.Element spot i)
one_read inner spot t a b i made = record {
  is = ap (λ x. Some (element spot.place spot.cell x, t)) (sym (is_number made));
  made = made_as made (ap a_number (sym (is_number made)));
}

pub array_read : (inner : Inner) (spot : Spot) (t0 t1 : List ℕ) (a b : List Node) (i : ℕ) →
    NumberRead (an_index inner t0) a b t1 i →
    TargetRead (number_by_sort inner spot.place spot.cell (Some sorts.Array) t0) a b t1 (targets.Element spot i)
array_read inner spot t0 t1 a b i h = record { is = (onto _ h.is refl); made = h.made }

pub both_read : (inner : Inner) (spot : Spot) (sort : Option Sort) (t0 t1 t2 : List ℕ) (a b c : List Node) (i j : ℕ) →
    sort ≡ Some sorts.Square →
    NumberRead (an_index inner t0) a b t1 i → NumberRead (an_index inner t1) b c t2 j →
    TargetRead (number_by_sort inner spot.place spot.cell sort t0) a c t2 (targets.Square spot i j)
both_read inner spot sort t0 t1 t2 a b c i j e m n = record {
  is = ap (λ o. number_by_sort inner spot.place spot.cell o t0) e ∙ (onto _ m.is (onto _ n.is refl))
      ∙ ap (λ x. Some (square spot.place spot.cell x (number_in (terms c) j), t2)) (sym same);
  made = (made_as (stays m.made n.made) (ap a_number (sym same)), following m.made n.made);
}
  where
    same : number_in (terms c) i ≡ number_in (terms b) i
    same = is_number (stays m.made n.made)

pub alone_read : (inner : Inner) (spot : Spot) (t : List ℕ) (a b : List Node) (i : ℕ) →
    Made a b i (term_of (terms a) (nodes.Atom (atoms.Number 0))) →
    QueueRead (queue_by_sort inner spot.place spot.cell (Some sorts.Queue) t) a b t (record { spot = spot; index = i })
alone_read inner spot t a b i made = record {
  is = ap (λ x. Some ((record { place = spot.place; cell = spot.cell; index = x }), t)) (sym (is_number made));
  made = made_as made (ap a_number (sym (is_number made)));
}

pub many_read : (inner : Inner) (spot : Spot) (t0 t1 : List ℕ) (a b : List Node) (i : ℕ) →
    NumberRead (an_index inner t0) a b t1 i →
    QueueRead (queue_by_sort inner spot.place spot.cell (Some sorts.Queues) t0) a b t1
    (record { spot = spot; index = i })
many_read inner spot t0 t1 a b i h = record { is = (onto _ h.is refl); made = h.made }
