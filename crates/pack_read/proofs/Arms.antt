-- What each form of number and message takes.
use Rattle.std.proofs.Common.{◌≡◌, ℕ, List, [], ◌∷◌, Option, Some, None, option_map, codes, refl, sym, ap}
use Rattle.layer_words.specs.declared.operators.Function.{Function}
use Rattle.layer_words.specs.declared.operators.Operator.{Operator}
use Rattle.layer_mean.specs.Tree.{Carried, LayerTree}
use Rattle.pack_mean.specs.Reader.{◌>>=◌, yields, option_reader, the_text, a_name, a_word}
use Rattle.pack_mean.specs.Named.{items_at, operator_named}
use Rattle.pack_mean.specs.Expression.{Inner, QueueNamed, held_in, item_named}
use Rattle.pack_mean.specs.Expression.{a_choice, a_cut, a_held, a_join, a_length, a_size, a_tail, an_application}
use Rattle.pack_mean.specs.Expression.{an_index, an_item, an_operation}
use Rattle.trace_mean.specs.Trace.{TraceNumber, binary, item, held}
use Rattle.trace_core.specs.declared.node.Node.{Node}
use Rattle.trace_core.specs.declared.node.Node.TheVariants as nodes
use Rattle.trace_core.specs.declared.load.Load.{Load}
use Rattle.trace_core.specs.View.{load_tree, number_in, term_of, terms}
use Rattle.trace_core.specs.Arena.{Made}
use Rattle.trace_core.proofs.Makes.{rows_made, item_made, size_made, pick_made, apply_made, binary_made, held_made}
use Rattle.trace_core.proofs.Makes.{cut_made, tail_made, join_made}
use Rattle.pack_words.specs.View.{item_in}
use Rattle.pack_read.specs.declared.queued.PackedQueue.{PackedQueue}
use Rattle.pack_read.specs.Expressions.{queue_in, MessageRead, NumberRead, QueueRead}
use Rattle.pack_read.proofs.Took.{onto, number_read, message_read}

-- A text begins with a wanted one, and this is what stands after it.
abbrev Text : List ℕ → List ℕ → List ℕ → Type 0
Text wanted text rest = the_text wanted text ≡ Some (tt, rest)

pub index_read : (inner : Inner) (t0 t1 t2 t3 : List ℕ) (a b : List Node) (k : ℕ) → Text (codes "[") t0 t1 →
    NumberRead (inner.number t1) a b t2 k → Text (codes "]") t2 t3 → NumberRead (an_index inner t0) a b t3 k
index_read inner t0 t1 t2 t3 a b k opened n close = record {
  is = (onto _ opened (onto _ n.is (onto _ close refl)));
  made = n.made;
}

pub length_read : (inner : Inner) (t0 t1 t2 t3 : List ℕ) (a b c : List Node) (q : PackedQueue) (k : ℕ) →
    Text (codes "(") t0 t1 →
    QueueRead (inner.queue t1) a b t2 q → Text (codes ")") t2 t3 →
    Made b c k (term_of (terms b) (nodes.Rows q.spot.place q.spot.cell q.index)) →
    NumberRead (a_length inner t0) a c t3 k
length_read inner t0 t1 t2 t3 a b c q k opened q_read close made = number_read _ _ _ _ _ _
    (onto _ opened (onto _ q_read.is (onto _ close refl)))
    (rows_made q_read.made made)

pub size_read : (inner : Inner) (t0 t1 t2 t3 : List ℕ) (a b c : List Node) (i k : ℕ) → Text (codes "(") t0 t1 →
    MessageRead (inner.message t1) a b t2 i → Text (codes ")") t2 t3 →
    Made b c k (term_of (terms b) (nodes.Size i)) → NumberRead (a_size inner t0) a c t3 k
size_read inner t0 t1 t2 t3 a b c i k opened m close made = number_read _ _ _ _ _ _
    (onto _ opened (onto _ m.is (onto _ close refl)))
    (size_made m.made made)

-- the number of a row that a name is
item_is : (stack : List LayerTree) (q : QueueNamed) (row : TraceNumber) (name : List (List ℕ)) (k : ℕ) →
    Some k ≡ item_in (items_at stack q.place q.cell) name → item_named stack q row name ≡
    Some (item q.place q.cell q.index row k)
item_is stack q row [] k e = absurd (cc e)
item_is stack q row (word ∷ []) k e = ap (option_map (item q.place q.cell q.index row)) (sym e)
item_is stack q row (word ∷ another ∷ more) k e = absurd (cc e)

pub no_item : (stack : List LayerTree) (q : QueueNamed) (row : TraceNumber) (name : List (List ℕ)) →
    None ≡ item_in (items_at stack q.place q.cell) name → item_named stack q row name ≡ None
no_item stack q row [] e = refl
no_item stack q row (word ∷ []) e = ap (option_map (item q.place q.cell q.index row)) (sym e)
no_item stack q row (word ∷ another ∷ more) e = refl

pub item_read : (stack : List LayerTree) (inner : Inner) (t0 t1 t2 t3 t4 t5 t6 : List ℕ) (a b c d : List Node)
    (q : PackedQueue) (row f k : ℕ)
    (name : List (List ℕ)) →
    Text (codes "(") t0 t1 → QueueRead (inner.queue t1) a b t2 q → Text (codes ",") t2 t3 →
    NumberRead (inner.number t3) b c t4 row →
    Text (codes ").") t4 t5 → a_name t5 ≡ Some (name, t6) →
    Some f ≡ item_in (items_at stack q.spot.place q.spot.cell) name →
    Made c d k (term_of (terms c) (nodes.Item q.spot.place q.spot.cell q.index row f)) →
    NumberRead (an_item stack inner t0) a d t6 k
item_read stack inner t0 t1 t2 t3 t4 t5 t6 a b c d q row f k name opened q_read comma r close named found made =
    number_read _ _ _ _ _ _
    (onto _ opened (onto _ q_read.is (onto _ comma (onto _ r.is
    (onto _ close (onto (λ x. option_reader (item_named stack (queue_in (terms b) q) (number_in (terms c) row) x.0) x.1)
    named
    (ap (option_map (λ v. (v, t6))) (item_is stack (queue_in (terms b) q) (number_in (terms c) row) name f found))))))))
    (item_made q_read.made r.made made)

pub choice_read : (inner : Inner) (t0 t1 t2 t3 t4 t5 t6 t7 : List ℕ) (a b c d e : List Node) (i j l k : ℕ) →
    Text (codes "(") t0 t1 →
    NumberRead (inner.number t1) a b t2 i → Text (codes ",") t2 t3 → NumberRead (inner.number t3) b c t4 j →
    Text (codes ",") t4 t5 →
    NumberRead (inner.number t5) c d t6 l → Text (codes ")") t6 t7 →
    Made d e k (term_of (terms d) (nodes.Pick i j l)) → NumberRead (a_choice inner t0) a e t7 k
choice_read inner t0 t1 t2 t3 t4 t5 t6 t7 a b c d e i j l k opened m comma n again o close made =
    number_read _ _ _ _ _ _
    (onto _ opened (onto _ m.is (onto _ comma (onto _ n.is
    (onto _ again (onto _ o.is (onto _ close refl)))))))
    (pick_made m.made n.made o.made made)

pub application_read : (inner : Inner) (function : Function) (t0 t1 t2 t3 : List ℕ) (a b c : List Node) (i k : ℕ) →
    Text (codes "(") t0 t1 →
    NumberRead (inner.number t1) a b t2 i → Text (codes ")") t2 t3 →
    Made b c k (term_of (terms b) (nodes.Apply function i)) → NumberRead (an_application inner function t0) a c t3 k
application_read inner function t0 t1 t2 t3 a b c i k opened m close made = number_read _ _ _ _ _ _
    (onto _ opened (onto _ m.is (onto _ close refl)))
    (apply_made m.made made)

-- what follows an operator's word
abbrev after_word : Inner → TraceNumber → List ℕ × List ℕ → Option (TraceNumber × List ℕ)
after_word inner first x =
    (option_reader (operator_named x.0) >>= λ operator. the_text (codes " ") >>= λ _. inner.number >>= λ second.
    the_text (codes ")") >>= λ _. yields (binary operator first second)) x.1

pub operation_read : (inner : Inner) (o : Operator) (t0 t1 t2 t3 t4 t5 t6 : List ℕ) (word : List ℕ)
    (a b c d : List Node) (i j k : ℕ) →
    NumberRead (inner.number t0) a b t1 i → Text (codes " ") t1 t2 → a_word t2 ≡ Some (word, t3) →
    Some o ≡ operator_named word →
    Text (codes " ") t3 t4 → NumberRead (inner.number t4) b c t5 j → Text (codes ")") t5 t6 →
    Made c d k (term_of (terms c) (nodes.Binary o i j)) → NumberRead (an_operation inner t0) a d t6 k
operation_read inner o t0 t1 t2 t3 t4 t5 t6 word a b c d i j k m space worded found again n close made =
    number_read _ _ _ _ _ _
    (onto _ m.is (onto _ space
    (onto (after_word inner (number_in (terms b) i)) worded (onto _ (ap (option_map (λ v. (v, t3))) (sym found))
    (onto _ again (onto _ n.is (onto _ close refl)))))))
    (binary_made m.made n.made made)

-- the message of a row of a queue
held_is : (stack : List LayerTree) (q : QueueNamed) (row : TraceNumber) (load : Load) →
    Some (load_tree load) ≡ option_map (λ m. m.1) (items_at stack q.place q.cell).message →
    held_in stack q row (items_at stack q.place q.cell).message ≡
    Some (held q.place q.cell q.index row (load_tree load))
held_is stack q row load = go (items_at stack q.place q.cell).message where
  go : (message : Option (List ℕ × Carried)) → Some (load_tree load) ≡ option_map (λ m. m.1) message →
      held_in stack q row message ≡ Some (held q.place q.cell q.index row (load_tree load))
  go None e = absurd (cc e)
  go (Some m) e = ap (option_map (held q.place q.cell q.index row)) (sym e)

pub not_held : (stack : List LayerTree) (q : QueueNamed) (row : TraceNumber) →
    None ≡ option_map (λ m. m.1) (items_at stack q.place q.cell).message →
    held_in stack q row (items_at stack q.place q.cell).message ≡ None
not_held stack q row = go (items_at stack q.place q.cell).message where
  go : (message : Option (List ℕ × Carried)) → None ≡ option_map (λ m. m.1) message → held_in stack q row message ≡ None
  go None e = refl
  go (Some m) e = absurd (cc e)

pub held_read : (stack : List LayerTree) (inner : Inner) (t0 t1 t2 t3 t4 t5 : List ℕ) (a b c d : List Node)
    (q : PackedQueue) (row k : ℕ) (load : Load) →
    Text (codes "(") t0 t1 → QueueRead (inner.queue t1) a b t2 q → Text (codes ",") t2 t3 →
    NumberRead (inner.number t3) b c t4 row →
    Text (codes ")") t4 t5 →
    Some (load_tree load) ≡ option_map (λ m. m.1) (items_at stack q.spot.place q.spot.cell).message →
    Made c d k (term_of (terms c) (nodes.Held q.spot.place q.spot.cell q.index row load)) →
    MessageRead (a_held stack inner t0) a d t5 k
held_read stack inner t0 t1 t2 t3 t4 t5 a b c d q row k load opened q_read comma r close found made =
    message_read _ _ _ _ _ _
    (onto _ opened (onto _ q_read.is (onto _ comma (onto _ r.is
    (onto _ close (ap (option_map (λ v. (v, t5)))
    (held_is stack (queue_in (terms b) q) (number_in (terms c) row) load found)))))))
    (held_made load q_read.made r.made made)

pub cut_read : (inner : Inner) (t0 t1 t2 t3 t4 t5 t6 t7 : List ℕ) (a b c d e : List Node) (i j l k : ℕ) →
    Text (codes "(") t0 t1 →
    MessageRead (inner.message t1) a b t2 i → Text (codes ",") t2 t3 → NumberRead (inner.number t3) b c t4 j →
    Text (codes ",") t4 t5 →
    NumberRead (inner.number t5) c d t6 l → Text (codes ")") t6 t7 →
    Made d e k (term_of (terms d) (nodes.Cut i j l)) → MessageRead (a_cut inner t0) a e t7 k
cut_read inner t0 t1 t2 t3 t4 t5 t6 t7 a b c d e i j l k opened m comma n again o close made = message_read _ _ _ _ _ _
    (onto _ opened (onto _ m.is (onto _ comma (onto _ n.is
    (onto _ again (onto _ o.is (onto _ close refl)))))))
    (cut_made m.made n.made o.made made)

pub tail_read : (inner : Inner) (t0 t1 t2 t3 t4 t5 : List ℕ) (a b c d : List Node) (i j k : ℕ) →
    Text (codes "(") t0 t1 →
    MessageRead (inner.message t1) a b t2 i → Text (codes ",") t2 t3 → NumberRead (inner.number t3) b c t4 j →
    Text (codes ")") t4 t5 →
    Made c d k (term_of (terms c) (nodes.Tail i j)) → MessageRead (a_tail inner t0) a d t5 k
tail_read inner t0 t1 t2 t3 t4 t5 a b c d i j k opened m comma n close made = message_read _ _ _ _ _ _
    (onto _ opened (onto _ m.is (onto _ comma (onto _ n.is
    (onto _ close refl)))))
    (tail_made m.made n.made made)

pub join_read : (inner : Inner) (t0 t1 t2 t3 t4 t5 : List ℕ) (a b c d : List Node) (i j k : ℕ) →
    Text (codes "(") t0 t1 →
    MessageRead (inner.message t1) a b t2 i → Text (codes ",") t2 t3 → MessageRead (inner.message t3) b c t4 j →
    Text (codes ")") t4 t5 →
    Made c d k (term_of (terms c) (nodes.Join i j)) → MessageRead (a_join inner t0) a d t5 k
join_read inner t0 t1 t2 t3 t4 t5 a b c d i j k opened m comma n close made = message_read _ _ _ _ _ _
    (onto _ opened (onto _ m.is (onto _ comma (onto _ n.is
    (onto _ close refl)))))
    (join_made m.made n.made made)
