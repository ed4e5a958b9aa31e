-- What a line says names only what may be named: what holds of all names that lines spell holds of each name in it.
use Rattle.std.proofs.Common.{◌≡◌, ℕ, zero, suc, ◌<◌, List, [], ◌∷◌, length, Option, Some, None, option_map, codes}
use Rattle.std.proofs.Common.{bytes_eq, refl}
use Rattle.std.specs.Prelude.{take}
use Rattle.std.proofs.lemmas.List.Quantifiers.{position-Some}
use Rattle.layer_words.specs.declared.operators.Function.{Function}
use Rattle.layer_words.specs.declared.sorts.Shape.TheVariants.{One, Array, Square}
use Rattle.layer_mean.specs.Tree.{Carried, Form, LayerTree, numbers, queue, queues}
use Rattle.trace_mean.specs.Trace.{Atom, number, Core, TraceNumber, atom, me, count, ltime, item, binary, TraceMessage}
use Rattle.trace_mean.specs.Trace.{held}
use Rattle.trace_mean.specs.Fuse.{form_at}
use Rattle.trace_form_laws.specs.Names.{Name, a_number, a_message, a_cell, a_square, a_queue, an_item, NumberNames}
use Rattle.trace_form_laws.specs.Names.{MessageNames}
use Rattle.bypass_mean.specs.Text.{layer_of}
use Rattle.pack_mean.specs.Reader.{◌>>=◌, yields, the_text, a_name}
use Rattle.pack_mean.specs.Named.{Named, items_at, place_of, atom_named, core_named, cell_named, function_named}
use Rattle.pack_mean.specs.Named.{operator_named}
use Rattle.pack_mean.specs.Expression as expression
use Rattle.pack_mean.specs.Expression.{QueueNamed, Inner, an_index, number_of_cell, index_of_queue}
use Rattle.pack_mean.specs.Expression.{queue_with, a_length, item_named, a_size, a_choice, an_application, an_operation}
use Rattle.pack_mean.specs.Expression.{begun_by, number_named, number_with, held_in, a_held, a_cut, a_tail, a_join}
use Rattle.pack_mean.specs.Expression.{built_by, message_named, message_with, inside}
use Rattle.pack_laws.proofs.Readers.{some_same, Gives, gives_value, gives_given, gives_nowhere, gives_then, gives_past}
use Rattle.pack_laws.proofs.Readers.{gives_name, gives_word, gives_known, gives_text, gives_case, gives_either}

-- what a name of a cell may be used for, by the cell's form
abbrev pub FormNames : List LayerTree → (Name → Type 0) → ℕ → ℕ → Option Form → Type 0
FormNames stack So p c (Some (numbers One initial)) = So (a_cell p c (atom (number 0)))
FormNames stack So p c (Some (numbers Array initial)) = (e : TraceNumber) → So (a_cell p c e)
FormNames stack So p c (Some (numbers Square initial)) = So (a_square p c)
FormNames stack So p c (Some (queue capacity items)) =
    So (a_queue p c (atom (number 0))) ×
    ((k : ℕ) → k < length (items_at stack p c).numbers → So (an_item p c (atom (number 0)) k))
FormNames stack So p c (Some (queues capacity items)) =
    (e : TraceNumber) → So (a_queue p c e) × ((k : ℕ) → k < length (items_at stack p c).numbers → So (an_item p c e k))
FormNames stack So p c None = Unit {0}

-- `So` holds of the names that lines spell
pub record Spelled (stack : List LayerTree) (s : Named) (So : Name → Type 0) : Type 0 where
  pub zero_is : So (a_number (number 0))
  pub atom_is : (name : List (List ℕ)) (a : Atom) → atom_named s name ≡ Some a → So (a_number a)
  pub core_is : (name : List (List ℕ)) (c : Core) → core_named s name ≡ Some c → So (a_message c)
  pub cell_is : (name : List (List ℕ)) (cell : ℕ × ℕ) → cell_named stack name ≡ Some cell →
      FormNames stack So cell.0 cell.1 (form_at (layer_of stack cell.0) cell.1)

pub some_mapped : {A B : Type 0} (P : B → Type 0) (f : A → B) (o : Option A) → ((a : A) → o ≡ Some a → P (f a)) →
    (b : B) → option_map f o ≡ Some b → P b
some_mapped P f None h b is = absurd (cc is)
some_mapped P f (Some a) h b is = some_same P is (h a refl)

pub place_below : (name : List ℕ) (names : List (List ℕ)) (k : ℕ) → place_of name names ≡ Some k → k < length names
place_below name names k is = (position-Some (bytes_eq name) names k [] is).0

module _ (stack : List LayerTree) (s : Named) (So : Name → Type 0) (spelled : Spelled stack s So) where
  -- a queue that was named, and what stands one bracket deeper
  pub record QueueSo (q : QueueNamed) : Type 0 where
    pub index : NumberNames So q.index
    pub queue : So (a_queue q.place q.cell q.index)
    pub items : (k : ℕ) → k < length (items_at stack q.place q.cell).numbers → So (an_item q.place q.cell q.index k)

  pub record InnerSo (inner : Inner) : Type 0 where
    pub number : Gives (NumberNames So) inner.number
    pub message : Gives (MessageNames So) inner.message
    pub queue : Gives QueueSo inner.queue

  module _ (inner : Inner) (deeper : InnerSo inner) where
    index_is : Gives (NumberNames So) (an_index inner)
    index_is = gives_past _ _ _
        (λ _. gives_then _ _ _ _ deeper.number (λ e e_is. gives_past _ _ _ (λ _. gives_value _ e e_is)))

    number_of_cell_is : (p c : ℕ) (form : Option Form) → FormNames stack So p c form →
        Gives (NumberNames So) (number_of_cell inner p c form)
    number_of_cell_is p c (Some (numbers One initial)) h = gives_value _ _ (h, spelled.zero_is)
    number_of_cell_is p c (Some (numbers Array initial)) h =
        gives_then _ _ _ _ index_is (λ e e_is. gives_value _ _ (h e, e_is))
    number_of_cell_is p c (Some (numbers Square initial)) h =
        gives_then _ _ _ _ index_is
        (λ row row_is. gives_then _ _ _ _ index_is (λ column column_is. gives_value _ _ (h, row_is, column_is)))
    number_of_cell_is p c (Some (queue capacity items)) h = gives_nowhere _
    number_of_cell_is p c (Some (queues capacity items)) h = gives_nowhere _
    number_of_cell_is p c None h = gives_nowhere _

    abbrev CellSo : ℕ × ℕ → Type 0
    CellSo cell = FormNames stack So cell.0 cell.1 (form_at (layer_of stack cell.0) cell.1)

    pub cell_is : (name : List (List ℕ)) → Gives (NumberNames So) (expression.a_cell stack inner name)
    cell_is name = gives_then CellSo _ _ _
        (gives_given CellSo (cell_named stack name) (λ cell is. spelled.cell_is name cell is))
        (λ cell h. number_of_cell_is cell.0 cell.1 (form_at (layer_of stack cell.0) cell.1) h)

    index_of_queue_is : (p c : ℕ) (form : Option Form) → FormNames stack So p c form →
        Gives QueueSo (index_of_queue inner p c form)
    index_of_queue_is p c (Some (queue capacity items)) h =
        gives_value _ _ record { index = spelled.zero_is; queue = h.0; items = h.1 }
    index_of_queue_is p c (Some (queues capacity items)) h =
        gives_then _ _ _ _ index_is
        (λ e e_is. gives_value _ _ record { index = e_is; queue = (h e).0; items = (h e).1 })
    index_of_queue_is p c (Some (numbers One initial)) h = gives_nowhere _
    index_of_queue_is p c (Some (numbers Array initial)) h = gives_nowhere _
    index_of_queue_is p c (Some (numbers Square initial)) h = gives_nowhere _
    index_of_queue_is p c None h = gives_nowhere _

    pub queue_is : Gives QueueSo (queue_with stack inner)
    queue_is = gives_name _ _ (λ name.
        gives_then CellSo _ _ _ (gives_given CellSo (cell_named stack name) (λ cell is. spelled.cell_is name cell is))
        (λ cell h. index_of_queue_is cell.0 cell.1 (form_at (layer_of stack cell.0) cell.1) h))

    length_is : Gives (NumberNames So) (a_length inner)
    length_is = gives_past _ _ _
        (λ _. gives_then _ _ _ _ deeper.queue
        (λ q q_is. gives_past _ _ _ (λ _. gives_value _ _ (q_is.queue, q_is.index))))

    item_named_is : (q : QueueNamed) → QueueSo q → (row : TraceNumber) → NumberNames So row →
        (name : List (List ℕ)) (e : TraceNumber) →
        item_named stack q row name ≡ Some e → NumberNames So e
    item_named_is q h row row_is [] e is = absurd (cc is)
    item_named_is q h row row_is (word ∷ []) e is =
        some_mapped (NumberNames So) (item q.place q.cell q.index row)
        (place_of word (items_at stack q.place q.cell).numbers)
        (λ k k_is. (h.items k (place_below word (items_at stack q.place q.cell).numbers k k_is), h.index, row_is)) e is
    item_named_is q h row row_is (word ∷ another ∷ more) e is = absurd (cc is)

    item_is : Gives (NumberNames So) (expression.an_item stack inner)
    item_is = gives_text _ (codes "(") _
        (λ _. gives_then QueueSo _ inner.queue _ deeper.queue (λ q q_is. gives_text _ (codes ",") _ (λ _.
        gives_then (NumberNames So) _ inner.number _ deeper.number
        (λ row row_is. gives_text _ (codes ").") _ (λ _. gives_name _ _ (λ name.
        gives_given (NumberNames So) (item_named stack q row name) (item_named_is q q_is row row_is name)))))))

    size_is : Gives (NumberNames So) (a_size inner)
    size_is = gives_past _ _ _
        (λ _. gives_then _ _ _ _ deeper.message (λ m m_is. gives_past _ _ _ (λ _. gives_value _ _ m_is)))

    choice_is : Gives (NumberNames So) (a_choice inner)
    choice_is = gives_past _ _ _ (λ _. gives_then _ _ _ _ deeper.number (λ a a_is. gives_past _ _ _ (λ _.
        gives_then _ _ _ _ deeper.number (λ b b_is. gives_past _ _ _ (λ _. gives_then _ _ _ _ deeper.number (λ c c_is.
        gives_past _ _ _ (λ _. gives_value _ _ (a_is, b_is, c_is))))))))

    application_is : (function : Function) → Gives (NumberNames So) (an_application inner function)
    application_is function =
        gives_past _ _ _ (λ _.
        gives_then _ _ _ _ deeper.number (λ a a_is. gives_past _ _ _ (λ _. gives_value _ _ a_is)))

    operation_is : Gives (NumberNames So) (expression.an_operation inner)
    operation_is = gives_then (NumberNames So) _ inner.number _ deeper.number
        (λ a a_is. gives_text _ (codes " ") _ (λ _. gives_word _ _ (λ word.
        gives_known _ (operator_named word) _ (λ operator. gives_text _ (codes " ") _ (λ _.
        gives_then (NumberNames So) _ inner.number (λ b. the_text (codes ")") >>= λ _. yields (binary operator a b))
        deeper.number (λ b b_is.
        gives_text _ (codes ")") (λ _. yields (binary operator a b))
        (λ _. gives_value (NumberNames So) (binary operator a b) (a_is, b_is))))))))

    begun_is : (name : List (List ℕ)) → Gives (NumberNames So) (begun_by stack inner name)
    begun_is [] = cell_is []
    begun_is (word ∷ another ∷ more) = cell_is (word ∷ another ∷ more)
    begun_is (word ∷ []) = gives_case (NumberNames So) word (codes "me") (yields me) _
        (gives_value (NumberNames So) me tt)
        (gives_case (NumberNames So) word (codes "n") (yields count) _ (gives_value (NumberNames So) count tt)
        (gives_case (NumberNames So) word (codes "ltime") (yields ltime) _ (gives_value (NumberNames So) ltime tt)
        (gives_case (NumberNames So) word (codes "len") (a_length inner) _ length_is
        (gives_case (NumberNames So) word (codes "at") (expression.an_item stack inner) _ item_is
        (gives_case (NumberNames So) word (codes "size") (a_size inner) _ size_is
        (gives_case (NumberNames So) word (codes "pick") (a_choice inner) _ choice_is
        (gives_known (NumberNames So) (function_named (word ∷ [])) (an_application inner) application_is)))))))

    number_named_is : (name : List (List ℕ)) (o : Option Atom) → ((a : Atom) → o ≡ Some a → So (a_number a)) →
        Gives (NumberNames So) (number_named stack s inner name o)
    number_named_is name (Some a) h = gives_value _ _ (h a refl)
    number_named_is name None h = begun_is name

    pub number_is : Gives (NumberNames So) (number_with stack s inner)
    number_is = gives_either _ (λ text. bytes_eq (take 1 text) (codes "("))
        (the_text (codes "(") >>= λ _. expression.an_operation inner)
        (a_name >>= λ name. number_named stack s inner name (atom_named s name))
        (gives_past _ _ _ (λ _. operation_is))
        (gives_name _ _ (λ name. number_named_is name (atom_named s name) (spelled.atom_is name)))

    held_named_is : (q : QueueNamed) → QueueSo q → (row : TraceNumber) → NumberNames So row →
        (message : Option (List ℕ × Carried))
        (m : TraceMessage) → held_in stack q row message ≡ Some m → MessageNames So m
    held_named_is q h row row_is message m is =
        some_mapped (MessageNames So) (λ c. held q.place q.cell q.index row c.1) message
        (λ c c_is. (h.queue, h.index, row_is)) m is

    held_is : Gives (MessageNames So) (a_held stack inner)
    held_is = gives_past _ _ _ (λ _. gives_then _ _ _ _ deeper.queue (λ q q_is. gives_past _ _ _ (λ _.
        gives_then _ _ _ _ deeper.number (λ row row_is. gives_past _ _ _ (λ _.
        gives_given _ _ (held_named_is q q_is row row_is (items_at stack q.place q.cell).message))))))

    cut_is : Gives (MessageNames So) (a_cut inner)
    cut_is = gives_past _ _ _ (λ _. gives_then _ _ _ _ deeper.message (λ m m_is. gives_past _ _ _ (λ _.
        gives_then _ _ _ _ deeper.number
        (λ from from_is. gives_past _ _ _ (λ _. gives_then _ _ _ _ deeper.number (λ n n_is.
        gives_past _ _ _ (λ _. gives_value _ _ (m_is, from_is, n_is))))))))

    tail_is : Gives (MessageNames So) (a_tail inner)
    tail_is = gives_past _ _ _ (λ _. gives_then _ _ _ _ deeper.message (λ m m_is. gives_past _ _ _ (λ _.
        gives_then _ _ _ _ deeper.number (λ from from_is. gives_past _ _ _ (λ _. gives_value _ _ (m_is, from_is))))))

    join_is : Gives (MessageNames So) (a_join inner)
    join_is = gives_past _ _ _ (λ _. gives_then _ _ _ _ deeper.message (λ a a_is. gives_past _ _ _ (λ _.
        gives_then _ _ _ _ deeper.message (λ b b_is. gives_past _ _ _ (λ _. gives_value _ _ (a_is, b_is))))))

    built_is : (name : List (List ℕ)) → Gives (MessageNames So) (built_by stack inner name)
    built_is [] = gives_nowhere _
    built_is (word ∷ another ∷ more) = gives_nowhere _
    built_is (word ∷ []) = gives_case (MessageNames So) word (codes "held") (a_held stack inner) _ held_is
        (gives_case (MessageNames So) word (codes "cut") (a_cut inner) _ cut_is
        (gives_case (MessageNames So) word (codes "tail") (a_tail inner) _ tail_is
        (gives_case (MessageNames So) word (codes "join") (a_join inner) _ join_is (gives_nowhere (MessageNames So)))))

    message_named_is : (name : List (List ℕ)) (o : Option Core) → ((c : Core) → o ≡ Some c → So (a_message c)) →
        Gives (MessageNames So) (message_named stack inner name o)
    message_named_is name (Some c) h = gives_value _ _ (h c refl)
    message_named_is name None h = built_is name

    pub message_is : Gives (MessageNames So) (message_with stack s inner)
    message_is = gives_name _ _ (λ name. message_named_is name (core_named s name) (spelled.core_is name))

  pub inside_is : (n : ℕ) → InnerSo (inside stack s n)
  inside_is zero = record { number = gives_nowhere _; message = gives_nowhere _; queue = gives_nowhere _ }
  inside_is (suc n) = record {
    number = number_is (inside stack s n) (inside_is n);
    message = message_is (inside stack s n) (inside_is n);
    queue = queue_is (inside stack s n) (inside_is n);
  }
