-- An operation's line is written as it was read.
use Rattle.std.proofs.Common.{◌≡◌, ℕ, zero, suc, List, [], ◌∷◌, ◌++◌, slice_index_or, Option, Some, None, codes}
use Rattle.std.proofs.Common.{bytes_eq, refl, sym, ap, ◌∙◌, subst, append_assoc}
use Rattle.std.specs.Prelude.{take}
use Rattle.layer_words.specs.declared.operators.Function.{Function}
use Rattle.layer_words.specs.declared.sorts.Shape.TheVariants.{One, Array, Square}
use Rattle.layer_mean.specs.Tree.{Carried, Form, LayerTree, numbers, queue, queues}
use Rattle.trace_mean.specs.Trace.{Atom, number, Core, TraceNumber, atom, item, binary, TraceMessage, held}
use Rattle.trace_mean.specs.Fuse.{form_at}
use Rattle.bypass_mean.specs.Text.{layer_of, bracketed_index, bracketed_list, with_index, cell_name, cell_text}
use Rattle.bypass_mean.specs.Text.{number_text}
use Rattle.bypass_mean.specs.Text.{message_text}
use Rattle.layer_words.specs.Spelling.{sign_text}
use Rattle.layer_words.specs.Signs.{function_sign}
use Rattle.pack_mean.specs.Reader.{◌>>=◌, the_text, a_name}
use Rattle.pack_mean.specs.Named.{Named, items_at, place_of, atom_named, core_named, cell_named, function_named}
use Rattle.pack_mean.specs.Named.{operator_named}
use Rattle.pack_mean.specs.Expression as expression
use Rattle.pack_mean.specs.Expression.{QueueNamed, Inner, an_index, number_of_cell, index_of_queue, queue_with}
use Rattle.pack_mean.specs.Expression.{a_length, item_named, a_size, a_choice, an_application, begun_by, number_named}
use Rattle.pack_mean.specs.Expression.{number_with, held_in, a_held, a_cut, a_tail, a_join, built_by, message_named}
use Rattle.pack_mean.specs.Expression.{message_with, inside}
use Rattle.pack_laws.specs.Written.{written_with}
use Rattle.pack_laws.proofs.Form.{some_mapped}
use Rattle.pack_laws.proofs.Writing.{Writes, writes_value, writes_given, writes_nowhere, writes_then, writes_known}
use Rattle.pack_laws.proofs.Writing.{writes_text, name_text, writes_name, writes_word, writes_case, writes_either}
use Rattle.pack_laws.proofs.Writing.{one_listed, two_listed, three_listed}
use Rattle.pack_laws.proofs.Words.{place_written, function_written, operator_written, cell_written, called}
use Rattle.pack_laws.proofs.Words.{atom_written, core_written}

module _ (stack : List LayerTree) (before : List (List ℕ)) (s : Named) where
  abbrev NumberText : TraceNumber → List ℕ
  NumberText e = number_text stack (written_with before s) e

  abbrev MessageText : TraceMessage → List ℕ
  MessageText m = message_text stack (written_with before s) m

  abbrev pub QueueText : QueueNamed → List ℕ
  QueueText q = cell_text stack q.place q.cell (NumberText q.index)

  pub record InnerWrites (inner : Inner) : Type 0 where
    pub number : Writes [] NumberText inner.number
    pub message : Writes [] MessageText inner.message
    pub queue : Writes [] QueueText inner.queue

  module _ (inner : Inner) (deeper : InnerWrites inner) where
    index_is : Writes [] (λ e. bracketed_index (NumberText e)) (an_index inner)
    index_is = writes_text (codes "[") [] _ _ (λ u. writes_then NumberText _ _ _ _ deeper.number (λ e.
        writes_text (codes "]") _ _ _ (λ v. writes_value _ _ e refl)))

    number_of_cell_is : (p c : ℕ) (form : Option Form) → form_at (layer_of stack p) c ≡ form →
        Writes (cell_name stack p c) NumberText (number_of_cell inner p c form)
    number_of_cell_is p c (Some (numbers One initial)) is =
        writes_value _ _ _ (sym (ap (λ f. with_index f (cell_name stack p c) (NumberText (atom (number 0)))) is))
    number_of_cell_is p c (Some (numbers Array initial)) is = writes_then (λ e. bracketed_index (NumberText e)) _ _ _ _
        index_is
        (λ e.
        writes_value _ _ _ (sym (ap (λ f. with_index f (cell_name stack p c) (NumberText e)) is)))
    number_of_cell_is p c (Some (numbers Square initial)) is =
        writes_then (λ e. bracketed_index (NumberText e)) _ _ _ _ index_is (λ row.
        writes_then (λ e. bracketed_index (NumberText e)) _ _ _ _ index_is (λ column. writes_value _ _ _ refl))
    number_of_cell_is p c (Some (queue capacity items)) is = writes_nowhere _ _
    number_of_cell_is p c (Some (queues capacity items)) is = writes_nowhere _ _
    number_of_cell_is p c None is = writes_nowhere _ _

    pub cell_is : (name : List (List ℕ)) → Writes (name_text name) NumberText (expression.a_cell stack inner name)
    cell_is name = writes_known _ _ (cell_named stack name) _ (λ cell is. subst (λ f. Writes f NumberText
        (number_of_cell inner cell.0 cell.1 (form_at (layer_of stack cell.0) cell.1)))
        (sym (cell_written stack name cell is))
        (number_of_cell_is cell.0 cell.1 (form_at (layer_of stack cell.0) cell.1) refl))

    index_of_queue_is : (p c : ℕ) (form : Option Form) → form_at (layer_of stack p) c ≡ form →
        Writes (cell_name stack p c) QueueText (index_of_queue inner p c form)
    index_of_queue_is p c (Some (queue capacity items)) is =
        writes_value _ _ _ (sym (ap (λ f. with_index f (cell_name stack p c) (NumberText (atom (number 0)))) is))
    index_of_queue_is p c (Some (queues capacity items)) is = writes_then (λ e. bracketed_index (NumberText e)) _ _ _ _
        index_is
        (λ e.
        writes_value _ _ _ (sym (ap (λ f. with_index f (cell_name stack p c) (NumberText e)) is)))
    index_of_queue_is p c (Some (numbers One initial)) is = writes_nowhere _ _
    index_of_queue_is p c (Some (numbers Array initial)) is = writes_nowhere _ _
    index_of_queue_is p c (Some (numbers Square initial)) is = writes_nowhere _ _
    index_of_queue_is p c None is = writes_nowhere _ _

    pub queue_is : Writes [] QueueText (queue_with stack inner)
    queue_is = writes_name [] _ _
        (λ name. writes_known _ _ (cell_named stack name) _ (λ cell is. subst (λ f. Writes f QueueText
        (index_of_queue inner cell.0 cell.1 (form_at (layer_of stack cell.0) cell.1)))
        (sym (cell_written stack name cell is))
        (index_of_queue_is cell.0 cell.1 (form_at (layer_of stack cell.0) cell.1) refl)))

    length_is : Writes (codes "len") NumberText (a_length inner)
    length_is = writes_text (codes "(") _ _ _
        (λ u. writes_then QueueText _ _ _ _ deeper.queue (λ q. writes_text (codes ")") _ _ _ (λ v.
        writes_value _ _ _ (one_listed (codes "len") (QueueText q)))))

    item_named_is : (q : QueueNamed) (row : TraceNumber) (name : List (List ℕ)) (e : TraceNumber) →
        item_named stack q row name ≡ Some e →
        codes "at" ++ bracketed_list (QueueText q ∷ NumberText row ∷ []) ++ codes "." ++ name_text name ≡ NumberText e
    item_named_is q row [] e is = absurd (cc is)
    item_named_is q row (word ∷ another ∷ more) e is = absurd (cc is)
    item_named_is q row (word ∷ []) e is = some_mapped
        (λ x. codes "at" ++ bracketed_list (QueueText q ∷ NumberText row ∷ []) ++ codes "." ++ word ≡ NumberText x)
        (item q.place q.cell q.index row) (place_of word (items_at stack q.place q.cell).numbers) (λ k k_is.
        ap (λ x. codes "at" ++ bracketed_list (QueueText q ∷ NumberText row ∷ []) ++ codes "." ++ x)
        (place_written word (items_at stack q.place q.cell).numbers k k_is ∙
        ap (λ names. slice_index_or names k []) (called (form_at (layer_of stack q.place) q.cell)))) e is

    item_is : Writes (codes "at") NumberText (expression.an_item stack inner)
    item_is = writes_text (codes "(") _ _ _
        (λ u. writes_then QueueText _ _ _ _ deeper.queue (λ q. writes_text (codes ",") _ _ _ (λ v.
        writes_then NumberText _ _ _ _ deeper.number
        (λ row. writes_text (codes ").") _ _ _ (λ w. writes_name _ _ _ (λ name.
        writes_given _ _ (item_named stack q row name) (λ e is.
        ap (λ l. l ++ name_text name) (sym (append_assoc
        (codes "at" ++ codes "(" ++ QueueText q ++ codes "," ++ NumberText row) (codes ")") (codes ".")) ∙
        ap (λ l. l ++ codes ".") (two_listed (codes "at") (QueueText q) (NumberText row))) ∙
        item_named_is q row name e is)))))))

    size_is : Writes (codes "size") NumberText (a_size inner)
    size_is = writes_text (codes "(") _ _ _
        (λ u. writes_then MessageText _ _ _ _ deeper.message (λ m. writes_text (codes ")") _ _ _ (λ v.
        writes_value _ _ _ (one_listed (codes "size") (MessageText m)))))

    choice_is : Writes (codes "pick") NumberText (a_choice inner)
    choice_is = writes_text (codes "(") _ _ _
        (λ u. writes_then NumberText _ _ _ _ deeper.number (λ a. writes_text (codes ",") _ _ _ (λ v.
        writes_then NumberText _ _ _ _ deeper.number (λ b. writes_text (codes ",") _ _ _ (λ w.
        writes_then NumberText _ _ _ _ deeper.number (λ c. writes_text (codes ")") _ _ _ (λ x.
        writes_value _ _ _ (three_listed (codes "pick") (NumberText a) (NumberText b) (NumberText c)))))))))

    application_is : (function : Function) →
        Writes (sign_text (function_sign function)) NumberText (an_application inner function)
    application_is function = writes_text (codes "(") _ _ _ (λ u. writes_then NumberText _ _ _ _ deeper.number (λ a.
        writes_text (codes ")") _ _ _
        (λ v. writes_value _ _ _ (one_listed (sign_text (function_sign function)) (NumberText a)))))

    operation_is : Writes (codes "(") NumberText (expression.an_operation inner)
    operation_is = writes_then NumberText (codes "(") NumberText inner.number _ deeper.number
        (λ a. writes_text (codes " ") _ _ _ (λ u.
        writes_word _ _ _ (λ word.
        writes_known _ _ (operator_named word) _ (λ operator is. writes_text (codes " ") _ _ _ (λ v.
        writes_then NumberText _ _ inner.number _ deeper.number
        (λ b. writes_text (codes ")") _ _ _ (λ w. writes_value _ NumberText (binary operator a b)
        (ap (λ l. codes "(" ++ NumberText a ++ codes " " ++ l ++ codes " " ++ NumberText b ++ codes ")")
        (operator_written word operator is)))))))))

    begun_is : (name : List (List ℕ)) → Writes (name_text name) NumberText (begun_by stack inner name)
    begun_is [] = cell_is []
    begun_is (word ∷ another ∷ more) = cell_is (word ∷ another ∷ more)
    begun_is (word ∷ []) = writes_case word (codes "me") _ _ _ (writes_value _ _ _ refl)
        (writes_case word (codes "n") _ _ _ (writes_value _ _ _ refl)
        (writes_case word (codes "ltime") _ _ _ (writes_value _ _ _ refl)
        (writes_case word (codes "len") _ _ _ length_is
        (writes_case word (codes "at") _ _ _ item_is (writes_case word (codes "size") _ _ _ size_is
        (writes_case word (codes "pick") _ _ _ choice_is
        (writes_known _ _ (function_named (word ∷ [])) _ (λ function is.
        subst (λ f. Writes f NumberText (an_application inner function)) (sym (function_written word function is))
        (application_is function)))))))))

    number_named_is : (name : List (List ℕ)) (o : Option Atom) → atom_named s name ≡ o →
        Writes (name_text name) NumberText (number_named stack s inner name o)
    number_named_is name (Some a) is = writes_value _ _ _ (atom_written before s name a is)
    number_named_is name None is = begun_is name

    pub number_is : Writes [] NumberText (number_with stack s inner)
    number_is = writes_either [] NumberText (λ text. bytes_eq (take 1 text) (codes "("))
        (the_text (codes "(") >>= λ _. expression.an_operation inner)
        (a_name >>= λ name. number_named stack s inner name (atom_named s name))
        (writes_text (codes "(") [] _ _ (λ u. operation_is))
        (writes_name [] _ _ (λ name. number_named_is name (atom_named s name) refl))

    held_named_is : (q : QueueNamed) (row : TraceNumber) (message : Option (List ℕ × Carried)) (m : TraceMessage) →
        held_in stack q row message ≡ Some m →
        codes "held" ++ bracketed_list (QueueText q ∷ NumberText row ∷ []) ≡ MessageText m
    held_named_is q row message m is =
        some_mapped (λ x. codes "held" ++ bracketed_list (QueueText q ∷ NumberText row ∷ []) ≡ MessageText x)
        (λ c. held q.place q.cell q.index row c.1) message (λ c c_is. refl) m is

    held_is : Writes (codes "held") MessageText (a_held stack inner)
    held_is = writes_text (codes "(") _ _ _
        (λ u. writes_then QueueText _ _ _ _ deeper.queue (λ q. writes_text (codes ",") _ _ _ (λ v.
        writes_then NumberText _ _ _ _ deeper.number (λ row. writes_text (codes ")") _ _ _ (λ w.
        writes_given _ _ (held_in stack q row (items_at stack q.place q.cell).message) (λ m is.
        two_listed (codes "held") (QueueText q) (NumberText row) ∙
        held_named_is q row (items_at stack q.place q.cell).message m is))))))

    cut_is : Writes (codes "cut") MessageText (a_cut inner)
    cut_is = writes_text (codes "(") _ _ _
        (λ u. writes_then MessageText _ _ _ _ deeper.message (λ a. writes_text (codes ",") _ _ _ (λ v.
        writes_then NumberText _ _ _ _ deeper.number (λ b. writes_text (codes ",") _ _ _ (λ w.
        writes_then NumberText _ _ _ _ deeper.number (λ c. writes_text (codes ")") _ _ _ (λ x.
        writes_value _ _ _ (three_listed (codes "cut") (MessageText a) (NumberText b) (NumberText c)))))))))

    tail_is : Writes (codes "tail") MessageText (a_tail inner)
    tail_is = writes_text (codes "(") _ _ _
        (λ u. writes_then MessageText _ _ _ _ deeper.message (λ a. writes_text (codes ",") _ _ _ (λ v.
        writes_then NumberText _ _ _ _ deeper.number (λ b. writes_text (codes ")") _ _ _ (λ w.
        writes_value _ _ _ (two_listed (codes "tail") (MessageText a) (NumberText b)))))))

    join_is : Writes (codes "join") MessageText (a_join inner)
    join_is = writes_text (codes "(") _ _ _
        (λ u. writes_then MessageText _ _ _ _ deeper.message (λ a. writes_text (codes ",") _ _ _ (λ v.
        writes_then MessageText _ _ _ _ deeper.message (λ b. writes_text (codes ")") _ _ _ (λ w.
        writes_value _ _ _ (two_listed (codes "join") (MessageText a) (MessageText b)))))))

    built_is : (name : List (List ℕ)) → Writes (name_text name) MessageText (built_by stack inner name)
    built_is [] = writes_nowhere _ _
    built_is (word ∷ another ∷ more) = writes_nowhere _ _
    built_is (word ∷ []) = writes_case word (codes "held") _ _ _ held_is (writes_case word (codes "cut") _ _ _ cut_is
        (writes_case word (codes "tail") _ _ _ tail_is
        (writes_case word (codes "join") _ _ _ join_is (writes_nowhere _ _))))

    message_named_is : (name : List (List ℕ)) (o : Option Core) → core_named s name ≡ o →
        Writes (name_text name) MessageText (message_named stack inner name o)
    message_named_is name (Some c) is = writes_value _ _ _ (core_written before s name c is)
    message_named_is name None is = built_is name

    pub message_is : Writes [] MessageText (message_with stack s inner)
    message_is = writes_name [] _ _ (λ name. message_named_is name (core_named s name) refl)

  pub inside_is : (n : ℕ) → InnerWrites (inside stack s n)
  inside_is zero = record { number = writes_nowhere _ _; message = writes_nowhere _ _; queue = writes_nowhere _ _ }
  inside_is (suc n) = record {
    number = number_is (inside stack s n) (inside_is n);
    message = message_is (inside stack s n) (inside_is n);
    queue = queue_is (inside stack s n) (inside_is n);
  }
