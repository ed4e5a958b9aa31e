-- The trees of layers as trees of numbers, one to one.
use Rattle.std.specs.Prelude.{◌≡◌, ◌⊎◌, ℕ, Bool, List, Option, Some, None, refl}
use Rattle.std.specs.Coded.{Coded, code_by, coded×, coded⊎, coded_list, coded_option, coded_ℕ, coded_bool}
use Rattle.std.proofs.Common.{sym, ap, subst, arith}
use mathlib.Core.Logic.{inl, inr}
use base.Stored.{Gv, gnil, gnum, gcons, coded_unit}
use Rattle.msg_core.specs.declared.message.Header.{Header}
use Rattle.layer_words.specs.declared.events.Dir.{Dir}
use Rattle.layer_words.specs.declared.events.Kind.{Kind}
use Rattle.layer_words.specs.declared.sorts.Shape.{Shape}
use Rattle.layer_words.specs.contracts.events.Dir as dir
use Rattle.layer_words.specs.contracts.events.Kind as kind
use Rattle.layer_words.specs.contracts.operators.Function as function
use Rattle.layer_words.specs.contracts.sorts.Likely as likely
use Rattle.layer_words.specs.contracts.operators.Operator as operator
use Rattle.layer_words.specs.contracts.sorts.Shape as shape
use Rattle.layer_mean.specs.Tree.{Carried, part, whole, ExpressionTree, number, me, count, ltime, local, element}
use Rattle.layer_mean.specs.Tree.{square, rows, item, size, binary, apply, pick, MessageTree, message, nothing, held}
use Rattle.layer_mean.specs.Tree.{cut, tail, join, ContentTree, EmissionTree, RowTree, TakenTree, StatementTree, bind}
use Rattle.layer_mean.specs.Tree.{assign, assign_square, push, take, branch, each, emit, StatementTrees, none, more}
use Rattle.layer_mean.specs.Tree.{Expected, always, common, rare, HandlerTree, ItemsTree, Form, numbers, queue, queues}
use Rattle.layer_mean.specs.Tree.{CellTree, HeaderTree, LayerTree}

-- A tree of numbers with a number at its root, and the parts of one.
abbrev node : ℕ → Gv → Gv
node n g = gcons (gnum n) g

abbrev value : Gv → ℕ
value (gnum n) = n
value gnil = 0
value (gcons a b) = 0

abbrev first : Gv → Gv
first (gcons a b) = a
first gnil = gnil
first (gnum n) = gnil

abbrev rest : Gv → Gv
rest (gcons a b) = b
rest gnil = gnil
rest (gnum n) = gnil

abbrev root : Gv → ℕ
root g = value (first g)

-- Headers, and what queues carry.
abbrev header_code : Coded Header
header_code = code_by (ℕ × (ℕ × List ℕ)) (coded× coded_ℕ (coded× coded_ℕ (coded_list coded_ℕ)))
    (λ h. (h.layer, (h.tag, h.fields))) (λ p. record { layer = p.0; tag = p.1.0; fields = p.1.1 }) (λ _. refl)

abbrev blanks_of : Carried → Option (List Header)
blanks_of part = None
blanks_of (whole blank) = Some blank

abbrev carried_by : Option (List Header) → Carried
carried_by None = part
carried_by (Some blank) = whole blank

-- What a queue carries is had back from the headers that it keeps for a missing row, if it keeps any.
pub carried_back : (c : Carried) → carried_by (blanks_of c) ≡ c
carried_back part = refl
carried_back (whole blank) = refl

abbrev carried_code : Coded Carried
carried_code = code_by (Option (List Header)) (coded_option (coded_list header_code)) blanks_of carried_by carried_back

-- Expressions and messages.
abbrev mutual
  -- The tree of numbers for an expression: at its root the number of the form, after it the parts.
  pub expression_at : ExpressionTree → Gv
  expression_at (number n) = node 0 (gnum n)
  expression_at me = node 1 gnil
  expression_at count = node 2 gnil
  expression_at ltime = node 3 gnil
  expression_at (local k) = node 4 (gnum k)
  expression_at (element c i) = node 5 (gcons (gnum c) (expression_at i))
  expression_at (square c row column) = node 6 (gcons (gnum c) (gcons (expression_at row) (expression_at column)))
  expression_at (rows c i) = node 7 (gcons (gnum c) (expression_at i))
  expression_at (item c i row k) =
      node 8 (gcons (gcons (gnum c) (gnum k)) (gcons (expression_at i) (expression_at row)))
  expression_at (size m) = node 9 (message_at m)
  expression_at (binary o a b) =
      node 10 (gcons (operator.the_row.coded.code o) (gcons (expression_at a) (expression_at b)))
  expression_at (apply f e) = node 11 (gcons (function.the_row.coded.code f) (expression_at e))
  expression_at (pick c a b) = node 12 (gcons (expression_at c) (gcons (expression_at a) (expression_at b)))

  -- The tree of numbers for a message expression: at its root the number of the form, after it the parts.
  pub message_at : MessageTree → Gv
  message_at (message k) = node 0 (gnum k)
  message_at nothing = node 1 gnil
  message_at (held c i row carried) =
      node 2 (gcons (gcons (gnum c) (carried_code.code carried)) (gcons (expression_at i) (expression_at row)))
  message_at (cut m from length) = node 3 (gcons (message_at m) (gcons (expression_at from) (expression_at length)))
  message_at (tail m from) = node 4 (gcons (message_at m) (expression_at from))
  message_at (join a b) = node 5 (gcons (message_at a) (message_at b))

mutual
  -- Two expressions with one tree of numbers are one expression.
  pub expression_one : (x y : ExpressionTree) → expression_at x ≡ expression_at y → x ≡ y
  expression_one (number m) (number n) p = ap (λ g. number (value (rest g))) p
  expression_one me me p = refl
  expression_one count count p = refl
  expression_one ltime ltime p = refl
  expression_one (local m) (local n) p = ap (λ g. local (value (rest g))) p
  expression_one (element c i) (element d j) p = λ k.
      element (value (first (rest (p k)))) (expression_one i j (ap (λ g. rest (rest g)) p) k)
  expression_one (square c a b) (square d u v) p = λ k.
      square (value (first (rest (p k)))) (expression_one a u (ap (λ g. first (rest (rest g))) p) k)
      (expression_one b v (ap (λ g. rest (rest
      (rest g))) p) k)
  expression_one (rows c i) (rows d j) p = λ k.
      rows (value (first (rest (p k)))) (expression_one i j (ap (λ g. rest (rest g)) p) k)
  expression_one (item c a b m) (item d u v n) p = λ k.
      item (value (first (first (rest (p k))))) (expression_one a u (ap (λ g. first (rest (rest g))) p) k)
      (expression_one b v (ap (λ g. rest (rest (rest g))) p) k) (value (rest (first (rest (p k)))))
  expression_one (size m) (size n) p = λ k. size (message_one m n (ap rest p) k)
  expression_one (binary o a b) (binary q u v) p = λ k.
      binary (operator.the_row.coded.inj o q (ap (λ g. first (rest g)) p) k)
      (expression_one a u (ap (λ g. first (rest (rest g))) p) k)
      (expression_one b v (ap (λ g. rest (rest (rest g))) p) k)
  expression_one (apply f e) (apply g d) p = λ k.
      apply (function.the_row.coded.inj f g (ap (λ g. first (rest g)) p) k)
      (expression_one e d (ap (λ g. rest (rest g)) p) k)
  expression_one (pick c a b) (pick d u v) p = λ k.
      pick (expression_one c d (ap (λ g. first (rest g)) p) k)
      (expression_one a u (ap (λ g. first (rest (rest g))) p) k)
      (expression_one b v (ap (λ g. rest (rest (rest g))) p) k)
  expression_one x y p = let apart = ap root p in absurd (omega arith)

  -- Two message expressions with one tree of numbers are one message expression.
  pub message_one : (x y : MessageTree) → message_at x ≡ message_at y → x ≡ y
  message_one (message m) (message n) p = ap (λ g. message (value (rest g))) p
  message_one nothing nothing p = refl
  message_one (held c a b m) (held d u v n) p = λ k.
      held (value (first (first (rest (p k))))) (expression_one a u (ap (λ g. first (rest (rest g))) p) k)
      (expression_one b v (ap (λ g. rest (rest (rest g))) p) k)
      (carried_code.inj m n (ap (λ g. rest (first (rest g))) p) k)
  message_one (cut m a b) (cut n u v) p = λ k.
      cut (message_one m n (ap (λ g. first (rest g)) p) k)
      (expression_one a u (ap (λ g. first (rest (rest g))) p) k)
      (expression_one b v (ap (λ g. rest (rest (rest g))) p) k)
  message_one (tail m a) (tail n u) p = λ k.
      tail (message_one m n (ap (λ g. first (rest g)) p) k) (expression_one a u (ap (λ g. rest (rest g)) p) k)
  message_one (join a b) (join u v) p = λ k.
      join (message_one a u (ap (λ g. first (rest g)) p) k) (message_one b v (ap (λ g. rest (rest g)) p) k)
  message_one x y p = let apart = ap root p in absurd (omega arith)

-- Expressions as trees of numbers, one to one.
abbrev pub expression_code : Coded ExpressionTree
expression_code = record { code = expression_at; inj = expression_one }

-- Message expressions as trees of numbers, one to one.
abbrev pub message_code : Coded MessageTree
message_code = record { code = message_at; inj = message_one }

-- What is sent, pushed and taken.
abbrev content_code : Coded ContentTree
content_code = code_by (MessageTree × (ℕ × List ExpressionTree))
    (coded× message_code (coded× coded_ℕ (coded_list expression_code)))
    (λ c. (c.message, (c.tag, c.fields))) (λ p. record { message = p.0; tag = p.1.0; fields = p.1.1 }) (λ _. refl)

abbrev emission_code : Coded EmissionTree
emission_code = code_by (Dir × (Kind × (List ExpressionTree × Option ContentTree)))
    (coded× dir.the_row.coded
    (coded× kind.the_row.coded (coded× (coded_list expression_code) (coded_option content_code))))
    (λ e. (e.direction, (e.kind, (e.numbers, e.content))))
    (λ p. record { direction = p.0; kind = p.1.0; numbers = p.1.1.0; content = p.1.1.1 }) (λ _. refl)

abbrev row_code : Coded RowTree
row_code = code_by (List ExpressionTree × Option MessageTree)
    (coded× (coded_list expression_code) (coded_option message_code))
    (λ r. (r.numbers, r.message)) (λ p. record { numbers = p.0; message = p.1 }) (λ _. refl)

abbrev taken_code : Coded TakenTree
taken_code = code_by (List ℕ × Option (ℕ × Carried))
    (coded× (coded_list coded_ℕ) (coded_option (coded× coded_ℕ carried_code)))
    (λ t. (t.numbers, t.message)) (λ p. record { numbers = p.0; message = p.1 }) (λ _. refl)

-- Statements and blocks.
abbrev mutual
  -- The tree of numbers for a statement: at its root the number of the form, after it the parts and the blocks.
  pub statement_at : StatementTree → Gv
  statement_at (bind k e) = node 0 (gcons (gnum k) (expression_at e))
  statement_at (assign c i e) = node 1 (gcons (gnum c) (gcons (expression_at i) (expression_at e)))
  statement_at (assign_square c row column e) =
      node 2 (gcons (gnum c) (gcons (expression_at row) (gcons (expression_at column) (expression_at e))))
  statement_at (push c i capacity row otherwise) =
      node 3 (gcons (gcons (gnum c) (gnum capacity))
      (gcons (expression_at i) (gcons (row_code.code row) (block_at otherwise))))
  statement_at (take c i taken block otherwise) =
      node 4 (gcons (gcons (gnum c) (expression_at i))
      (gcons (taken_code.code taken) (gcons (block_at block) (block_at otherwise))))
  statement_at (branch way condition block otherwise) =
      node 5 (gcons (likely.the_row.coded.code way)
      (gcons (expression_at condition) (gcons (block_at block) (block_at otherwise))))
  statement_at (each k below most block) =
      node 6 (gcons (gcons (gnum k) (gnum most)) (gcons (expression_at below) (block_at block)))
  statement_at (emit e) = node 7 (emission_code.code e)

  -- The trees of numbers for the statements of a block, in order.
  pub block_at : StatementTrees → Gv
  block_at none = gnil
  block_at (more x xs) = gcons (statement_at x) (block_at xs)

abbrev IsMore : Gv → Type 0
IsMore (gcons a b) = Unit {0}
IsMore gnil = ⊥
IsMore (gnum n) = ⊥

mutual
  -- Two statements with one tree of numbers are one statement.
  pub statement_one : (x y : StatementTree) → statement_at x ≡ statement_at y → x ≡ y
  statement_one (bind m a) (bind n u) p = λ k.
      bind (value (first (rest (p k)))) (expression_one a u (ap (λ g. rest (rest g)) p) k)
  statement_one (assign c a b) (assign d u v) p = λ k.
      assign (value (first (rest (p k)))) (expression_one a u (ap (λ g. first (rest (rest g))) p) k)
      (expression_one b v (ap (λ g. rest (rest (rest g))) p) k)
  statement_one (assign_square c a b e) (assign_square d u v w) p = λ k.
      assign_square (value (first (rest (p k)))) (expression_one a u (ap (λ g. first (rest (rest g))) p) k)
      (expression_one b v (ap (λ g. first (rest (rest (rest g)))) p) k)
      (expression_one e w (ap (λ g. rest (rest (rest (rest g)))) p) k)
  statement_one (push c a m r e) (push d u n s w) p = λ k.
      push (value (first (first (rest (p k))))) (expression_one a u (ap (λ g. first (rest (rest g))) p) k)
      (value (rest (first (rest (p k)))))
      (row_code.inj r s (ap (λ g. first (rest (rest (rest g)))) p) k)
      (block_one e w (ap (λ g. rest (rest (rest (rest g)))) p) k)
  statement_one (take c a t b e) (take d u s v w) p = λ k.
      take (value (first (first (rest (p k))))) (expression_one a u (ap (λ g. rest (first (rest g))) p) k)
      (taken_code.inj t s (ap (λ g. first (rest (rest g))) p) k)
      (block_one b v (ap (λ g. first (rest (rest (rest g)))) p) k)
      (block_one e w (ap (λ g. rest (rest (rest (rest g)))) p) k)
  statement_one (branch l a b e) (branch m u v w) p = λ k.
      branch (likely.the_row.coded.inj l m (ap (λ g. first (rest g)) p) k)
      (expression_one a u (ap (λ g. first (rest (rest g))) p) k)
      (block_one b v (ap (λ g. first (rest (rest (rest g)))) p) k)
      (block_one e w (ap (λ g. rest (rest (rest (rest g)))) p) k)
  statement_one (each c a m b) (each d u n v) p = λ k.
      each (value (first (first (rest (p k))))) (expression_one a u (ap (λ g. first (rest (rest g))) p) k)
      (value (rest (first (rest (p k)))))
      (block_one b v (ap (λ g. rest (rest (rest g))) p) k)
  statement_one (emit a) (emit u) p = λ k. emit (emission_code.inj a u (ap rest p) k)
  statement_one x y p = let apart = ap root p in absurd (omega arith)

  -- Two blocks with one tree of numbers have the same statements in the same order.
  pub block_one : (x y : StatementTrees) → block_at x ≡ block_at y → x ≡ y
  block_one none none p = refl
  block_one (more x xs) (more y ys) p = λ k. more (statement_one x y (ap first p) k) (block_one xs ys (ap rest p) k)
  block_one none (more y ys) p = absurd (subst IsMore (sym p) tt)
  block_one (more x xs) none p = absurd (subst IsMore p tt)

-- Blocks of statements as trees of numbers, one to one.
abbrev pub block_code : Coded StatementTrees
block_code = record { code = block_at; inj = block_one }

-- Handlers.
abbrev expected_parts : Expected → Unit {0} ⊎ (ExpressionTree ⊎ Unit {0})
expected_parts always = inl tt
expected_parts (common e) = inr (inl e)
expected_parts rare = inr (inr tt)

abbrev expected_of : Unit {0} ⊎ (ExpressionTree ⊎ Unit {0}) → Expected
expected_of (inl u) = always
expected_of (inr (inl e)) = common e
expected_of (inr (inr u)) = rare

-- When a handler goes as predicted is had back from its parts.
pub expected_back : (e : Expected) → expected_of (expected_parts e) ≡ e
expected_back always = refl
expected_back (common e) = refl
expected_back rare = refl

abbrev expected_code : Coded Expected
expected_code = code_by (Unit {0} ⊎ (ExpressionTree ⊎ Unit {0})) (coded⊎ coded_unit (coded⊎ expression_code coded_unit))
    expected_parts
    expected_of expected_back

abbrev handler_code : Coded HandlerTree
handler_code = code_by (Dir × (Kind × (ℕ × (Expected × (ℕ × (ℕ × StatementTrees))))))
    (coded× dir.the_row.coded
    (coded× kind.the_row.coded (coded× coded_ℕ (coded× expected_code (coded× coded_ℕ (coded× coded_ℕ block_code))))))
    (λ h. (h.direction, (h.kind, (h.tag, (h.expected, (h.numbers, (h.messages, h.block)))))))
    (λ p. record {
      direction = p.0;
      kind = p.1.0;
      tag = p.1.1.0;
      expected = p.1.1.1.0;
      numbers = p.1.1.1.1.0;
      messages = p.1.1.1.1.1.0;
      block = p.1.1.1.1.1.1;
    })
    (λ _. refl)

-- Cells.
abbrev items_code : Coded ItemsTree
items_code = code_by (List (List ℕ) × Option (List ℕ × Carried))
    (coded× (coded_list (coded_list coded_ℕ)) (coded_option (coded× (coded_list coded_ℕ) carried_code)))
    (λ i. (i.numbers, i.message)) (λ p. record { numbers = p.0; message = p.1 }) (λ _. refl)

abbrev FormParts : Type 0
FormParts = (Shape × ExpressionTree) ⊎ ((ℕ × ItemsTree) ⊎ (ℕ × ItemsTree))

abbrev form_parts : Form → FormParts
form_parts (numbers shape initial) = inl (shape, initial)
form_parts (queue capacity items) = inr (inl (capacity, items))
form_parts (queues capacity items) = inr (inr (capacity, items))

abbrev form_of : FormParts → Form
form_of (inl (shape, initial)) = numbers shape initial
form_of (inr (inl (capacity, items))) = queue capacity items
form_of (inr (inr (capacity, items))) = queues capacity items

-- The form of a cell is had back from its parts.
pub form_back : (f : Form) → form_of (form_parts f) ≡ f
form_back (numbers shape initial) = refl
form_back (queue capacity items) = refl
form_back (queues capacity items) = refl

abbrev form_code : Coded Form
form_code = code_by FormParts
    (coded⊎ (coded× shape.the_row.coded expression_code)
    (coded⊎ (coded× coded_ℕ items_code) (coded× coded_ℕ items_code)))
    form_parts form_of form_back

abbrev cell_code : Coded CellTree
cell_code = code_by (List ℕ × Form) (coded× (coded_list coded_ℕ) form_code) (λ c. (c.name, c.form))
    (λ p. record { name = p.0; form = p.1 })
    (λ _. refl)

-- Layers.
abbrev declared_code : Coded HeaderTree
declared_code = code_by (List ℕ × (ℕ × Bool)) (coded× (coded_list coded_ℕ) (coded× coded_ℕ coded_bool))
    (λ h. (h.name, (h.fields, h.ends))) (λ p. record { name = p.0; fields = p.1.0; ends = p.1.1 }) (λ _. refl)

-- Layers at their places as trees of numbers, one to one: name, cells, headers and handlers.
abbrev pub layer_code : Coded LayerTree
layer_code = code_by (List ℕ × (List CellTree × (List HeaderTree × List HandlerTree)))
    (coded× (coded_list coded_ℕ)
    (coded× (coded_list cell_code) (coded× (coded_list declared_code) (coded_list handler_code))))
    (λ l. (l.name, (l.cells, (l.headers, l.handlers))))
    (λ p. record { name = p.0; cells = p.1.0; headers = p.1.1.0; handlers = p.1.1.1 }) (λ _. refl)

-- A stack as a tree of numbers: its layers, lowest first.
abbrev pub stack_code : Coded (List LayerTree)
stack_code = coded_list layer_code
