-- What the machine expects, as printed tokens of trees. Each symbol has the tokens of some tree, and an optional one
-- has none.
use Rattle.std.proofs.Common.{◌≡◌, ℕ, Bool, true, false, ◌&&◌, List, [], ◌∷◌, ◌++◌, Option, None, codes, refl, sym}
use Rattle.std.proofs.Common.{true≢false}
use Rattle.layer_words.specs.declared.places.At.{At}
use Rattle.layer_ast.specs.declared.names.Name.{Name}
use Rattle.layer_words.specs.declared.events.Dir.TheVariants.{Up}
use Rattle.layer_words.specs.declared.events.Kind.{Kind}
use Rattle.layer_words.specs.declared.events.Kind.TheVariants.{Cast}
use Rattle.layer_words.specs.declared.signs.Sign.TheVariants as sign
use Rattle.layer_ast.specs.declared.syntax.Ending.{Ending}
use Rattle.layer_ast.specs.declared.syntax.Ending.TheVariants.{Passes}
use Rattle.layer_words.specs.declared.sorts.Likely.{Likely}
use Rattle.layer_words.specs.declared.sorts.Likely.TheVariants as likely_word
use Rattle.layer_words.specs.declared.operators.Operator.{Operator}
use Rattle.layer_words.specs.declared.operators.Operator.TheVariants.{Add}
use Rattle.layer_words.specs.declared.sorts.Shape.{Shape}
use Rattle.layer_words.specs.declared.sorts.Shape.TheVariants as shape_of
use Rattle.layer_words.specs.declared.sorts.Sort.{Sort}
use Rattle.layer_words.specs.declared.sorts.Sort.TheVariants as sort
use Rattle.layer_ast.specs.Tree.{ExpressionTree, number, MessageTree, bare, BuiltTree, nothing, ArgumentTree, value}
use Rattle.layer_ast.specs.Tree.{NamesTree, ArgumentsTree, PoppedTree, PushedTree, SizeTree, fixed, StatementTree, bind}
use Rattle.layer_ast.specs.Tree.{StatementTrees, none, Expected, always, HandlerTree, ItemTree, DeclarationTree, param}
use Rattle.layer_ast.specs.Tree.{int, LayerTree, GivenTree, PlaceTree}
use Rattle.layer_ast.specs.Print as print
use Rattle.layer_ast.specs.Printed.{Printed, plain, placed_sign, plain_numeral, name, kind, ending_sign}
use Rattle.layer_words.specs.Signs.{sort_sign}
use Rattle.layer_words.specs.Signs.{operator_sign}
use Rattle.grammar_laws.specs.Machine.{Symbol, one, a_name, a_number, a_kind, a_size, a_sort, an_ending, an_operator}
use Rattle.grammar_laws.specs.Machine.{an_expression, an_index, a_message, a_built, an_argument, more_arguments}
use Rattle.grammar_laws.specs.Machine.{some_arguments, a_pushed, a_likely, an_otherwise, a_statement, statements}
use Rattle.grammar_laws.specs.Machine.{more_names, some_names, a_popped, an_expected, a_handler, handlers, a_square}
use Rattle.grammar_laws.specs.Machine.{a_shape, an_initial, a_capacity, more_items, a_cell, a_declaration, declarations}
use Rattle.grammar_laws.specs.Machine.{a_layer, layers, more_given, some_given, a_place, places, is_optional}
use Rattle.grammar_laws.specs.Machine.{all_optional}
use Rattle.grammar_laws.specs.Parts.{otherwise, capacity, square}

-- printed tokens are those of some tree before others
abbrev pub IsPrinted : (T : Type 0) → (T → List Printed → List Printed) → List Printed → List Printed → Type 0
IsPrinted T print p k = (tree : T) × (p ≡ print tree k)

-- a place
abbrev pub somewhere : At
somewhere = record { line = 1; col = 1 }

-- printed tokens are what a symbol stands for, before others
abbrev pub Phrase : Symbol → List Printed → List Printed → Type 0
Phrase (one s) p k = p ≡ plain s ∷ k
Phrase a_name p k = IsPrinted Name (λ n k. name n ∷ k) p k
Phrase a_number p k = IsPrinted ℕ (λ v k. plain_numeral v ∷ k) p k
Phrase a_kind p k = IsPrinted Kind (λ x k. kind x ∷ k) p k
Phrase a_size p k = IsPrinted SizeTree (λ s k. print.size s ∷ k) p k
Phrase a_sort p k = IsPrinted Sort (λ s k. plain (sort_sign s) ∷ k) p k
Phrase an_ending p k = IsPrinted Ending (λ e k. plain (ending_sign e) ∷ k) p k
Phrase an_operator p k = IsPrinted Operator (λ o k. plain (operator_sign o) ∷ k) p k
Phrase an_expression p k = IsPrinted ExpressionTree print.expression p k
Phrase an_index p k = IsPrinted (Option ExpressionTree) print.index p k
Phrase a_message p k = IsPrinted MessageTree print.message p k
Phrase a_built p k = IsPrinted BuiltTree print.built p k
Phrase an_argument p k = IsPrinted ArgumentTree print.argument p k
Phrase more_arguments p k = IsPrinted (List ArgumentTree) print.more_arguments p k
Phrase some_arguments p k = IsPrinted (Option ArgumentsTree) print.some_arguments p k
Phrase a_pushed p k = IsPrinted (Option PushedTree) print.pushed p k
Phrase a_likely p k = IsPrinted Likely print.likely p k
Phrase an_otherwise p k = IsPrinted (Option StatementTrees) otherwise p k
Phrase a_statement p k = IsPrinted StatementTree print.statement p k
Phrase statements p k = IsPrinted StatementTrees print.statements p k
Phrase more_names p k = IsPrinted (List Name) print.more_names p k
Phrase some_names p k = IsPrinted (Option NamesTree) print.some_names p k
Phrase a_popped p k = IsPrinted (Option PoppedTree) print.popped p k
Phrase an_expected p k = IsPrinted Expected print.expected p k
Phrase a_handler p k = IsPrinted HandlerTree print.handler p k
Phrase handlers p k = IsPrinted (List HandlerTree) print.handlers p k
Phrase a_square p k = IsPrinted Bool square p k
Phrase a_shape p k = IsPrinted Shape print.shape p k
Phrase an_initial p k = IsPrinted (Option ExpressionTree) print.initial p k
Phrase a_capacity p k = IsPrinted (Bool × SizeTree) capacity p k
Phrase more_items p k = IsPrinted (List ItemTree) print.more_items p k
Phrase a_cell p k =
    (at : At) → (declaration : DeclarationTree) × (placed_sign sign.State at ∷ p ≡ print.declaration declaration k)
Phrase a_declaration p k = IsPrinted DeclarationTree print.declaration p k
Phrase declarations p k = IsPrinted (List DeclarationTree) print.declarations p k
Phrase a_layer p k = IsPrinted LayerTree print.layer p k
Phrase layers p k = IsPrinted (List LayerTree) print.layers p k
Phrase more_given p k = IsPrinted (List GivenTree) print.more_given p k
Phrase some_given p k = IsPrinted (List GivenTree) print.all_given p k
Phrase a_place p k = IsPrinted PlaceTree print.place p k
Phrase places p k = IsPrinted (List PlaceTree) print.places p k

-- symbols one after the other, before others
abbrev pub Chain : List Symbol → List Printed → List Printed → Type 0
Chain [] p k = p ≡ k
Chain (s ∷ symbols) p k = (l : List Printed) × Phrase s p l × Chain symbols l k

-- a whole stack
abbrev pub Phrases : List Symbol → List Printed → Type 0
Phrases [] p = p ≡ []
Phrases (s ∷ stack) p = (k : List Printed) × Phrase s p k × Phrases stack k

-- the symbols before a stack, and the stack
pub split : (new stack : List Symbol) (p : List Printed) → Phrases (new ++ stack) p →
    (k : List Printed) × Chain new p k × Phrases stack k
split [] stack p h = (p, refl, h)
split (s ∷ new) stack p (l, here, h) = let (k, chain, following) = split new stack l h in
    (k, (l, here, chain), following)

-- the symbols before others, and these others
pub chain_split : (new following : List Symbol) (p k : List Printed) → Chain (new ++ following) p k →
    (l : List Printed) × Chain new p l × Chain following l k
chain_split [] following p k h = (p, refl, h)
chain_split (s ∷ new) following p k (m, here, h) =
    let (l, chain, rest) = chain_split new following m k h in (l, (m, here, chain), rest)

-- an optional symbol may be left out
pub leave : (s : Symbol) (k : List Printed) → is_optional s ≡ true → Phrase s k k
leave an_index k is = (None, refl)
leave more_arguments k is = ([], refl)
leave some_arguments k is = (None, refl)
leave a_pushed k is = (None, refl)
leave a_likely k is = (likely_word.First, refl)
leave an_otherwise k is = (None, refl)
leave statements k is = (none, refl)
leave more_names k is = ([], refl)
leave some_names k is = (None, refl)
leave a_popped k is = (None, refl)
leave an_expected k is = (always, refl)
leave handlers k is = ([], refl)
leave a_square k is = (false, refl)
leave a_shape k is = (shape_of.One, refl)
leave an_initial k is = (None, refl)
leave more_items k is = ([], refl)
leave declarations k is = ([], refl)
leave layers k is = ([], refl)
leave more_given k is = ([], refl)
leave some_given k is = ([], refl)
leave places k is = ([], refl)
leave _ k is = absurd (true≢false (sym is))

-- a stack of symbols that may all be left out
optional_parts : (a b : Bool) → a && b ≡ true → (a ≡ true) × (b ≡ true)
optional_parts true b is = (refl, is)
optional_parts false b is = cc

pub leave_all : (stack : List Symbol) → all_optional stack ≡ true → Phrases stack []
leave_all [] is = refl
leave_all (s ∷ stack) is =
    let both = optional_parts (is_optional s) (all_optional stack) is in ([], leave s [] both.0, leave_all stack both.1)

-- the smallest of everything
abbrev some_name : Name
some_name = record { at = somewhere; word = codes "a" }

abbrev zero_tree : ExpressionTree
zero_tree = number somewhere 0

abbrev some_statement : StatementTree
some_statement = bind somewhere some_name zero_tree

-- each symbol has a phrase
pub some_phrase : (s : Symbol) (k : List Printed) → (p : List Printed) × Phrase s p k
some_phrase (one s) k = (_, refl)
some_phrase a_name k = (_, (some_name, refl))
some_phrase a_number k = (_, (0, refl))
some_phrase a_kind k = (_, (Cast, refl))
some_phrase a_size k = (_, (fixed somewhere 1, refl))
some_phrase a_sort k = (_, (sort.Int, refl))
some_phrase an_ending k = (_, (Passes, refl))
some_phrase an_operator k = (_, (Add, refl))
some_phrase an_expression k = (_, (zero_tree, refl))
some_phrase a_message k = (_, (bare some_name, refl))
some_phrase a_built k = (_, (nothing somewhere, refl))
some_phrase an_argument k = (_, (value zero_tree, refl))
some_phrase a_statement k = (_, (some_statement, refl))
some_phrase a_handler k = (
  _,
  (
    (record {
      at = somewhere;
      direction = Up;
      kind = Cast;
      names = record { first = some_name; rest = [] };
      popped = None;
      expected = always;
      block = none;
    }),
    refl,
  ),
)
some_phrase a_capacity k = (_, ((false, fixed somewhere 1), refl))
some_phrase a_cell k =
    (plain sign.Int ∷ name some_name ∷ plain sign.Semicolon ∷ k, λ at. (int at some_name shape_of.One None, refl))
some_phrase a_declaration k = (_, (param somewhere some_name 0, refl))
some_phrase a_layer k =
    (_, ((record { at = somewhere; name = some_name; declarations = []; handlers = [] }), refl))
some_phrase a_place k = (_, ((record { name = some_name; given = [] }), refl))
some_phrase an_index k = (k, leave an_index k refl)
some_phrase more_arguments k = (k, leave more_arguments k refl)
some_phrase some_arguments k = (k, leave some_arguments k refl)
some_phrase a_pushed k = (k, leave a_pushed k refl)
some_phrase a_likely k = (k, leave a_likely k refl)
some_phrase an_otherwise k = (k, leave an_otherwise k refl)
some_phrase statements k = (k, leave statements k refl)
some_phrase more_names k = (k, leave more_names k refl)
some_phrase some_names k = (k, leave some_names k refl)
some_phrase a_popped k = (k, leave a_popped k refl)
some_phrase an_expected k = (k, leave an_expected k refl)
some_phrase handlers k = (k, leave handlers k refl)
some_phrase a_square k = (k, leave a_square k refl)
some_phrase a_shape k = (k, leave a_shape k refl)
some_phrase an_initial k = (k, leave an_initial k refl)
some_phrase more_items k = (k, leave more_items k refl)
some_phrase declarations k = (k, leave declarations k refl)
some_phrase layers k = (k, leave layers k refl)
some_phrase more_given k = (k, leave more_given k refl)
some_phrase some_given k = (k, leave some_given k refl)
some_phrase places k = (k, leave places k refl)

-- and so has each stack
pub some_phrases : (stack : List Symbol) → (p : List Printed) × Phrases stack p
some_phrases [] = ([], refl)
some_phrases (s ∷ stack) =
    let (k, following) = some_phrases stack in let (p, here) = some_phrase s k in (p, (k, here, following))
