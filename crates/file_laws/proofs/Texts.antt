-- The numbers of printed trees are tokens of their text, and those are below 2^32.
use Rattle.std.proofs.Common.{◌≡◌, ℕ, zero, suc, ◌≤◌, Bool, true, false, List, [], ◌∷◌, length, Option, Some, None}
use Rattle.std.proofs.Common.{refl, subst, arith}
use Rattle.std.specs.Prelude.{nat_le, nat_lt, nat_eq, not, ◌&&◌, ◌-◌, if◌then◌else◌, take}
use Rattle.std.specs.Char.{is_ascii_alphabetic, is_ascii_digit}
use Rattle.std.specs.List.{AllByRecursion, AllZip, prefix_len}
use Rattle.std.specs.Option.{option_map_or}
use Rattle.std.proofs.lemmas.Bool.{leb-true}
use Rattle.layer_words.specs.declared.places.At.{At}
use Rattle.layer_ast.specs.declared.names.Name.{Name}
use Rattle.layer_words.specs.declared.events.Kind.{Kind}
use Rattle.layer_ast.specs.declared.tokens.Lexed.{Lexed}
use Rattle.layer_words.specs.declared.signs.Sign.{Sign}
use Rattle.layer_ast.specs.declared.tokens.Token.{Token}
use Rattle.layer_ast.specs.declared.tokens.Token.TheVariants as token
use Rattle.layer_words.specs.declared.sorts.Likely.{Likely}
use Rattle.layer_words.specs.declared.sorts.Likely.TheVariants as likely_word
use Rattle.layer_words.specs.declared.sorts.Shape.{Shape}
use Rattle.layer_words.specs.declared.sorts.Shape.TheVariants.{One, Array, Square}
use Rattle.layer_ast.specs.Cut.{Piece, gap, one, bad, word_piece, number_piece, symbol_piece, piece, place_after}
use Rattle.layer_ast.specs.Cut.{Tokens, is_numeral, with_piece, cut_from, text_tokens}
use Rattle.layer_ast.specs.Print as print
use Rattle.layer_ast.specs.Printed.{Printed}
use Rattle.layer_words.specs.Spelling.{is_blank, is_word_byte, reserved, kinds, beside}
use Rattle.layer_ast.specs.Cut.{word_token, symbol_at, number_of}
use Rattle.layer_ast.specs.Spells.{Fits}
use Rattle.layer_ast.specs.Tree as tree
use Rattle.layer_ast.specs.Tree.{ExpressionTree, QueueTree, MessageTree, BuiltTree, ArgumentTree, NamesTree}
use Rattle.layer_ast.specs.Tree.{ArgumentsTree, PoppedTree, PushedTree, SizeTree, StatementTree, StatementTrees}
use Rattle.layer_ast.specs.Tree.{Expected, HandlerTree, ItemTree, ItemsTree, DeclarationTree, LayerTree, GivenTree}
use Rattle.layer_ast.specs.Tree.{PlaceTree}
use Rattle.packet_mean.specs.ChainedState.{IsNumber}
use Rattle.fault_mean.specs.Scope.{Scope, Standing, head_scope, scope_after, taken_scope, with_locals, locals_as}
use Rattle.fault_mean.specs.Scope.{standing_inside, standing_in}
use Rattle.fault_mean.specs.Uses.{arguments_in}
use Rattle.file_mean.specs.Library.{SpellsLayer}
use Rattle.chain_laws.proofs.Lists.{each_append}
use Rattle.file_laws.specs.Literals.{Literal, LiteralQueue, LiteralMessage, LiteralBuilt, LiteralArgument, LiteralSize}
use Rattle.file_laws.specs.Literals.{LiteralOption, LiteralPushed, LiteralStatement, LiteralExpected, LiteralHandler}
use Rattle.file_laws.specs.Literals.{LiteralDeclaration, LiteralLayer, LiteralPlace}
use Rattle.file_laws.specs.Texts.{TextsAreLiteral, TextsAreTyped}
use Rattle.file_laws.specs.Named.{TextsAreNamed}
use Rattle.file_laws.proofs.Files.{files_are_typed, files_are_named}

-- the tokens of a text

abbrev SmallToken : Token → Type 0
SmallToken (token.Number n) = IsNumber n
SmallToken _ = Unit {0}

abbrev SmallPiece : Piece → Type 0
SmallPiece (one t following) = SmallToken t
SmallPiece _ = Unit {0}

abbrev Lexes : List Lexed → Type 0
Lexes tokens = AllByRecursion (λ l. SmallToken l.token) tokens

either_piece : (b : Bool) (p q : Piece) → (b ≡ true → SmallPiece p) → SmallPiece q → SmallPiece (if b then p else q)
either_piece true p q h i = h refl
either_piece false p q h i = i

kind_or_name : (word : List ℕ) (o : Option Kind) → SmallToken (option_map_or token.Kind o (token.Name word))
kind_or_name word None = tt
kind_or_name word (Some k) = tt

sign_or : (t : Token) (o : Option Sign) → SmallToken t → SmallToken (option_map_or token.Sign o t)
sign_or t None h = h
sign_or t (Some s) h = tt

word_small : (word : List ℕ) → SmallToken (word_token word)
unfolding word_token
word_small word = sign_or (option_map_or token.Kind (beside kinds word) (token.Name word)) (beside reserved word)
    (kind_or_name word (beside kinds word))

symbol_small : (o : Option (List ℕ × Sign)) →
    SmallPiece (option_map_or (λ entry. one (token.Sign entry.1) (length entry.0 - 1)) o bad)
symbol_small None = tt
symbol_small (Some entry) = tt

number_small : (b : ℕ) (bs : List ℕ) → SmallPiece (number_piece b bs)
number_small b bs = let n : ℕ = prefix_len is_ascii_digit bs in
    either_piece (nat_eq b 48 && nat_lt 0 n) bad _ (λ _. tt)
    (either_piece (nat_le (number_of (b ∷ take n bs)) 4294967295) (one (token.Number (number_of (b ∷ take n bs))) n) bad
    (λ e. let le : number_of (b ∷ take n bs) ≤ 4294967295 = leb-true (number_of (b ∷ take n bs)) 4294967295 e in
    omega (arith, le)) tt)

piece_small : (after_number : Bool) (b : ℕ) (bs : List ℕ) → SmallPiece (piece after_number b bs)
unfolding piece
piece_small after_number b bs = either_piece (is_blank b) (gap 0) _ (λ _. tt)
    (either_piece (nat_eq b 35) (gap (prefix_len (λ c. not (nat_eq c 10)) bs)) _ (λ _. tt)
    (either_piece (is_ascii_alphabetic b) (if after_number then bad else word_piece b bs) _
    (λ _. either_piece after_number bad (word_piece b bs) (λ _. tt)
    (either_piece (nat_le (prefix_len is_word_byte bs) 31)
    (one (word_token (b ∷ take (prefix_len is_word_byte bs) bs)) (prefix_len is_word_byte bs)) bad
    (λ _. word_small (b ∷ take (prefix_len is_word_byte bs) bs)) tt))
    (either_piece (is_ascii_digit b) (number_piece b bs) (symbol_piece (b ∷ bs)) (λ _. number_small b bs)
    (symbol_small (symbol_at (b ∷ bs))))))

after_piece : (p : Piece) (at : At) (rest : Bool → ℕ → Tokens) → SmallPiece p →
    ((b : Bool) (n : ℕ) → Lexes (rest b n).tokens) →
    Lexes (with_piece p at rest).tokens
after_piece (gap following) at rest h all = all false following
after_piece (one t following) at rest h all = (h, all (is_numeral t) following)
after_piece bad at rest h all = tt

cut_small : (b : Bool) (inside : ℕ) (bs : List ℕ) (at : At) → Lexes (cut_from b inside bs at).tokens
cut_small b inside [] at = tt
cut_small b zero (x ∷ bs) at = after_piece (piece b x bs) at _ (piece_small b x bs)
    (λ number following. cut_small number following bs (place_after x at))
cut_small b (suc inside) (x ∷ bs) at = cut_small b inside bs (place_after x at)

-- printed tokens are those of a text

abbrev Said : List Printed → Type 0
Said printed = AllByRecursion (λ p. SmallToken p.token) printed

fits_said : (printed : List Printed) (lexed : List Lexed) → Fits printed lexed → Lexes lexed → Said printed
unfolding Fits
fits_said [] [] h i = tt
fits_said (p ∷ printed) (l ∷ lexed) h i = (subst SmallToken h.0 i.0, fits_said printed lexed h.2 i.1)
fits_said [] (l ∷ lexed) h i = tt
fits_said (p ∷ printed) [] h i = absurd h

-- what is printed before other tokens

mutual
  expression_said : (e : ExpressionTree) (k : List Printed) → Said (print.expression e k) → Literal e × Said k
  expression_said (tree.number at n) k h = h
  expression_said (tree.me at) k h = h
  expression_said (tree.members at) k h = h
  expression_said (tree.ltime at) k h = h
  expression_said (tree.named n) k h = h
  expression_said (tree.element n i) k h = let a = expression_said i _ h.1.1 in (a.0, a.1.1)
  expression_said (tree.square n i j) k h =
      let a = expression_said i _ h.1.1 in
      let b = expression_said j _ a.1.1.1 in
      ((a.0, b.0), b.1.1)
  expression_said (tree.rows at q) k h = let a = queue_said q _ h.1.1 in (a.0, a.1.1)
  expression_said (tree.item at q row label) k h =
      let a = queue_said q _ h.1.1 in
      let b = expression_said row _ a.1.1 in
      ((a.0, b.0), b.1.1.1.1)
  expression_said (tree.size at m) k h = let a = message_said m _ h.1.1 in (a.0, a.1.1)
  expression_said (tree.binary at left operator right) k h =
      let a = expression_said left _ h.1 in
      let b = expression_said right _ a.1.1 in
      ((a.0, b.0), b.1.1)
  expression_said (tree.apply at function operand) k h = let a = expression_said operand _ h.1.1 in (a.0, a.1.1)
  expression_said (tree.pick at condition first second) k h =
      let a = expression_said condition _ h.1.1 in
      let b = expression_said first _ a.1.1 in
      let c = expression_said second _ b.1.1 in
      ((a.0, b.0, c.0), c.1.1)

  queue_said : (q : QueueTree) (k : List Printed) → Said (print.queue q k) → LiteralQueue q × Said k
  queue_said (tree.queue n) k h = h
  queue_said (tree.queue_at n i) k h = let a = expression_said i _ h.1.1 in (a.0, a.1.1)

  message_said : (m : MessageTree) (k : List Printed) → Said (print.message m k) → LiteralMessage m × Said k
  message_said (tree.bare n) k h = h
  message_said (tree.built b) k h = built_said b k h

  built_said : (b : BuiltTree) (k : List Printed) → Said (print.built b k) → LiteralBuilt b × Said k
  built_said (tree.nothing at) k h = h
  built_said (tree.held at q row) k h =
      let a = queue_said q _ h.1.1 in
      let b = expression_said row _ a.1.1 in
      ((a.0, b.0), b.1.1)
  built_said (tree.cut at m from count) k h =
      let a = message_said m _ h.1.1 in
      let b = expression_said from _ a.1.1 in
      let c = expression_said count _ b.1.1 in
      ((a.0, b.0, c.0), c.1.1)
  built_said (tree.tail at m from) k h =
      let a = message_said m _ h.1.1 in
      let b = expression_said from _ a.1.1 in
      ((a.0, b.0), b.1.1)
  built_said (tree.join at first second) k h =
      let a = message_said first _ h.1.1 in
      let b = message_said second _ a.1.1 in
      ((a.0, b.0), b.1.1)

more_names_said : (ns : List Name) (k : List Printed) → Said (print.more_names ns k) → Said k
more_names_said [] k h = h
more_names_said (n ∷ rest) k h = more_names_said rest k h.1.1

names_said : (ns : NamesTree) (k : List Printed) → Said (print.names ns k) → Said k
names_said ns k h = more_names_said ns.rest k h.1

some_names_said : (ns : Option NamesTree) (k : List Printed) → Said (print.some_names ns k) → Said k
some_names_said None k h = h
some_names_said (Some ns) k h = names_said ns k h

argument_said : (a : ArgumentTree) (k : List Printed) → Said (print.argument a k) → LiteralArgument a × Said k
argument_said (tree.value e) k h = expression_said e k h
argument_said (tree.content b) k h = built_said b k h

more_said : (es : List ArgumentTree) (k : List Printed) → Said (print.more_arguments es k) →
    AllByRecursion LiteralArgument es × Said k
more_said [] k h = (tt, h)
more_said (e ∷ rest) k h =
    let a = argument_said e _ h.1 in
    let b = more_said rest k a.1 in
    ((a.0, b.0), b.1)

arguments_said : (es : ArgumentsTree) (k : List Printed) → Said (print.arguments es k) →
    AllByRecursion LiteralArgument (arguments_in (Some es)) × Said k
arguments_said es k h =
    let a = argument_said es.first _ h in
    let b = more_said es.rest k a.1 in
    ((a.0, b.0), b.1)

some_said : (es : Option ArgumentsTree) (k : List Printed) → Said (print.some_arguments es k) →
    AllByRecursion LiteralArgument (arguments_in es) × Said k
some_said None k h = (tt, h)
some_said (Some es) k h = arguments_said es k h

pushed_said : (p : Option PushedTree) (k : List Printed) → Said (print.pushed p k) → LiteralPushed p × Said k
pushed_said None k h = (tt, h)
pushed_said (Some p) k h = let a = some_said p.fields _ h.1.1.1 in (a.0, a.1.1)

index_said : (i : Option ExpressionTree) (k : List Printed) → Said (print.index i k) → LiteralOption i × Said k
index_said None k h = (tt, h)
index_said (Some e) k h = let a = expression_said e _ h.1 in (a.0, a.1.1)

size_said : (s : SizeTree) → SmallToken (print.size s).token → LiteralSize s
size_said (tree.fixed at n) h = h
size_said (tree.sized n) h = tt

likely_said : (l : Likely) (k : List Printed) → Said (print.likely l k) → Said k
likely_said likely_word.First k h = h
likely_said likely_word.Else k h = h.1
likely_said likely_word.Two k h = h.1

-- the statements of a block, with those inside them

abbrev LiteralStanding : List Standing → Type 0
LiteralStanding standing = AllByRecursion (λ s. LiteralStatement s.statement) standing

mutual
  statement_said : (x : StatementTree) (scope : Scope) (k : List Printed) → Said (print.statement x k) →
      LiteralStatement x × LiteralStanding (standing_inside scope x) × Said k
  statement_said (tree.bind at n value) scope k h = let a = expression_said value _ h.1.1.1 in (a.0, tt, a.1.1)
  statement_said (tree.set at n i value) scope k h =
      let a = index_said i _ h.1.1 in
      let b = expression_said value _ a.1.1 in
      ((a.0, b.0), tt, b.1.1)
  statement_said (tree.set_square at n i j value) scope k h =
      let a = expression_said i _ h.1.1.1 in
      let b = expression_said j _ a.1.1.1 in
      let c = expression_said value _ b.1.1.1 in
      ((a.0, b.0, c.0), tt, c.1.1)
  statement_said (tree.push at q items otherwise) scope k h =
      let a = queue_said q _ h.1 in
      let b = arguments_said items _ a.1.1 in
      let c = block_said otherwise scope _ b.1.1.1.1 in
      ((a.0, b.0), c.0, c.1.1)
  statement_said (tree.take at q ns first otherwise) scope k h =
      let a = queue_said q _ h.1 in
      let b = block_said first (taken_scope scope q ns) _ (names_said ns _ a.1.1).1.1 in
      let c = block_said otherwise scope _ b.1.1.1.1 in
      (a.0, each_append _ (standing_in (taken_scope scope q ns) first) (standing_in scope otherwise) b.0 c.0, c.1.1)
  statement_said (tree.when at l condition first) scope k h =
      let a = expression_said condition _ (likely_said l _ h.1) in
      let b = block_said first scope _ a.1.1 in
      (a.0, b.0, b.1.1)
  statement_said (tree.choose at l condition first otherwise) scope k h =
      let a = expression_said condition _ (likely_said l _ h.1) in
      let b = block_said first scope _ a.1.1 in
      let c = block_said otherwise scope _ b.1.1.1.1 in
      (a.0, each_append _ (standing_in scope first) (standing_in scope otherwise) b.0 c.0, c.1.1)
  statement_said (tree.each at n below most body) scope k h =
      let a = expression_said below _ h.1.1.1 in
      let b = block_said body (with_locals scope (locals_as [] (n ∷ []))) _ a.1.1.1.1 in
      ((a.0, size_said most a.1.1.0), b.0, b.1.1)
  statement_said (tree.emit at direction what es p) scope k h =
      let a = arguments_said es _ h.1.1.1 in
      let b = pushed_said p _ a.1.1 in
      ((a.0, b.0), tt, b.1.1)

  block_said : (xs : StatementTrees) (scope : Scope) (k : List Printed) → Said (print.statements xs k) →
      LiteralStanding (standing_in scope xs) × Said k
  block_said tree.none scope k h = (tt, h)
  block_said (tree.more x rest) scope k h =
      let a = statement_said x scope _ h in
      let b = block_said rest (scope_after scope x) k a.2 in
      ((a.0, each_append _ (standing_inside scope x) (standing_in (scope_after scope x) rest) a.1 b.0), b.1)

popped_said : (p : Option PoppedTree) (k : List Printed) → Said (print.popped p k) → Said k
popped_said None k h = h
popped_said (Some p) k h = (some_names_said p.fields _ h.1.1.1).1

expected_said : (x : Expected) (k : List Printed) → Said (print.expected x k) → LiteralExpected x × Said k
expected_said tree.always k h = (tt, h)
expected_said (tree.common condition) k h = expression_said condition k h.1
expected_said tree.rare k h = (tt, h.1)

handlers_said : (l : LayerTree) (hs : List HandlerTree) (k : List Printed) → Said (print.handlers hs k) →
    AllByRecursion (LiteralHandler l) hs × Said k
handlers_said l [] k h = (tt, h)
handlers_said l (x ∷ rest) k h =
    let a = expected_said x.expected _ (popped_said x.popped _ (names_said x.names _ h.1.1.1).1) in
    let b = block_said x.block (head_scope l x) _ a.1.1 in
    let c = handlers_said l rest k b.1.1 in
    (((a.0, b.0), c.0), c.1)

shape_said : (s : Shape) (k : List Printed) → Said (print.shape s k) → Said k
shape_said One k h = h
shape_said Array k h = h.1.1.1
shape_said Square k h = h.1.1.1.1.1

initial_said : (e : Option ExpressionTree) (k : List Printed) → Said (print.initial e k) → LiteralOption e × Said k
initial_said None k h = (tt, h)
initial_said (Some e) k h = expression_said e k h.1

more_items_said : (is : List ItemTree) (k : List Printed) → Said (print.more_items is k) → Said k
more_items_said [] k h = h
more_items_said (i ∷ rest) k h = more_items_said rest k h.1.1.1.1

rows_said : (capacity : SizeTree) (is : ItemsTree) (k : List Printed) → Said (print.rows capacity is k) →
    LiteralSize capacity × Said k
rows_said capacity is k h = (size_said capacity h.1.0, (more_items_said is.rest _ h.1.1.1.1.1.1.1.1).1.1)

declaration_said : (d : DeclarationTree) (k : List Printed) → Said (print.declaration d k) →
    LiteralDeclaration d × Said k
declaration_said (tree.param at n value) k h = (h.1.1.1.0, h.1.1.1.1.1)
declaration_said (tree.int at n s value) k h = let a = initial_said value _ (shape_said s _ h.1.1.1) in (a.0, a.1.1)
declaration_said (tree.rows_cell at n capacity is) k h = rows_said capacity is k h.1.1.1
declaration_said (tree.rows_array at n capacity is) k h = rows_said capacity is k h.1.1.1.1.1.1
declaration_said (tree.header at n fields ending) k h = (tt, (some_names_said fields _ h.1.1.1).1.1.1)

declarations_said : (ds : List DeclarationTree) (k : List Printed) → Said (print.declarations ds k) →
    AllByRecursion LiteralDeclaration ds × Said k
declarations_said [] k h = (tt, h)
declarations_said (d ∷ rest) k h =
    let a = declaration_said d _ h in
    let b = declarations_said rest k a.1 in
    ((a.0, b.0), b.1)

layer_said : (l : LayerTree) (k : List Printed) → Said (print.layer l k) → LiteralLayer l × Said k
layer_said l k h =
    let a = declarations_said l.declarations _ h.1.1.1 in
    let b = handlers_said l l.handlers _ a.1 in
    (record { declarations_are = a.0; handlers_are = b.0 }, b.1.1)

layers_said : (ls : List LayerTree) (k : List Printed) → Said (print.layers ls k) → AllByRecursion LiteralLayer ls ×
    Said k
layers_said [] k h = (tt, h)
layers_said (l ∷ rest) k h =
    let a = layer_said l _ h in
    let b = layers_said rest k a.1 in
    ((a.0, b.0), b.1)

more_given_said : (gs : List GivenTree) (k : List Printed) → Said (print.more_given gs k) →
    AllByRecursion (λ g. IsNumber g.value) gs × Said k
more_given_said [] k h = (tt, h)
more_given_said (g ∷ rest) k h = let a = more_given_said rest k h.1.1.1.1 in ((h.1.1.1.0, a.0), a.1)

given_said : (gs : List GivenTree) (k : List Printed) → Said (print.all_given gs k) →
    AllByRecursion (λ g. IsNumber g.value) gs × Said k
given_said [] k h = (tt, h)
given_said (g ∷ rest) k h = let a = more_given_said rest _ h.1.1.1.1 in ((h.1.1.1.0, a.0), a.1.1)

places_said : (ps : List PlaceTree) (k : List Printed) → Said (print.places ps k) → AllByRecursion LiteralPlace ps ×
    Said k
places_said [] k h = (tt, h)
places_said (p ∷ rest) k h =
    let a = given_said p.given _ h.1 in
    let b = places_said rest k a.1.1 in
    ((a.0, b.0), b.1)

library_said : (texts : List (List ℕ)) (ls : List LayerTree) → AllZip SpellsLayer texts ls →
    AllByRecursion LiteralLayer ls
library_said [] [] h = tt
library_said [] (l ∷ ls) h = absurd h
library_said (text ∷ texts) [] h = absurd h
library_said (text ∷ texts) (l ∷ ls) h = (
  (layer_said l [] (fits_said (print.layer l []) (text_tokens text).tokens h.0.fits (cut_small false 0 text _))).0,
  library_said texts ls h.1,
)

pub texts_are_literal : TextsAreLiteral
texts_are_literal text file is =
    let said = fits_said (print.file file) (text_tokens text).tokens is.spelled.fits (cut_small false 0 text _) in
    let a = layers_said file.layers _ said in
    let b = places_said file.places _ a.1.1.1 in
    record { layers_are = a.0; library_is = library_said _ file.library is.library; places_are = b.0 }

pub texts_are_typed : TextsAreTyped
texts_are_typed text file is none = files_are_typed file (texts_are_literal text file is) none

pub texts_are_named : TextsAreNamed
texts_are_named text file is none = files_are_named file none
