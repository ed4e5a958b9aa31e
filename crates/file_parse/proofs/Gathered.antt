-- Part after part, a repetition is read.
use Rattle.std.proofs.Common.{◌≡◌, ℕ, suc, ◌≤◌, List, [], ◌∷◌, ◌++◌, length, map, refl, sym, ap, subst, ◌∙◌, arith}
use Rattle.std.proofs.lemmas.List.{map-append}
use Rattle.layer_ast.specs.declared.tokens.Lexed.{Lexed}
use Rattle.layer_words.specs.declared.signs.Sign.TheVariants.{Comma, LeftParen, RightParen}
use Rattle.layer_ast.specs.declared.names.Name.{Name}
use Rattle.layer_ast.specs.declared.syntax.Argument.{Argument}
use Rattle.layer_ast.specs.declared.syntax.Declaration.{Declaration}
use Rattle.layer_ast.specs.declared.syntax.Given.{Given}
use Rattle.layer_ast.specs.declared.syntax.Handler.{Handler}
use Rattle.layer_ast.specs.declared.syntax.Item.{Item}
use Rattle.layer_ast.specs.declared.syntax.Layer.{Layer}
use Rattle.layer_ast.specs.declared.syntax.Place.{Place}
use Rattle.layer_ast.specs.declared.syntax.Statement.{Statement}
use Rattle.layer_ast.specs.Print as print
use Rattle.layer_ast.specs.Printed.{Printed, plain, name}
use Rattle.layer_ast.specs.Spells.{Fits}
use Rattle.layer_ast.specs.Tree.{GivenTree}
use Rattle.layer_ast.specs.View.{argument_tree, item_tree, given_tree, statement_tree, statement_trees, handler_tree}
use Rattle.layer_ast.specs.View.{declaration_tree, layer_tree, place_tree}
use Rattle.grammar_laws.specs.Machine.{Symbol, one, a_name, an_argument, more_arguments, more_names, an_item}
use Rattle.grammar_laws.specs.Machine.{more_items, a_given, more_given, some_given, a_statement, statements, a_handler}
use Rattle.grammar_laws.specs.Machine.{handlers, a_declaration, declarations, a_layer, layers, a_place, places, run}
use Rattle.file_parse.specs.Parts.{ReadsGiven}
use Rattle.file_parse.specs.Reading.{Reads, ReadsFlat, Passes, Unseen, Begins, Gathers, GathersAfter, GathersFlat}

-- one more part is gathered, where printing it after the others is printing them all
gathered : {L : Type 0} (print : L → List Printed → List Printed) (many : Symbol) (room : ℕ)
    (tokens rest last : List Lexed)
    (before after : L) (part : List Printed → List Printed) →
    ((k : List Printed) → print after k ≡ print before (part k)) → Gathers print many room tokens before rest →
    ((k : List Printed) → Fits k last → Fits (part k) rest) →
    ((stack : List Symbol) → run room (many ∷ stack) rest ≡ run room (many ∷ stack) last) → length last ≤ length rest →
    Gathers print many room tokens after last
gathered print many room tokens rest last before after part same so_far spelled goes_on no_longer = record {
  spelled = λ k h. subst (λ printed. Fits printed tokens) (sym (same k)) (so_far.spelled (part k) (spelled k h));
  goes_on = λ stack. so_far.goes_on stack ∙ goes_on stack;
  no_longer = omega (arith, so_far.no_longer, no_longer);
}

-- printing one more argument
arguments-append : (all : List Argument) (a : Argument) (k : List Printed) →
    print.more_arguments (map argument_tree (all ++ a ∷ [])) k
    ≡ print.more_arguments (map argument_tree all) (plain Comma ∷ print.argument (argument_tree a) k)
arguments-append [] a k = refl
arguments-append (x ∷ all) a k =
    ap (λ printed. plain Comma ∷ print.argument (argument_tree x) printed) (arguments-append all a k)

-- a comma and an argument are one more argument
pub argument_gathered : (room : ℕ) (tokens rest following last : List Lexed) (all : List Argument) (a : Argument) →
    Gathers print.more_arguments more_arguments room tokens (map argument_tree all) rest → Passes Comma rest following →
    Reads print.argument (an_argument ∷ []) room following (argument_tree a) last →
    Gathers print.more_arguments more_arguments room tokens (map argument_tree (all ++ a ∷ [])) last
argument_gathered room tokens rest following last all a so_far comma read =
    gathered print.more_arguments more_arguments room tokens rest last (map argument_tree all)
    (map argument_tree (all ++ a ∷ [])) (λ k. plain Comma ∷ print.argument (argument_tree a) k)
    (arguments-append all a) so_far (λ k h. comma.spelled _ (read.spelled k h))
    (λ stack. comma.steps room more_arguments stack ∙ read.goes_on (more_arguments ∷ stack))
    (omega (arith, comma.shorter, read.no_longer))

-- printing one more name
names-append : (all : List Name) (n : Name) (k : List Printed) →
    print.more_names (all ++ n ∷ []) k ≡ print.more_names all (plain Comma ∷ name n ∷ k)
names-append [] n k = refl
names-append (x ∷ all) n k = ap (λ printed. plain Comma ∷ name x ∷ printed) (names-append all n k)

-- a comma and a name are one more name
pub name_gathered : (tokens rest following last : List Lexed) (all : List Name) (n : Name) →
    GathersFlat print.more_names (more_names ∷ []) more_names tokens all rest → Passes Comma rest following →
    ReadsFlat (λ t k. name t ∷ k) (a_name ∷ []) (λ room. room) following n last →
    GathersFlat print.more_names (more_names ∷ []) more_names tokens (all ++ n ∷ []) last
name_gathered tokens rest following last all n so_far comma read = record {
  spelled = λ k h.
      subst (λ printed. Fits printed tokens) (sym (names-append all n k))
      (so_far.spelled (plain Comma ∷ name n ∷ k) (comma.spelled (name n ∷ k) (read.spelled k h)));
  goes_on = λ room stack.
      so_far.goes_on room stack ∙ (comma.steps room more_names stack ∙ read.goes_on room (more_names ∷ stack));
  no_longer = omega (arith, so_far.no_longer, comma.shorter, read.no_longer);
}

-- printing one more of them
items-append : (all : List Item) (x : Item) (k : List Printed) →
    print.more_items (map item_tree (all ++ x ∷ [])) k
    ≡ print.more_items (map item_tree all) (plain Comma ∷ print.item (item_tree x) k)
items-append [] x k = refl
items-append (y ∷ all) x k =
    ap (λ printed. plain Comma ∷ print.item (item_tree y) printed) (items-append all x k)

-- a comma and an item are one more item
pub item_gathered : (tokens rest following last : List Lexed) (all : List Item) (x : Item) →
    GathersFlat print.more_items (more_items ∷ []) more_items tokens (map item_tree all) rest →
    Passes Comma rest following →
    ReadsFlat print.item an_item (λ room. room) following (item_tree x) last →
    GathersFlat print.more_items (more_items ∷ []) more_items tokens (map item_tree (all ++ x ∷ [])) last
item_gathered tokens rest following last all x so_far comma read = record {
  spelled = λ k h.
      subst (λ printed. Fits printed tokens) (sym (items-append all x k))
      (so_far.spelled _ (comma.spelled _ (read.spelled k h)));
  goes_on = λ room stack.
      so_far.goes_on room stack ∙ (comma.steps room more_items stack ∙ read.goes_on room (more_items ∷ stack));
  no_longer = omega (arith, so_far.no_longer, comma.shorter, read.no_longer);
}

-- printing one more of them
givens-append : (all : List GivenTree) (x : GivenTree) (k : List Printed) →
    print.more_given (all ++ x ∷ []) k ≡ print.more_given all (plain Comma ∷ print.given x k)
givens-append [] x k = refl
givens-append (y ∷ all) x k = ap (λ printed. plain Comma ∷ print.given y printed) (givens-append all x k)

-- the params of a place so far, after a first one
pub record GathersGiven (first : GivenTree) (tokens : List Lexed) (all : List GivenTree) (rest : List Lexed) : Type 0
  where
    pub more : List GivenTree
    pub is : all ≡ first ∷ more
    pub read : GathersFlat print.more_given (more_given ∷ []) more_given tokens more rest

-- after the first one stand none yet
pub given_none : (first : Given) (tokens : List Lexed) →
    GathersGiven (given_tree first) tokens (map given_tree (first ∷ [])) tokens
given_none first tokens = record {
  more = [];
  is = refl;
  read = record { spelled = λ k h. h; goes_on = λ room stack. refl; no_longer = omega arith };
}

-- a comma and a given param are one more
pub given_gathered : (first : GivenTree) (tokens rest following last : List Lexed) (all : List Given) (x : Given) →
    GathersGiven first tokens (map given_tree all) rest → Passes Comma rest following →
    ReadsFlat print.given a_given (λ room. room) following (given_tree x) last →
    GathersGiven first tokens (map given_tree (all ++ x ∷ [])) last
given_gathered first tokens rest following last all x so_far comma read = record {
  more = so_far.more ++ given_tree x ∷ [];
  is = map-append given_tree all (x ∷ []) ∙ ap (λ list. list ++ given_tree x ∷ []) so_far.is;
  read = record {
    spelled = λ k h.
        subst (λ printed. Fits printed tokens) (sym (givens-append so_far.more (given_tree x) k))
        (so_far.read.spelled _ (comma.spelled _ (read.spelled k h)));
    goes_on = λ room stack.
        so_far.read.goes_on room stack ∙ (comma.steps room more_given stack ∙ read.goes_on room (more_given ∷ stack));
    no_longer = omega (arith, so_far.read.no_longer, comma.shorter, read.no_longer);
  };
}

-- all of them are read where no comma follows
pub given_ends : (first : GivenTree) (tokens : List Lexed) (all : List GivenTree) (rest : List Lexed) →
    GathersGiven first tokens all rest → Unseen Comma rest → ReadsGiven first tokens all rest
given_ends first tokens all rest so_far unseen = record {
  more = so_far.more;
  is = so_far.is;
  read = record {
    spelled = so_far.read.spelled;
    goes_on = λ room stack. so_far.read.goes_on room stack ∙ unseen.goes_on more_given tt room stack;
    no_longer = so_far.read.no_longer;
  };
}

-- a parenthesis, a first param, those after it and a parenthesis are all params of a place
pub given_read : (room inside : ℕ) (tokens following after_first after_all rest : List Lexed) (first : GivenTree)
    (all : List GivenTree) → Passes LeftParen tokens following → room ≡ suc inside →
    ReadsFlat print.given a_given (λ left. left) following first after_first →
    ReadsGiven first after_first all after_all →
    ReadsFlat (λ p k. p ∷ k) (one RightParen ∷ []) suc after_all (plain RightParen) rest →
    Reads print.all_given (some_given ∷ []) room tokens all rest
given_read room inside tokens following after_first after_all rest first all opens within read more closes =
    rw (within, more.is) record {
      spelled = λ k h. opens.spelled _ (read.spelled _ (more.read.spelled _ (closes.spelled k h)));
      goes_on = λ stack.
          opens.steps (suc inside) some_given stack
          ∙ (read.goes_on inside (more_given ∷ one RightParen ∷ stack)
          ∙ (more.read.goes_on inside (one RightParen ∷ stack) ∙ closes.goes_on inside stack));
      no_longer = omega (arith, opens.shorter, read.no_longer, more.read.no_longer, closes.no_longer);
    }

module _ {L T : Type 0} (print_all : L → List Printed → List Printed) (print_one : T → List Printed → List Printed)
    (many one_of_them : Symbol) (room : ℕ) (tokens rest last : List Lexed) (before after : L) (part : T) where
  -- one more part of a repetition without commas
  part_gathered : ((k : List Printed) → print_all after k ≡ print_all before (print_one part k)) →
      Gathers print_all many room tokens before rest → Begins many (one_of_them ∷ many ∷ []) rest →
      Reads print_one (one_of_them ∷ []) room rest part last → Gathers print_all many room tokens after last
  part_gathered same so_far begins read =
      gathered print_all many room tokens rest last before after (print_one part) same so_far read.spelled
      (λ stack. begins.begins room stack ∙ read.goes_on (many ∷ stack)) read.no_longer

-- printing one more of each kind of part
statements-append : (all : List Statement) (s : Statement) (k : List Printed) →
    print.statements (statement_trees (all ++ s ∷ [])) k
    ≡ print.statements (statement_trees all) (print.statement (statement_tree s) k)
statements-append [] s k = refl
statements-append (x ∷ all) s k = ap (print.statement (statement_tree x)) (statements-append all s k)

handlers-append : (all : List Handler) (h : Handler) (k : List Printed) →
    print.handlers (map handler_tree (all ++ h ∷ [])) k
    ≡ print.handlers (map handler_tree all) (print.handler (handler_tree h) k)
handlers-append [] h k = refl
handlers-append (x ∷ all) h k = ap (print.handler (handler_tree x)) (handlers-append all h k)

declarations-append : (all : List Declaration) (d : Declaration) (k : List Printed) →
    print.declarations (map declaration_tree (all ++ d ∷ [])) k
    ≡ print.declarations (map declaration_tree all) (print.declaration (declaration_tree d) k)
declarations-append [] d k = refl
declarations-append (x ∷ all) d k = ap (print.declaration (declaration_tree x)) (declarations-append all d k)

pub layers-append : (all : List Layer) (l : Layer) (k : List Printed) →
    print.layers (map layer_tree (all ++ l ∷ [])) k ≡ print.layers (map layer_tree all) (print.layer (layer_tree l) k)
layers-append [] l k = refl
layers-append (x ∷ all) l k = ap (print.layer (layer_tree x)) (layers-append all l k)

places-append : (all : List Place) (p : Place) (k : List Printed) →
    print.places (map place_tree (all ++ p ∷ [])) k
    ≡ print.places (map place_tree all) (print.place (place_tree p) k)
places-append [] p k = refl
places-append (x ∷ all) p k = ap (print.place (place_tree x)) (places-append all p k)

module _ (room : ℕ) (tokens rest last : List Lexed) where
  pub statement_gathered : (all : List Statement) (s : Statement) →
      Gathers print.statements statements room tokens (statement_trees all) rest →
      Begins statements (a_statement ∷ statements ∷ []) rest →
      Reads print.statement (a_statement ∷ []) room rest (statement_tree s) last →
      Gathers print.statements statements room tokens (statement_trees (all ++ s ∷ [])) last
  statement_gathered all s =
      part_gathered print.statements print.statement statements a_statement room tokens rest last (statement_trees all)
      (statement_trees (all ++ s ∷ [])) (statement_tree s) (statements-append all s)

  pub handler_gathered : (all : List Handler) (h : Handler) →
      Gathers print.handlers handlers room tokens (map handler_tree all) rest →
      Begins handlers (a_handler ∷ handlers ∷ []) rest →
      Reads print.handler (a_handler ∷ []) room rest (handler_tree h) last →
      Gathers print.handlers handlers room tokens (map handler_tree (all ++ h ∷ [])) last
  handler_gathered all h =
      part_gathered print.handlers print.handler handlers a_handler room tokens rest last (map handler_tree all)
      (map handler_tree (all ++ h ∷ [])) (handler_tree h) (handlers-append all h)

  pub declaration_gathered : (all : List Declaration) (d : Declaration) →
      Gathers print.declarations declarations room tokens (map declaration_tree all) rest →
      Begins declarations (a_declaration ∷ declarations ∷ []) rest →
      Reads print.declaration (a_declaration ∷ []) room rest (declaration_tree d) last →
      Gathers print.declarations declarations room tokens (map declaration_tree (all ++ d ∷ [])) last
  declaration_gathered all d =
      part_gathered print.declarations print.declaration declarations a_declaration room tokens rest last
      (map declaration_tree all) (map declaration_tree (all ++ d ∷ [])) (declaration_tree d) (declarations-append all d)

  pub layer_gathered : (all : List Layer) (l : Layer) →
      Gathers print.layers layers room tokens (map layer_tree all) rest → Begins layers (a_layer ∷ layers ∷ []) rest →
      Reads print.layer (a_layer ∷ []) room rest (layer_tree l) last →
      Gathers print.layers layers room tokens (map layer_tree (all ++ l ∷ [])) last
  layer_gathered all l =
      part_gathered print.layers print.layer layers a_layer room tokens rest last (map layer_tree all)
      (map layer_tree (all ++ l ∷ [])) (layer_tree l) (layers-append all l)

-- one more place of the stack
pub place_gathered : (room : ℕ) (tokens rest last : List Lexed) (expected : List Symbol) (all : List Place)
    (p : Place) →
    GathersAfter print.places expected places room tokens (map place_tree all) rest →
    Begins places (a_place ∷ places ∷ []) rest →
    Reads print.place (a_place ∷ []) room rest (place_tree p) last →
    GathersAfter print.places expected places room tokens (map place_tree (all ++ p ∷ [])) last
place_gathered room tokens rest last expected all p so_far begins read = record {
  spelled = λ k h.
      subst (λ printed. Fits printed tokens) (sym (places-append all p k)) (so_far.spelled _ (read.spelled k h));
  goes_on = λ stack.
      so_far.goes_on stack ∙ (begins.begins room stack ∙ read.goes_on (places ∷ stack));
  no_longer = omega (arith, so_far.no_longer, read.no_longer);
}
