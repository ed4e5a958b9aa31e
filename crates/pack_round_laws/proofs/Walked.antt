-- What the tokens of a file tell of its trees: names are words, and brackets are nowhere deeper than there is room for.
use Rattle.std.proofs.Common.{◌≡◌, ℕ, zero, suc, ◌+◌, ◌≤◌, Bool, true, false, List, [], ◌∷◌, map, length, Option, Some}
use Rattle.std.proofs.Common.{None, codes, bytes_eq, refl, sym, ap, ◌∙◌, subst, arith}
use Rattle.std.specs.Prelude.{nat_le, nat_lt, nat_eq, not, ◌&&◌, ◌-◌, if◌then◌else◌, take}
use Rattle.std.specs.Char.{is_ascii_alphabetic, is_ascii_digit}
use Rattle.std.specs.List.{AllByRecursion, list_all, prefix_len}
use Rattle.std.specs.Option.{option_map_or}
use Rattle.std.proofs.lemmas.Bool.Decides.{nat_tests}
use Rattle.std.proofs.lemmas.Slice.Eq.{bytes_eq-Decides}
use Rattle.layer_words.specs.declared.places.At.{At}
use Rattle.layer_ast.specs.declared.names.Name.{Name}
use Rattle.layer_words.specs.declared.events.Dir.{Dir}
use Rattle.layer_words.specs.declared.events.Dir.TheVariants.{Up, Down}
use Rattle.layer_words.specs.declared.events.Kind.{Kind}
use Rattle.layer_ast.specs.declared.tokens.Lexed.{Lexed}
use Rattle.layer_words.specs.declared.signs.Sign.{Sign}
use Rattle.layer_words.specs.declared.signs.Sign.TheVariants as sign
use Rattle.layer_ast.specs.declared.tokens.Token.{Token}
use Rattle.layer_ast.specs.declared.tokens.Token.TheVariants as token
use Rattle.layer_ast.specs.declared.syntax.Ending.{Ending}
use Rattle.layer_ast.specs.declared.syntax.Ending.TheVariants.{Passes, Ends}
use Rattle.layer_words.specs.declared.operators.Function.{Function}
use Rattle.layer_words.specs.declared.operators.Function.TheVariants.{Not, Bit, Count, Lowest}
use Rattle.layer_words.specs.declared.sorts.Likely.{Likely}
use Rattle.layer_words.specs.declared.sorts.Likely.TheVariants as likely_word
use Rattle.layer_words.specs.declared.operators.Operator.{Operator}
use Rattle.layer_words.specs.declared.operators.Operator.TheVariants.{Add, Subtract, Multiply, Equal, NotEqual, Less}
use Rattle.layer_words.specs.declared.operators.Operator.TheVariants.{LessOrEqual, Greater, GreaterOrEqual, And, Or}
use Rattle.layer_words.specs.declared.operators.Operator.TheVariants.{BitAnd}
use Rattle.layer_words.specs.declared.operators.Operator.TheVariants.{BitOr, BitXor}
use Rattle.layer_words.specs.declared.sorts.Shape.{Shape}
use Rattle.layer_words.specs.declared.sorts.Shape.TheVariants.{One, Array, Square}
use Rattle.layer_words.specs.declared.sorts.Sort.{Sort}
use Rattle.layer_words.specs.declared.sorts.Sort.TheVariants.{Int, Msg, Part}
use Rattle.layer_ast.specs.Cut.{Piece, gap, one, bad, word_piece, number_piece, symbol_piece, piece, place_after}
use Rattle.layer_ast.specs.Cut.{Tokens, is_numeral, with_piece, cut_from, text_tokens}
use Rattle.layer_ast.specs.Depth.{room_after, WithRoom, IsWithin}
use Rattle.layer_ast.specs.Print as print
use Rattle.layer_ast.specs.Printed as printed
use Rattle.layer_ast.specs.Printed.{Printed, plain, ending_sign}
use Rattle.layer_words.specs.Signs.{direction_sign, function_sign, operator_sign}
use Rattle.layer_words.specs.Signs.{sort_sign}
use Rattle.layer_words.specs.Spelling.{is_blank, is_word_byte, reserved, kinds, beside}
use Rattle.layer_ast.specs.Cut.{word_token, symbol_at, number_of}
use Rattle.layer_ast.specs.Spells.{Fits}
use Rattle.layer_ast.specs.Tree as tree
use Rattle.layer_ast.specs.Tree.{ExpressionTree, QueueTree, MessageTree, BuiltTree, ArgumentTree, NamesTree}
use Rattle.layer_ast.specs.Tree.{ArgumentsTree, PoppedTree, PushedTree, SizeTree, StatementTree, StatementTrees}
use Rattle.layer_ast.specs.Tree.{Expected, HandlerTree, ItemTree, ItemsTree, DeclarationTree, LayerTree}
use Rattle.fault_mean.specs.Declared.{declared_name, items_in}
use Rattle.fault_mean.specs.Scope.{Scope, Standing, head_scope, scope_after, taken_scope, with_locals, locals_as}
use Rattle.fault_mean.specs.Scope.{standing_inside, standing_in, handler_statements}
use Rattle.fault_mean.specs.Uses.{arguments_in}
use Rattle.chain_laws.proofs.Lists.{each_append}
use Rattle.pack_round_laws.specs.Told.{IsWord}

-- a name is a word, and isn't `none`
abbrev pub IsName : List ℕ → Type 0
IsName word = IsWord word × (bytes_eq word (codes "none") ≡ false)

abbrev NameToken : Token → Type 0
NameToken (token.Name word) = IsName word
NameToken _ = Unit {0}

abbrev NamePiece : Piece → Type 0
NamePiece (one t following) = NameToken t
NamePiece _ = Unit {0}

abbrev pub AreNames : List Lexed → Type 0
AreNames tokens = AllByRecursion (λ l. NameToken l.token) tokens

-- the tokens of a text
either_piece : (b : Bool) (p q : Piece) → (b ≡ true → NamePiece p) → NamePiece q → NamePiece (if b then p else q)
either_piece true p q h i = h refl
either_piece false p q h i = i

none_is : (o : Option Sign) → beside reserved (codes "none") ≡ o → o ≡ Some sign.NoHeader
unfolding reserved
none_is o is = sym is

not_none : (word : List ℕ) → beside reserved word ≡ None → bytes_eq word (codes "none") ≡ false
not_none word none = go (bytes_eq word (codes "none")) refl where
  go : (b : Bool) → bytes_eq word (codes "none") ≡ b → b ≡ false
  go false e = refl
  go true e = absurd (cc
      (none_is None (ap (beside reserved) (sym ((bytes_eq-Decides word (codes "none")).0 e)) ∙ none)))

kind_or_name : (word : List ℕ) (o : Option Kind) → IsName word →
    NameToken (option_map_or token.Kind o (token.Name word))
kind_or_name word None h = h
kind_or_name word (Some k) h = tt

word_named : (word : List ℕ) → IsWord word → NameToken (word_token word)
unfolding word_token
word_named word is = go (beside reserved word) refl where
  go : (o : Option Sign) → beside reserved word ≡ o →
      NameToken (option_map_or token.Sign o (option_map_or token.Kind (beside kinds word) (token.Name word)))
  go None e = kind_or_name word (beside kinds word) (is, not_none word e)
  go (Some s) e = tt

symbol_named : (o : Option (List ℕ × Sign)) →
    NamePiece (option_map_or (λ entry. one (token.Sign entry.1) (length entry.0 - 1)) o bad)
symbol_named None = tt
symbol_named (Some entry) = tt

number_named : (b : ℕ) (bs : List ℕ) → NamePiece (number_piece b bs)
number_named b bs = let n : ℕ = prefix_len is_ascii_digit bs in
    either_piece (nat_eq b 48 && nat_lt 0 n) bad _ (λ _. tt)
    (either_piece (nat_le (number_of (b ∷ take n bs)) 4294967295) (one (token.Number (number_of (b ∷ take n bs))) n) bad
    (λ _. tt) tt)

front_words : (bs : List ℕ) → list_all is_word_byte (take (prefix_len is_word_byte bs) bs) ≡ true
front_words [] = refl
front_words (b ∷ bs) = go (is_word_byte b) refl (front_words bs) where
  go : (t : Bool) → is_word_byte b ≡ t → list_all is_word_byte (take (prefix_len is_word_byte bs) bs) ≡ true →
      list_all is_word_byte (take (prefix_len is_word_byte (b ∷ bs)) (b ∷ bs)) ≡ true
  go true e h =
      let count : prefix_len is_word_byte (b ∷ bs) ≡ suc (prefix_len is_word_byte bs) = rw e (omega arith) in
      ap (λ n. list_all is_word_byte (take n (b ∷ bs))) count ∙
      ap (λ t. t && list_all is_word_byte (take (prefix_len is_word_byte bs) bs)) e ∙ h
  go false e h =
      let count : prefix_len is_word_byte (b ∷ bs) ≡ 0 = rw e refl in
      ap (λ n. list_all is_word_byte (take n (b ∷ bs))) count

letter_byte : (b : ℕ) → is_ascii_alphabetic b ≡ true → is_word_byte b ≡ true
letter_byte b is = grind (arith, nat_tests)

piece_named : (after_number : Bool) (b : ℕ) (bs : List ℕ) → NamePiece (piece after_number b bs)
unfolding piece
piece_named after_number b bs = either_piece (is_blank b) (gap 0) _ (λ _. tt)
    (either_piece (nat_eq b 35) (gap (prefix_len (λ c. not (nat_eq c 10)) bs)) _ (λ _. tt)
    (either_piece (is_ascii_alphabetic b) (if after_number then bad else word_piece b bs) _
    (λ letter. either_piece after_number bad (word_piece b bs) (λ _. tt)
    (either_piece (nat_le (prefix_len is_word_byte bs) 31)
    (one (word_token (b ∷ take (prefix_len is_word_byte bs) bs)) (prefix_len is_word_byte bs)) bad
    (λ _. word_named (b ∷ take (prefix_len is_word_byte bs) bs)
    (ap (λ t. t && list_all is_word_byte (take (prefix_len is_word_byte bs) bs)) (letter_byte b letter) ∙
    front_words bs)) tt))
    (either_piece (is_ascii_digit b) (number_piece b bs) (symbol_piece (b ∷ bs)) (λ _. number_named b bs)
    (symbol_named (symbol_at (b ∷ bs))))))

after_piece : (p : Piece) (at : At) (rest : Bool → ℕ → Tokens) → NamePiece p →
    ((b : Bool) (n : ℕ) → AreNames (rest b n).tokens) →
    AreNames (with_piece p at rest).tokens
after_piece (gap following) at rest h all = all false following
after_piece (one t following) at rest h all = (h, all (is_numeral t) following)
after_piece bad at rest h all = tt

cut_named : (b : Bool) (inside : ℕ) (bs : List ℕ) (at : At) → AreNames (cut_from b inside bs at).tokens
cut_named b inside [] at = tt
cut_named b zero (x ∷ bs) at = after_piece (piece b x bs) at _ (piece_named b x bs)
    (λ number following. cut_named number following bs (place_after x at))
cut_named b (suc inside) (x ∷ bs) at = cut_named b inside bs (place_after x at)

-- printed tokens, with room for `room` brackets
abbrev pub Walk : ℕ → List Printed → Type 0
Walk room [] = Unit {0}
Walk room (p ∷ printed) = NameToken p.token × WithRoom (room_after p.token room) (λ left. Walk left printed)

room_same : (o q : Option ℕ) (P Q : ℕ → Type 0) → o ≡ q → ((n : ℕ) → P n → Q n) → WithRoom o P → WithRoom q Q
room_same o None P Q same so h = absurd (subst (λ x. WithRoom x P) same h)
room_same o (Some n) P Q same so h = so n (subst (λ x. WithRoom x P) same h)

walked : (room : ℕ) (printed : List Printed) (lexed : List Lexed) → Fits printed lexed → AreNames lexed →
    IsWithin room (map (λ l. l.token) lexed) →
    Walk room printed
unfolding Fits
walked room [] [] fits are within = tt
walked room [] (l ∷ lexed) fits are within = tt
walked room (p ∷ printed) [] fits are within = absurd fits
walked room (p ∷ printed) (l ∷ lexed) fits are within = (
  subst NameToken fits.0 are.0,
  room_same (room_after l.token room) (room_after p.token room) (λ left. IsWithin left (map (λ l. l.token) lexed))
      (λ left. Walk left printed)
      (ap (λ t. room_after t room) fits.0) (λ left h. walked left printed lexed fits.2 are.1 h) within,
)

pub text_walked : (room : ℕ) (printed : List Printed) (text : List ℕ) → Fits printed (text_tokens text).tokens →
    IsWithin room (map (λ l. l.token) (text_tokens text).tokens) → Walk room printed
text_walked room printed text fits within =
    walked room printed (text_tokens text).tokens fits (cut_named false 0 text _) within

-- words that are no brackets leave the room as it is
pass : (t : Token) (room : ℕ) (P : ℕ → Type 0) → room_after t room ≡ Some room → WithRoom (room_after t room) P →
    P room
pass t room P is h = subst (λ o. WithRoom o P) is h

function_room : (f : Function) (room : ℕ) → room_after (token.Sign (function_sign f)) room ≡ Some room
function_room Not room = refl
function_room Bit room = refl
function_room Count room = refl
function_room Lowest room = refl

operator_room : (o : Operator) (room : ℕ) → room_after (token.Sign (operator_sign o)) room ≡ Some room
operator_room Add room = refl
operator_room Subtract room = refl
operator_room Multiply room = refl
operator_room Equal room = refl
operator_room NotEqual room = refl
operator_room Less room = refl
operator_room LessOrEqual room = refl
operator_room Greater room = refl
operator_room GreaterOrEqual room = refl
operator_room And room = refl
operator_room Or room = refl
operator_room BitAnd room = refl
operator_room BitOr room = refl
operator_room BitXor room = refl

direction_room : (d : Dir) (room : ℕ) → room_after (token.Sign (direction_sign d)) room ≡ Some room
direction_room Up room = refl
direction_room Down room = refl

ending_room : (e : Ending) (room : ℕ) → room_after (token.Sign (ending_sign e)) room ≡ Some room
ending_room Passes room = refl
ending_room Ends room = refl

sort_room : (s : Sort) (room : ℕ) → room_after (token.Sign (sort_sign s)) room ≡ Some room
sort_room Int room = refl
sort_room Msg room = refl
sort_room Part room = refl

-- how deep brackets go in an expression, a queue and a message
abbrev mutual
  pub Deep : ℕ → ExpressionTree → Type 0
  Deep n (tree.number at value) = Unit {0}
  Deep n (tree.me at) = Unit {0}
  Deep n (tree.members at) = Unit {0}
  Deep n (tree.ltime at) = Unit {0}
  Deep n (tree.named name) = Unit {0}
  Deep (suc n) (tree.element name i) = Deep n i
  Deep (suc n) (tree.square name i j) = Deep n i × Deep n j
  Deep (suc n) (tree.rows at q) = DeepQueue n q
  Deep (suc n) (tree.item at q row label) = DeepQueue n q × Deep n row
  Deep (suc n) (tree.size at m) = DeepMessage n m
  Deep (suc n) (tree.binary at left operator right) = Deep n left × Deep n right
  Deep (suc n) (tree.apply at function operand) = Deep n operand
  Deep (suc n) (tree.pick at condition first second) = Deep n condition × Deep n first × Deep n second
  Deep zero _ = ⊥

  pub DeepQueue : ℕ → QueueTree → Type 0
  DeepQueue n (tree.queue name) = Unit {0}
  DeepQueue (suc n) (tree.queue_at name i) = Deep n i
  DeepQueue zero (tree.queue_at name i) = ⊥

  pub DeepMessage : ℕ → MessageTree → Type 0
  DeepMessage n (tree.bare name) = Unit {0}
  DeepMessage n (tree.built b) = DeepBuilt n b

  pub DeepBuilt : ℕ → BuiltTree → Type 0
  DeepBuilt n (tree.nothing at) = Unit {0}
  DeepBuilt (suc n) (tree.held at q row) = DeepQueue n q × Deep n row
  DeepBuilt (suc n) (tree.cut at m from most) = DeepMessage n m × Deep n from × Deep n most
  DeepBuilt (suc n) (tree.tail at m from) = DeepMessage n m × Deep n from
  DeepBuilt (suc n) (tree.join at first second) = DeepMessage n first × DeepMessage n second
  DeepBuilt zero _ = ⊥

abbrev print_close : List Printed → List Printed
print_close k = plain sign.RightParen ∷ k

abbrev print_open : List Printed → List Printed
print_open k = plain sign.LeftParen ∷ k

mutual
  expression_walk : (e : ExpressionTree) (room : ℕ) (k : List Printed) → Walk room (print.expression e k) →
      Deep room e × Walk room k
  expression_walk (tree.number at n) room k h = (tt, h.1)
  expression_walk (tree.me at) room k h = (tt, h.1)
  expression_walk (tree.members at) room k h = (tt, h.1)
  expression_walk (tree.ltime at) room k h = (tt, h.1)
  expression_walk (tree.named n) room k h = (tt, h.1)
  expression_walk (tree.element n i) zero k h = absurd h.1.1
  expression_walk (tree.element n i) (suc room) k h = let a = expression_walk i room _ h.1.1 in (a.0, a.1.1)
  expression_walk (tree.square n i j) zero k h = absurd h.1.1
  expression_walk (tree.square n i j) (suc room) k h =
      let a = expression_walk i room _ h.1.1 in
      let b = expression_walk j room _ a.1.1.1 in
      ((a.0, b.0), b.1.1)
  expression_walk (tree.rows at q) zero k h = absurd h.1.1
  expression_walk (tree.rows at q) (suc room) k h = let a = queue_walk q room _ h.1.1 in (a.0, a.1.1)
  expression_walk (tree.item at q row label) zero k h = absurd h.1.1
  expression_walk (tree.item at q row label) (suc room) k h =
      let a = queue_walk q room _ h.1.1 in
      let b = expression_walk row room _ a.1.1 in
      ((a.0, b.0), b.1.1.1.1)
  expression_walk (tree.size at m) zero k h = absurd h.1.1
  expression_walk (tree.size at m) (suc room) k h = let a = message_walk m room _ h.1.1 in (a.0, a.1.1)
  expression_walk (tree.binary at left operator right) zero k h = absurd h.1
  expression_walk (tree.binary at left operator right) (suc room) k h =
      let a = expression_walk left room _ h.1 in
      let b = expression_walk right room _
      (pass (token.Sign (operator_sign operator)) room (λ n. Walk n (print.expression right (print_close k)))
      (operator_room operator room) a.1.1) in
      ((a.0, b.0), b.1.1)
  expression_walk (tree.apply at function operand) zero k h =
      absurd (pass (token.Sign (function_sign function)) zero
      (λ n. Walk n (print_open (print.expression operand (print_close k))))
      (function_room function zero) h.1).1
  expression_walk (tree.apply at function operand) (suc room) k h =
      let a = expression_walk operand room _ (pass (token.Sign (function_sign function)) (suc room)
      (λ n. Walk n (print_open (print.expression operand (print_close k)))) (function_room function (suc room)) h.1).1
      in
      (a.0, a.1.1)
  expression_walk (tree.pick at condition first second) zero k h = absurd h.1.1
  expression_walk (tree.pick at condition first second) (suc room) k h =
      let a = expression_walk condition room _ h.1.1 in
      let b = expression_walk first room _ a.1.1 in
      let c = expression_walk second room _ b.1.1 in
      ((a.0, b.0, c.0), c.1.1)

  queue_walk : (q : QueueTree) (room : ℕ) (k : List Printed) → Walk room (print.queue q k) →
      DeepQueue room q × Walk room k
  queue_walk (tree.queue n) room k h = (tt, h.1)
  queue_walk (tree.queue_at n i) zero k h = absurd h.1.1
  queue_walk (tree.queue_at n i) (suc room) k h = let a = expression_walk i room _ h.1.1 in (a.0, a.1.1)

  message_walk : (m : MessageTree) (room : ℕ) (k : List Printed) → Walk room (print.message m k) →
      DeepMessage room m × Walk room k
  message_walk (tree.bare n) room k h = (tt, h.1)
  message_walk (tree.built b) room k h = built_walk b room k h

  built_walk : (b : BuiltTree) (room : ℕ) (k : List Printed) → Walk room (print.built b k) →
      DeepBuilt room b × Walk room k
  built_walk (tree.nothing at) room k h = (tt, h.1)
  built_walk (tree.held at q row) zero k h = absurd h.1.1
  built_walk (tree.held at q row) (suc room) k h =
      let a = queue_walk q room _ h.1.1 in
      let b = expression_walk row room _ a.1.1 in
      ((a.0, b.0), b.1.1)
  built_walk (tree.cut at m from count) zero k h = absurd h.1.1
  built_walk (tree.cut at m from count) (suc room) k h =
      let a = message_walk m room _ h.1.1 in
      let b = expression_walk from room _ a.1.1 in
      let c = expression_walk count room _ b.1.1 in
      ((a.0, b.0, c.0), c.1.1)
  built_walk (tree.tail at m from) zero k h = absurd h.1.1
  built_walk (tree.tail at m from) (suc room) k h =
      let a = message_walk m room _ h.1.1 in
      let b = expression_walk from room _ a.1.1 in
      ((a.0, b.0), b.1.1)
  built_walk (tree.join at first second) zero k h = absurd h.1.1
  built_walk (tree.join at first second) (suc room) k h =
      let a = message_walk first room _ h.1.1 in
      let b = message_walk second room _ a.1.1 in
      ((a.0, b.0), b.1.1)

-- with room for more
mutual
  pub deep_one : (e : ExpressionTree) (n : ℕ) → Deep n e → Deep (suc n) e
  deep_one (tree.number at value) n h = tt
  deep_one (tree.me at) n h = tt
  deep_one (tree.members at) n h = tt
  deep_one (tree.ltime at) n h = tt
  deep_one (tree.named name) n h = tt
  deep_one (tree.element name i) (suc n) h = deep_one i n h
  deep_one (tree.square name i j) (suc n) h = (deep_one i n h.0, deep_one j n h.1)
  deep_one (tree.rows at q) (suc n) h = queue_one q n h
  deep_one (tree.item at q row label) (suc n) h = (queue_one q n h.0, deep_one row n h.1)
  deep_one (tree.size at m) (suc n) h = message_one m n h
  deep_one (tree.binary at left operator right) (suc n) h = (deep_one left n h.0, deep_one right n h.1)
  deep_one (tree.apply at function operand) (suc n) h = deep_one operand n h
  deep_one (tree.pick at condition first second) (suc n) h =
      (deep_one condition n h.0, deep_one first n h.1, deep_one second n h.2)
  deep_one (tree.element name i) zero h = absurd h
  deep_one (tree.square name i j) zero h = absurd h
  deep_one (tree.rows at q) zero h = absurd h
  deep_one (tree.item at q row label) zero h = absurd h
  deep_one (tree.size at m) zero h = absurd h
  deep_one (tree.binary at left operator right) zero h = absurd h
  deep_one (tree.apply at function operand) zero h = absurd h
  deep_one (tree.pick at condition first second) zero h = absurd h

  queue_one : (q : QueueTree) (n : ℕ) → DeepQueue n q → DeepQueue (suc n) q
  queue_one (tree.queue name) n h = tt
  queue_one (tree.queue_at name i) (suc n) h = deep_one i n h
  queue_one (tree.queue_at name i) zero h = absurd h

  message_one : (m : MessageTree) (n : ℕ) → DeepMessage n m → DeepMessage (suc n) m
  message_one (tree.bare name) n h = tt
  message_one (tree.built b) n h = built_one b n h

  built_one : (b : BuiltTree) (n : ℕ) → DeepBuilt n b → DeepBuilt (suc n) b
  built_one (tree.nothing at) n h = tt
  built_one (tree.held at q row) (suc n) h = (queue_one q n h.0, deep_one row n h.1)
  built_one (tree.cut at m from most) (suc n) h = (message_one m n h.0, deep_one from n h.1, deep_one most n h.2)
  built_one (tree.tail at m from) (suc n) h = (message_one m n h.0, deep_one from n h.1)
  built_one (tree.join at first second) (suc n) h = (message_one first n h.0, message_one second n h.1)
  built_one (tree.held at q row) zero h = absurd h
  built_one (tree.cut at m from most) zero h = absurd h
  built_one (tree.tail at m from) zero h = absurd h
  built_one (tree.join at first second) zero h = absurd h

abbrev pub deepest : ℕ
deepest = 195

up : (P : ℕ → Type 0) → ((n : ℕ) → P n → P (suc n)) → (k n m : ℕ) → n + k ≡ m → P n → P m
up P further zero n m is h = subst P (let same : n ≡ m = omega (arith, is) in same) h
up P further (suc k) n m is h = up P further k (suc n) m (omega (arith, is)) (further n h)

raised : (P : ℕ → Type 0) → ((n : ℕ) → P n → P (suc n)) → (n : ℕ) → n ≤ deepest → P n → P deepest
raised P further n most h = up P further (deepest - n) n deepest (omega (arith, most)) h

deep_up : (e : ExpressionTree) (n : ℕ) → n ≤ deepest → Deep n e → Deep deepest e
deep_up e n most h = raised (λ n. Deep n e) (λ n. deep_one e n) n most h

queue_up : (q : QueueTree) (n : ℕ) → n ≤ deepest → DeepQueue n q → DeepQueue deepest q
queue_up q n most h = raised (λ n. DeepQueue n q) (λ n. queue_one q n) n most h

built_up : (b : BuiltTree) (n : ℕ) → n ≤ deepest → DeepBuilt n b → DeepBuilt deepest b
built_up b n most h = raised (λ n. DeepBuilt n b) (λ n. built_one b n) n most h

-- statements
abbrev pub DeepArgument : ArgumentTree → Type 0
DeepArgument (tree.value e) = Deep deepest e
DeepArgument (tree.content b) = DeepBuilt deepest b

abbrev pub DeepOption : Option ExpressionTree → Type 0
DeepOption None = Unit {0}
DeepOption (Some e) = Deep deepest e

abbrev pub DeepPushed : Option PushedTree → Type 0
DeepPushed None = Unit {0}
DeepPushed (Some p) = AllByRecursion DeepArgument (arguments_in p.fields)

abbrev pub DeepStatement : StatementTree → Type 0
DeepStatement (tree.bind at name value) = Deep deepest value
DeepStatement (tree.set at name index value) = DeepOption index × Deep deepest value
DeepStatement (tree.set_square at name row column value) = Deep deepest row × Deep deepest column × Deep deepest value
DeepStatement (tree.push at q items otherwise) = DeepQueue deepest q ×
    AllByRecursion DeepArgument (arguments_in (Some items))
DeepStatement (tree.take at q names block otherwise) = DeepQueue deepest q
DeepStatement (tree.when at likely condition block) = Deep deepest condition
DeepStatement (tree.choose at likely condition block otherwise) = Deep deepest condition
DeepStatement (tree.each at name below most block) = Deep deepest below
DeepStatement (tree.emit at direction kind arguments pushed) =
    AllByRecursion DeepArgument (arguments_in (Some arguments)) × DeepPushed pushed

abbrev pub DeepStanding : List Standing → Type 0
DeepStanding standing = AllByRecursion (λ s. DeepStatement s.statement) standing

more_names_walk : (ns : List Name) (room : ℕ) (k : List Printed) → Walk room (print.more_names ns k) → Walk room k
more_names_walk [] room k h = h
more_names_walk (n ∷ rest) room k h = more_names_walk rest room k h.1.1

names_walk : (ns : NamesTree) (room : ℕ) (k : List Printed) → Walk room (print.names ns k) → Walk room k
names_walk ns room k h = more_names_walk ns.rest room k h.1

some_names_walk : (ns : Option NamesTree) (room : ℕ) (k : List Printed) → Walk room (print.some_names ns k) →
    Walk room k
some_names_walk None room k h = h
some_names_walk (Some ns) room k h = names_walk ns room k h

argument_walk : (a : ArgumentTree) (room : ℕ) → room ≤ deepest → (k : List Printed) → Walk room (print.argument a k) →
    DeepArgument a × Walk room k
argument_walk (tree.value e) room most k h = let a = expression_walk e room k h in (deep_up e room most a.0, a.1)
argument_walk (tree.content b) room most k h = let a = built_walk b room k h in (built_up b room most a.0, a.1)

more_walk : (es : List ArgumentTree) (room : ℕ) → room ≤ deepest → (k : List Printed) →
    Walk room (print.more_arguments es k) →
    AllByRecursion DeepArgument es × Walk room k
more_walk [] room most k h = (tt, h)
more_walk (e ∷ rest) room most k h =
    let a = argument_walk e room most _ h.1 in
    let b = more_walk rest room most k a.1 in
    ((a.0, b.0), b.1)

arguments_walk : (es : ArgumentsTree) (room : ℕ) → room ≤ deepest → (k : List Printed) →
    Walk room (print.arguments es k) →
    AllByRecursion DeepArgument (arguments_in (Some es)) × Walk room k
arguments_walk es room most k h =
    let a = argument_walk es.first room most _ h in
    let b = more_walk es.rest room most k a.1 in
    ((a.0, b.0), b.1)

some_walk : (es : Option ArgumentsTree) (room : ℕ) → room ≤ deepest → (k : List Printed) →
    Walk room (print.some_arguments es k) →
    AllByRecursion DeepArgument (arguments_in es) × Walk room k
some_walk None room most k h = (tt, h)
some_walk (Some es) room most k h = arguments_walk es room most k h

pushed_walk : (p : Option PushedTree) (room : ℕ) → room ≤ deepest → (k : List Printed) → Walk room (print.pushed p k) →
    DeepPushed p × Walk room k
pushed_walk None room most k h = (tt, h)
pushed_walk (Some p) zero most k h = absurd h.1.1.1
pushed_walk (Some p) (suc room) most k h = let a = some_walk p.fields room (omega (arith, most)) _ h.1.1.1 in
    (a.0, a.1.1)

index_walk : (i : Option ExpressionTree) (room : ℕ) → room ≤ deepest → (k : List Printed) →
    Walk room (print.index i k) → DeepOption i × Walk room k
index_walk None room most k h = (tt, h)
index_walk (Some e) zero most k h = absurd h.1
index_walk (Some e) (suc room) most k h =
    let less : room ≤ deepest = omega (arith, most) in
    let a = expression_walk e room _ h.1 in
    (deep_up e room less a.0, a.1.1)

likely_walk : (l : Likely) (room : ℕ) (k : List Printed) → Walk room (print.likely l k) → Walk room k
likely_walk likely_word.First room k h = h
likely_walk likely_word.Else room k h = h.1
likely_walk likely_word.Two room k h = h.1

size_walk : (s : SizeTree) (room : ℕ) (k : List Printed) → Walk room (print.size s ∷ k) → Walk room k
size_walk (tree.fixed at n) room k h = h.1
size_walk (tree.sized n) room k h = h.1

mutual
  statement_walk : (x : StatementTree) (scope : Scope) (room : ℕ) → room ≤ deepest → (k : List Printed) →
      Walk room (print.statement x k) →
      DeepStatement x × DeepStanding (standing_inside scope x) × Walk room k
  statement_walk (tree.bind at n value) scope room most k h =
      let a = expression_walk value room _ h.1.1.1 in (deep_up value room most a.0, tt, a.1.1)
  statement_walk (tree.set at n i value) scope room most k h =
      let a = index_walk i room most _ h.1.1 in
      let b = expression_walk value room _ a.1.1 in
      ((a.0, deep_up value room most b.0), tt, b.1.1)
  statement_walk (tree.set_square at n i j value) scope zero most k h = absurd h.1.1.1
  statement_walk (tree.set_square at n i j value) scope (suc room) most k h =
      let less : room ≤ deepest = omega (arith, most) in
      let a = expression_walk i room _ h.1.1.1 in
      let b = expression_walk j room _ a.1.1.1 in
      let c = expression_walk value (suc room) _ b.1.1.1 in
      ((deep_up i room less a.0, deep_up j room less b.0, deep_up value (suc room) most c.0), tt, c.1.1)
  statement_walk (tree.push at q items otherwise) scope zero most k h = absurd (queue_walk q zero _ h.1).1.1
  statement_walk (tree.push at q items otherwise) scope (suc room) most k h =
      let less : room ≤ deepest = omega (arith, most) in
      let a = queue_walk q (suc room) _ h.1 in
      let b = arguments_walk items room less _ a.1.1 in
      let c = block_walk otherwise scope room less _ b.1.1.1.1 in
      ((queue_up q (suc room) most a.0, b.0), c.0, c.1.1)
  statement_walk (tree.take at q ns first otherwise) scope zero most k h = absurd (queue_walk q zero _ h.1).1.1
  statement_walk (tree.take at q ns first otherwise) scope (suc room) most k h =
      let less : room ≤ deepest = omega (arith, most) in
      let a = queue_walk q (suc room) _ h.1 in
      let b = block_walk first (taken_scope scope q ns) room less _ (names_walk ns room _ a.1.1).1.1 in
      let c = block_walk otherwise scope room less _ b.1.1.1.1 in (
        queue_up q (suc room) most a.0,
        each_append _ (standing_in (taken_scope scope q ns) first) (standing_in scope otherwise) b.0 c.0,
        c.1.1,
      )
  statement_walk (tree.when at l condition first) scope zero most k h =
      absurd (expression_walk condition zero _ (likely_walk l zero _ h.1)).1.1
  statement_walk (tree.when at l condition first) scope (suc room) most k h =
      let less : room ≤ deepest = omega (arith, most) in
      let a = expression_walk condition (suc room) _ (likely_walk l (suc room) _ h.1) in
      let b = block_walk first scope room less _ a.1.1 in
      (deep_up condition (suc room) most a.0, b.0, b.1.1)
  statement_walk (tree.choose at l condition first otherwise) scope zero most k h =
      absurd (expression_walk condition zero _ (likely_walk l zero _ h.1)).1.1
  statement_walk (tree.choose at l condition first otherwise) scope (suc room) most k h =
      let less : room ≤ deepest = omega (arith, most) in
      let a = expression_walk condition (suc room) _ (likely_walk l (suc room) _ h.1) in
      let b = block_walk first scope room less _ a.1.1 in
      let c = block_walk otherwise scope room less _ b.1.1.1.1 in (
        deep_up condition (suc room) most a.0,
        each_append _ (standing_in scope first) (standing_in scope otherwise) b.0
            c.0,
        c.1.1,
      )
  statement_walk (tree.each at n below many body) scope zero most k h =
      absurd (size_walk many zero (plain sign.LeftBrace ∷ print.statements body (plain sign.RightBrace ∷ k))
      (expression_walk below zero _ h.1.1.1).1.1).1
  statement_walk (tree.each at n below many body) scope (suc room) most k h =
      let less : room ≤ deepest = omega (arith, most) in
      let a = expression_walk below (suc room) _ h.1.1.1 in
      let b = block_walk body (with_locals scope (locals_as [] (n ∷ []))) room less _
      (size_walk many (suc room) (plain sign.LeftBrace ∷ print.statements body (plain sign.RightBrace ∷ k)) a.1.1).1 in
      (deep_up below (suc room) most a.0, b.0, b.1.1)
  statement_walk (tree.emit at direction what es p) scope zero most k h =
      absurd (pass (token.Sign (direction_sign direction)) zero
      (λ n. Walk n (printed.kind what ∷ print_open (print.arguments es (print_close
      (print.pushed p (plain sign.Semicolon ∷ k)))))) (direction_room direction zero) h.1).1.1
  statement_walk (tree.emit at direction what es p) scope (suc room) most k h =
      let less : room ≤ deepest = omega (arith, most) in
      let a = arguments_walk es room less _ (pass (token.Sign (direction_sign direction)) (suc room)
      (λ n. Walk n (printed.kind what ∷
      print_open (print.arguments es (print_close (print.pushed p (plain sign.Semicolon ∷ k))))))
      (direction_room direction (suc room)) h.1).1.1 in
      let b = pushed_walk p (suc room) most _ a.1.1 in
      ((a.0, b.0), tt, b.1.1)

  block_walk : (xs : StatementTrees) (scope : Scope) (room : ℕ) → room ≤ deepest → (k : List Printed) →
      Walk room (print.statements xs k) →
      DeepStanding (standing_in scope xs) × Walk room k
  block_walk tree.none scope room most k h = (tt, h)
  block_walk (tree.more x rest) scope room most k h =
      let a = statement_walk x scope room most _ h in
      let b = block_walk rest (scope_after scope x) room most k a.2 in
      ((a.0, each_append _ (standing_inside scope x) (standing_in (scope_after scope x) rest) a.1 b.0), b.1)

popped_walk : (p : Option PoppedTree) (room : ℕ) (k : List Printed) → Walk room (print.popped p k) → Walk room k
popped_walk None room k h = h
popped_walk (Some p) zero k h = absurd h.1.1.1
popped_walk (Some p) (suc room) k h = (some_names_walk p.fields room _ h.1.1.1).1

abbrev pub DeepExpected : Expected → Type 0
DeepExpected (tree.common condition) = Deep deepest condition
DeepExpected _ = Unit {0}

expected_walk : (x : Expected) (room : ℕ) → room ≤ deepest → (k : List Printed) → Walk room (print.expected x k) →
    DeepExpected x × Walk room k
expected_walk tree.always room most k h = (tt, h)
expected_walk (tree.common condition) room most k h = let a = expression_walk condition room k h.1 in
    (deep_up condition room most a.0, a.1)
expected_walk tree.rare room most k h = (tt, h.1)

abbrev pub DeepHandler : LayerTree → HandlerTree → Type 0
DeepHandler l h = DeepExpected h.expected × DeepStanding (handler_statements l h)

handlers_walk : (l : LayerTree) (hs : List HandlerTree) (room : ℕ) → suc room ≤ deepest → (k : List Printed) →
    Walk (suc room) (print.handlers hs k) →
    AllByRecursion (DeepHandler l) hs × Walk (suc room) k
handlers_walk l [] room most k h = (tt, h)
handlers_walk l (x ∷ rest) room most k h =
    let less : room ≤ deepest = omega (arith, most) in
    let rest_of = print.popped x.popped (print.expected x.expected (print.block x.block (print.handlers rest k))) in
    let opened = pass (token.Sign (direction_sign x.direction)) (suc room)
    (λ n. Walk n (printed.kind x.kind ∷ print_open (print.names x.names (print_close rest_of))))
    (direction_room x.direction (suc room)) h.1 in
    let a = expected_walk x.expected (suc room) most _
    (popped_walk x.popped (suc room) _ (names_walk x.names room _ opened.1.1).1) in
    let b = block_walk x.block (head_scope l x) room less _ a.1.1 in
    let c = handlers_walk l rest room most k b.1.1 in
    (((a.0, b.0), c.0), c.1)

-- declarations
shape_walk : (s : Shape) (room : ℕ) (k : List Printed) → Walk (suc room) (print.shape s k) → Walk (suc room) k
shape_walk One room k h = h
shape_walk Array room k h = h.1.1.1
shape_walk Square room k h = h.1.1.1.1.1

initial_walk : (e : Option ExpressionTree) (room : ℕ) (k : List Printed) → Walk room (print.initial e k) → Walk room k
initial_walk None room k h = h
initial_walk (Some e) room k h = (expression_walk e room k h.1).1

abbrev NamesItem : ItemTree → Type 0
NamesItem i = IsName i.name.word

more_items_walk : (is : List ItemTree) (room : ℕ) (k : List Printed) → Walk room (print.more_items is k) →
    AllByRecursion NamesItem is × Walk room k
more_items_walk [] room k h = (tt, h)
more_items_walk (i ∷ rest) room k h =
    let a = more_items_walk rest room k
    (pass (token.Sign (sort_sign i.sort)) room (λ n. Walk n (print.more_items rest k))
    (sort_room i.sort room) h.1.1.1.1) in
    ((h.1.0, a.0), a.1)

rows_walk : (capacity : SizeTree) (is : ItemsTree) (room : ℕ) (k : List Printed) →
    Walk (suc room) (print.rows capacity is k) →
    AllByRecursion NamesItem (items_in is) × Walk (suc room) k
rows_walk capacity is room k h =
    let after_size = plain sign.RightBracket ∷ plain sign.Of ∷ plain sign.LeftParen ∷
    print.item is.first (print.more_items is.rest (plain sign.RightParen ∷ plain sign.Semicolon ∷ k)) in
    let inner = size_walk capacity room after_size h.1 in
    let item_is = inner.1.1.1 in
    let closing = print.more_items is.rest (plain sign.RightParen ∷ plain sign.Semicolon ∷ k) in
    let a = more_items_walk is.rest room _ (pass (token.Sign (sort_sign is.first.sort)) room (λ n. Walk n closing)
    (sort_room is.first.sort room) item_is.1.1.1) in
    ((item_is.0, a.0), a.1.1.1)

abbrev pub NamesDeclaration : DeclarationTree → Type 0
NamesDeclaration (tree.rows_cell at name capacity items) = IsName name.word × AllByRecursion NamesItem (items_in items)
NamesDeclaration (tree.rows_array at name capacity items) = IsName name.word × AllByRecursion NamesItem (items_in items)
NamesDeclaration d = IsName (declared_name d).word

declaration_walk : (d : DeclarationTree) (room : ℕ) (k : List Printed) → Walk (suc room) (print.declaration d k) →
    NamesDeclaration d × Walk (suc room) k
declaration_walk (tree.param at n value) room k h = (h.1.0, h.1.1.1.1.1)
declaration_walk (tree.int at n s value) room k h =
    let a = initial_walk value (suc room) _ (shape_walk s room _ h.1.1.1) in (h.1.1.0, a.1)
declaration_walk (tree.rows_cell at n capacity is) room k h = let a = rows_walk capacity is room k h.1.1.1 in
    ((h.1.1.0, a.0), a.1)
declaration_walk (tree.rows_array at n capacity is) room k h = let a = rows_walk capacity is room k h.1.1.1.1.1.1 in
    ((h.1.1.0, a.0), a.1)
declaration_walk (tree.header at n fields ending) room k h =
    let a = some_names_walk fields room _ h.1.1.1 in (
      h.1.0,
      (pass (token.Sign (ending_sign ending)) (suc room) (λ n. Walk n (plain sign.Semicolon ∷ k))
          (ending_room ending (suc room)) a.1.1).1,
    )

declarations_walk : (ds : List DeclarationTree) (room : ℕ) (k : List Printed) →
    Walk (suc room) (print.declarations ds k) →
    AllByRecursion NamesDeclaration ds × Walk (suc room) k
declarations_walk [] room k h = (tt, h)
declarations_walk (d ∷ rest) room k h =
    let a = declaration_walk d room _ h in
    let b = declarations_walk rest room k a.1 in
    ((a.0, b.0), b.1)

-- layers
pub record WalkedLayer (l : LayerTree) : Type 0 where
  pub name : IsName l.name.word
  pub declarations_are : AllByRecursion NamesDeclaration l.declarations
  pub handlers_are : AllByRecursion (DeepHandler l) l.handlers

pub layer_walk : (l : LayerTree) (room : ℕ) → suc (suc room) ≤ deepest → (k : List Printed) →
    Walk (suc (suc room)) (print.layer l k) →
    WalkedLayer l × Walk (suc (suc room)) k
layer_walk l room most k h =
    let less : suc room ≤ deepest = omega (arith, most) in
    let a = declarations_walk l.declarations room _ h.1.1.1 in
    let b = handlers_walk l l.handlers room less _ a.1 in
    (record { name = h.1.0; declarations_are = a.0; handlers_are = b.0 }, b.1.1)

pub layers_walk : (ls : List LayerTree) (room : ℕ) → suc (suc room) ≤ deepest → (k : List Printed) →
    Walk (suc (suc room)) (print.layers ls k) →
    AllByRecursion WalkedLayer ls
layers_walk [] room most k h = tt
layers_walk (l ∷ rest) room most k h = let a = layer_walk l room most _ h in (a.0, layers_walk rest room most k a.1)
