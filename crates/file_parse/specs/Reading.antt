-- What a reader of a part of a file does: it reads the tokens of one tree before others, as the machine does, or
-- stops where the machine refuses.
use Rattle.std.specs.Prelude.{◌≡◌, ◌≢◌, ◌<◌, ℕ, Bool, true, false, suc, ◌≤◌, List, [], ◌∷◌, ◌++◌, length, Option, Some}
use Rattle.std.specs.Prelude.{None, Result, Ok, Err}
use Rattle.std.specs.Borrow.{Bor}
use Rattle.layer_ast.specs.declared.tokens.Lexed.{Lexed}
use Rattle.layer_words.specs.declared.signs.Sign.{Sign}
use Rattle.layer_words.specs.declared.signs.Sign.TheVariants.{Stack, LeftBrace, RightBrace, LeftParen, RightParen}
use Rattle.layer_words.specs.declared.signs.Sign.TheVariants.{LeftBracket, RightBracket, Comma, With, Star, Assign}
use Rattle.layer_words.specs.declared.signs.Sign.TheVariants.{Else}
use Rattle.layer_ast.specs.declared.tokens.Token.TheVariants as token
use Rattle.layer_ast.specs.Depth.{room_after}
use Rattle.layer_ast.specs.Print.{file, layer, places as print_places}
use Rattle.layer_ast.specs.Printed.{Printed, plain}
use Rattle.layer_ast.specs.Spells.{Fits, HasPlace}
use Rattle.layer_ast.specs.Tree.{LayerTree, PlaceTree, FileTree}
use Rattle.layer_ast.specs.View.{file_tree}
use Rattle.layer_ast.specs.declared.syntax.File.{File}
use Rattle.grammar_laws.specs.Machine.{Symbol, one, an_index, a_shape, a_square, an_initial, more_arguments, more_names}
use Rattle.grammar_laws.specs.Machine.{more_items, more_given, some_given, a_pushed, a_popped, an_otherwise, a_place}
use Rattle.grammar_laws.specs.Machine.{places, accepted, refused, feed, step, run, start}
use Rattle.grammar_laws.specs.After.{Stands}
use Rattle.file_parse.specs.declared.readers.Fault.{Fault}
use Rattle.file_parse.specs.declared.readers.Fault.TheVariants.{Refused, Memory}

-- the tokens are those of a tree, printed in this way, and then the rest; the machine expects these symbols and goes on
-- after the tree
pub record Reads {T : Type 0} (print : T → List Printed → List Printed) (expected : List Symbol) (room : ℕ)
    (tokens : List Lexed)
    (tree : T) (rest : List Lexed) : Type 0 where
  pub spelled : (k : List Printed) → Fits k rest → Fits (print tree k) tokens
  pub goes_on : (stack : List Symbol) → run room (expected ++ stack) tokens ≡ run room stack rest
  pub no_longer : length rest ≤ length tokens

-- the machine expects these symbols and refuses with n tokens left
pub record Stops (expected : List Symbol) (room : ℕ) (tokens : List Lexed) (n : ℕ) : Type 0 where
  pub stops : (stack : List Symbol) → run room (expected ++ stack) tokens ≡ refused n

-- what a reader answers where the machine expects these symbols
abbrev pub ParsesAll : {A T : Type 0} → (T → List Printed → List Printed) → (A → T) → List Symbol → ℕ → List Lexed →
    Result (A × Bor (List Lexed)) Fault → Type 0
ParsesAll print view expected room tokens (Ok r) = Reads print expected room tokens (view r.0) r.1.now
ParsesAll print view expected room tokens (Err Memory) = Unit {0}
ParsesAll print view expected room tokens (Err (Refused n)) = Stops expected room tokens n

-- what a reader answers where the machine expects this symbol
abbrev pub Parses : {A T : Type 0} → (T → List Printed → List Printed) → (A → T) → Symbol → ℕ → List Lexed →
    Result (A × Bor (List Lexed)) Fault → Type 0
Parses print view s room tokens result = ParsesAll print view (s ∷ []) room tokens result

-- the tokens are those of a tree with no brackets in it, or of a single sign, and then the rest; the machine expects
-- these symbols and goes on after the tree, with its room changed in this way
pub record ReadsFlat {T : Type 0} (print : T → List Printed → List Printed) (expected : List Symbol) (change : ℕ → ℕ)
    (tokens : List Lexed) (tree : T) (rest : List Lexed) : Type 0 where
  pub spelled : (k : List Printed) → Fits k rest → Fits (print tree k) tokens
  pub goes_on : (room : ℕ) (stack : List Symbol) → run room (expected ++ stack) tokens ≡ run (change room) stack rest
  pub no_longer : length rest ≤ length tokens

-- the machine refuses, whatever room there is
pub record StopsFlat (expected : List Symbol) (tokens : List Lexed) (n : ℕ) : Type 0 where
  pub stops : (room : ℕ) (stack : List Symbol) → run room (expected ++ stack) tokens ≡ refused n

-- what a reader of a part with no brackets in it answers where the machine expects these symbols
abbrev pub ParsesAllFlat : {A T : Type 0} → (T → List Printed → List Printed) → (A → T) → List Symbol → List Lexed →
    Result (A × Bor (List Lexed)) Fault → Type 0
ParsesAllFlat print view expected tokens (Ok r) = ReadsFlat print expected (λ room. room) tokens (view r.0) r.1.now
ParsesAllFlat print view expected tokens (Err Memory) = Unit {0}
ParsesAllFlat print view expected tokens (Err (Refused n)) = StopsFlat expected tokens n

-- what a reader of a part with no brackets in it answers where the machine expects this symbol
abbrev pub ParsesFlat : {A T : Type 0} → (T → List Printed → List Printed) → (A → T) → Symbol → List Lexed →
    Result (A × Bor (List Lexed)) Fault → Type 0
ParsesFlat print view s tokens result = ParsesAllFlat print view (s ∷ []) tokens result

-- what a reader of one token that is no bracket answers
abbrev pub ParsesOne : {T : Type 0} → (T → Printed) → Symbol → List Lexed → Result (T × Bor (List Lexed)) Fault → Type 0
ParsesOne print s tokens (Ok r) = ReadsFlat (λ t k. print t ∷ k) (s ∷ []) (λ room. room) tokens r.0 r.1.now
ParsesOne print s tokens (Err Memory) = ⊥
ParsesOne print s tokens (Err (Refused n)) = StopsFlat (s ∷ []) tokens n

-- what a reader of a given sign that is no opening bracket answers
abbrev pub ParsesSign : (ℕ → ℕ) → Sign → List Lexed → Result (Bor (List Lexed)) Fault → Type 0
ParsesSign change s tokens (Ok rest) = ReadsFlat (λ p k. p ∷ k) (one s ∷ []) change tokens (plain s) rest.now
ParsesSign change s tokens (Err Memory) = ⊥
ParsesSign change s tokens (Err (Refused n)) = StopsFlat (one s ∷ []) tokens n

-- an opening bracket was read, for which there was room
pub record ReadsOpening (s : Sign) (room : ℕ) (tokens : List Lexed) (inside : ℕ) (rest : List Lexed) : Type 0 where
  pub spelled : (k : List Printed) → Fits k rest → Fits (plain s ∷ k) tokens
  pub goes_on : (stack : List Symbol) → run room (one s ∷ stack) tokens ≡ run inside stack rest
  pub within : room ≡ suc inside
  pub shorter : suc (length rest) ≡ length tokens

-- what a reader of an opening bracket answers
abbrev pub ParsesOpening : Sign → ℕ → List Lexed → Result (ℕ × Bor (List Lexed)) Fault → Type 0
ParsesOpening s room tokens (Ok r) = ReadsOpening s room tokens r.0 r.1.now
ParsesOpening s room tokens (Err Memory) = ⊥
ParsesOpening s room tokens (Err (Refused n)) = Stops (one s ∷ []) room tokens n

-- a sign is the next token, and the machine steps over it
pub record Passes (s : Sign) (tokens rest : List Lexed) : Type 0 where
  pub spelled : (k : List Printed) → Fits k rest → Fits (plain s ∷ k) tokens
  pub steps : (room : ℕ) (expected : Symbol) (stack : List Symbol) →
      run room (expected ∷ stack) tokens
      ≡ step (room_after (token.Sign s) room) (feed (expected ∷ stack) (token.Sign s)) (length tokens)
      (λ left stack. run left stack rest)
  pub shorter : suc (length rest) ≡ length tokens

-- the machine leaves a symbol out
pub record LeavesOut (s : Symbol) (tokens : List Lexed) : Type 0 where
  pub goes_on : (room : ℕ) (stack : List Symbol) → run room (s ∷ stack) tokens ≡ run room stack tokens

-- the optional parts that begin with a sign, and that sign
abbrev pub IsOptional : Sign → Symbol → Type 0
IsOptional LeftBracket an_index = Unit {0}
IsOptional LeftBracket a_shape = Unit {0}
IsOptional LeftParen some_given = Unit {0}
IsOptional Comma more_arguments = Unit {0}
IsOptional Comma more_names = Unit {0}
IsOptional Comma more_items = Unit {0}
IsOptional Comma more_given = Unit {0}
IsOptional With a_pushed = Unit {0}
IsOptional With a_popped = Unit {0}
IsOptional Else an_otherwise = Unit {0}
IsOptional Star a_square = Unit {0}
IsOptional Assign an_initial = Unit {0}
IsOptional _ _ = ⊥

-- a sign is not the next token, and the machine leaves out each optional part that begins with it
pub record Unseen (s : Sign) (tokens : List Lexed) : Type 0 where
  pub goes_on : (optional : Symbol) → IsOptional s optional → (room : ℕ) (stack : List Symbol) →
      run room (optional ∷ stack) tokens ≡ run room stack tokens

-- what a test for an optional part answers: the tokens after its sign, or that the sign is not next
abbrev pub SeesSign : Sign → List Lexed → Option (Bor (List Lexed)) → Type 0
SeesSign s tokens (Some rest) = Passes s tokens rest.now
SeesSign s tokens None = Unseen s tokens

-- the machine expects these symbols in place of one
pub record Begins (s : Symbol) (expected : List Symbol) (tokens : List Lexed) : Type 0 where
  pub begins : (room : ℕ) (stack : List Symbol) → run room (s ∷ stack) tokens ≡ run room (expected ++ stack) tokens

-- what a test for an optional or a repeated part answers, given what the machine expects where the part begins
abbrev pub SeesPart : Symbol → List Symbol → List Lexed → Bool → Type 0
SeesPart s expected tokens true = Begins s expected tokens
SeesPart s expected tokens false = LeavesOut s tokens

-- what a test answers for a part that stands in one of two forms, given what the machine expects of each in its place
abbrev pub SeesOneOf : Symbol → List Symbol → List Symbol → List Lexed → Bool → Type 0
SeesOneOf s expected other tokens true = Begins s expected tokens
SeesOneOf s expected other tokens false = Begins s other tokens

-- these are the parts so far of a repetition, and the machine goes on with the repetition after them
pub record Gathers {T : Type 0} (print : T → List Printed → List Printed) (s : Symbol) (room : ℕ) (tokens : List Lexed)
    (tree : T)
    (rest : List Lexed) : Type 0 where
  pub spelled : (k : List Printed) → Fits k rest → Fits (print tree k) tokens
  pub goes_on : (stack : List Symbol) → run room (s ∷ stack) tokens ≡ run room (s ∷ stack) rest
  pub no_longer : length rest ≤ length tokens

-- these are the parts so far of a repetition, and the machine, which first expects these symbols, goes on with the
-- repetition after them
pub record GathersAfter {T : Type 0} (print : T → List Printed → List Printed) (expected : List Symbol) (s : Symbol)
    (room : ℕ)
    (tokens : List Lexed) (tree : T) (rest : List Lexed) : Type 0 where
  pub spelled : (k : List Printed) → Fits k rest → Fits (print tree k) tokens
  pub goes_on : (stack : List Symbol) → run room (expected ++ stack) tokens ≡ run room (s ∷ stack) rest
  pub no_longer : length rest ≤ length tokens

-- these are the parts so far, with no brackets in them, of a repetition; the machine, which first expects these
-- symbols, goes on with the repetition after them, whatever room there is
pub record GathersFlat {T : Type 0} (print : T → List Printed → List Printed) (expected : List Symbol) (s : Symbol)
    (tokens : List Lexed) (tree : T) (rest : List Lexed) : Type 0 where
  pub spelled : (k : List Printed) → Fits k rest → Fits (print tree k) tokens
  pub goes_on : (room : ℕ) (stack : List Symbol) → run room (expected ++ stack) tokens ≡ run room (s ∷ stack) rest
  pub no_longer : length rest ≤ length tokens

-- what the test for room answers after an opening bracket
abbrev pub EntersBracket : ℕ → List Lexed → Result ℕ Fault → Type 0
EntersBracket room tokens (Ok inside) = room ≡ suc inside
EntersBracket room tokens (Err Memory) = ⊥
EntersBracket room tokens (Err (Refused n)) = (room ≡ 0) × (n ≡ suc (length tokens))

-- a sign that is no bracket
abbrev pub IsPlain : Sign → Type 0
IsPlain LeftBrace = ⊥
IsPlain RightBrace = ⊥
IsPlain LeftParen = ⊥
IsPlain RightParen = ⊥
IsPlain LeftBracket = ⊥
IsPlain RightBracket = ⊥
IsPlain _ = Unit {0}

-- a bracket that opens
abbrev pub IsOpening : Sign → Type 0
IsOpening LeftBrace = Unit {0}
IsOpening LeftParen = Unit {0}
IsOpening LeftBracket = Unit {0}
IsOpening _ = ⊥

-- a bracket that closes
abbrev pub IsClosing : Sign → Type 0
IsClosing RightBrace = Unit {0}
IsClosing RightParen = Unit {0}
IsClosing RightBracket = Unit {0}
IsClosing _ = ⊥

-- a whole file was read, without the layers that the library brings
pub record ReadsFile (tokens : List Lexed) (f : FileTree) : Type 0 where
  pub fits : Fits (file f) tokens
  pub accepts : run 100 start tokens ≡ accepted
  pub placed : HasPlace f

-- what the reader of a whole file answers
abbrev pub ParsesFile : List Lexed → Result File Fault → Type 0
ParsesFile tokens (Ok f) = ReadsFile tokens (file_tree f)
ParsesFile tokens (Err Memory) = Unit {0}
ParsesFile tokens (Err (Refused n)) = run 100 start tokens ≡ refused n

-- what the machine expects after the layers of a file
abbrev pub last_part : List Symbol
last_part = one Stack ∷ one LeftBrace ∷ a_place ∷ places ∷ one RightBrace ∷ []

-- the stack at the end of a file
abbrev pub print_stack : List PlaceTree → List Printed
print_stack ps = plain Stack ∷ plain LeftBrace ∷ print_places ps (plain RightBrace ∷ [])

-- the stack at the end of a file was read
pub record ReadsStack (tokens : List Lexed) (ps : List PlaceTree) : Type 0 where
  pub fits : Fits (print_stack ps) tokens
  pub accepts : run 100 last_part tokens ≡ accepted
  pub some : ps ≢ []

-- what the reader of that stack answers
abbrev pub ParsesStack : {A : Type 0} → (A → List PlaceTree) → List Lexed → Result A Fault → Type 0
ParsesStack view tokens (Ok ps) = ReadsStack tokens (view ps)
ParsesStack view tokens (Err Memory) = Unit {0}
ParsesStack view tokens (Err (Refused n)) = run 100 last_part tokens ≡ refused n

-- tokens are a layer
pub record IsLayer (tokens : List Lexed) (l : LayerTree) : Type 0 where
  pub stands : Stands 100 (layer l []) tokens
  pub some : 0 < length tokens

-- tokens are the stack at the end of a file
pub record IsStack (tokens : List Lexed) (ps : List PlaceTree) : Type 0 where
  pub stands : Stands 100 (print_stack ps) tokens
  pub some : ps ≢ []
