-- What a token or a comment is for the layout.
use Rattle.std.specs.Prelude.{ℕ, Bool, true, false, ◌||◌, nat_eq, if◌then◌else◌, List, [], ◌∷◌, codes}
use Rattle.std.specs.List.{list_any}
use Rattle.std.specs.Str.{bytes_eq}
use Rattle.layer_words.specs.Spelling.{is_word_byte}
use Rattle.format_mean.specs.declared.stand.Class.{Class}
use Rattle.format_mean.specs.declared.stand.Class.TheVariants as class

-- whether a word is one of these
abbrev pub is_one_of : List ℕ → List (List ℕ) → Bool
is_one_of word listed = list_any (λ w. bytes_eq word w) listed

-- the words with which a declaration begins
abbrev pub declaring : List (List ℕ)
declaring = codes "param" ∷ codes "state" ∷ codes "header" ∷ []

-- the words of the two directions
abbrev pub going : List (List ℕ)
going = codes "up" ∷ codes "down" ∷ []

-- the words after which a queue is named
abbrev pub queueing : List (List ℕ)
queueing = codes "push" ∷ codes "take" ∷ []

-- the words from which a parenthesis stands apart
abbrev pub apart : List (List ℕ)
apart =
    codes "if" ∷ codes "rare" ∷ codes "two" ∷ codes "common" ∷ codes "below" ∷ codes "of" ∷ codes "and" ∷ codes "or" ∷
    []

-- the class of a word
abbrev pub word_class : List ℕ → Class
word_class word =
    if bytes_eq word (codes "layer") then class.Layer
    else if bytes_eq word (codes "stack") then class.Stack
    else if is_one_of word declaring then class.Declaring
    else if is_one_of word going then class.Going
    else if is_one_of word queueing then class.Queueing
    else if is_one_of word apart then class.Apart
    else class.Plain

-- the class of a comment or a sign, by its first byte
abbrev pub sign_class : ℕ → Class
sign_class b =
    if nat_eq b 35 then class.Remark
    else if nat_eq b 123 then class.Opening
    else if nat_eq b 125 then class.Closing
    else if nat_eq b 40 then class.Parenthesis
    else if nat_eq b 91 then class.Bracket
    else if nat_eq b 46 then class.Dot
    else if nat_eq b 59 then class.Semicolon
    else if nat_eq b 44 || (nat_eq b 41 || (nat_eq b 93 || nat_eq b 58)) then class.Tight
    else class.Apart

-- the class of a token or comment, by its spelling
abbrev pub class_of : List ℕ → Class
class_of [] = class.Apart
class_of (b ∷ bs) = if is_word_byte b then word_class (b ∷ bs) else sign_class b

-- whether nothing stands apart after this: ( [ .
abbrev pub holds_next : Class → Bool
holds_next class.Parenthesis = true
holds_next class.Bracket = true
holds_next class.Dot = true
holds_next _ = false

-- whether this stands apart from nothing before it: ; , ) ] : . [
abbrev pub holds_last : Class → Bool
holds_last class.Semicolon = true
holds_last class.Tight = true
holds_last class.Dot = true
holds_last class.Bracket = true
holds_last _ = false

-- whether a token is a word that is called where a parenthesis follows
abbrev pub calls : Class → Class → Bool
calls class.Plain class.Parenthesis = true
calls _ _ = false

-- whether no blank stands between two tokens
abbrev pub are_joined : Class → Class → Bool
are_joined last next = holds_next last || (holds_last next || calls last next)

-- whether a statement or declaration may begin after this
abbrev pub ends_statement : Class → Bool
ends_statement class.Opening = true
ends_statement class.Closing = true
ends_statement class.Semicolon = true
ends_statement class.Remark = true
ends_statement _ = false

-- whether this is a brace
abbrev pub is_brace : Class → Bool
is_brace class.Opening = true
is_brace class.Closing = true
is_brace _ = false

-- what a token counts as for the next one: a queue that is pushed to or taken from isn't called
abbrev pub seen_after : Class → Class → Class
seen_after class.Queueing class.Plain = class.Apart
seen_after _ next = next
