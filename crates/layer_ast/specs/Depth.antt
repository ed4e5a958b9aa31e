-- How deep the brackets of a list of tokens are nested: braces, parentheses and square brackets together.
use Rattle.std.specs.Prelude.{ℕ, zero, suc, List, [], ◌∷◌, Option, Some, None}
use Rattle.layer_words.specs.declared.signs.Sign.TheVariants.{LeftBrace, RightBrace, LeftParen, RightParen, LeftBracket}
use Rattle.layer_words.specs.declared.signs.Sign.TheVariants.{RightBracket}
use Rattle.layer_ast.specs.declared.tokens.Token.{Token}
use Rattle.layer_ast.specs.declared.tokens.Token.TheVariants as token

-- the room that is left when a bracket opens, where there is room
abbrev pub room_inside : ℕ → Option ℕ
room_inside zero = None
room_inside (suc room) = Some room

-- the room for further brackets after a token: an opening bracket takes one place and a closing one gives it back
abbrev pub room_after : Token → ℕ → Option ℕ
room_after (token.Sign LeftBrace) room = room_inside room
room_after (token.Sign LeftParen) room = room_inside room
room_after (token.Sign LeftBracket) room = room_inside room
room_after (token.Sign RightBrace) room = Some (suc room)
room_after (token.Sign RightParen) room = Some (suc room)
room_after (token.Sign RightBracket) room = Some (suc room)
room_after _ room = Some room

-- a fact of the room that is left, which there must be
abbrev pub WithRoom : Option ℕ → (ℕ → Type 0) → Type 0
WithRoom None P = ⊥
WithRoom (Some room) P = P room

-- no more brackets are open at once than there is room for
abbrev pub IsWithin : ℕ → List Token → Type 0
IsWithin room [] = Unit {0}
IsWithin room (t ∷ tokens) = WithRoom (room_after t room) (λ left. IsWithin left tokens)
