-- What a message is: a chain of headers before a body.
use Rattle.std.specs.Prelude.{ℕ, List, [], ◌∷◌, Option, Some, None}
use Rattle.msg_core.specs.declared.message.Header.{Header}

-- A message is its headers, the lowest layer's first, and its bytes (Hayden's header push and pop).
pub record Content : Type 0 where
  pub headers : List Header
  pub body : List ℕ

-- A message of these bytes alone.
abbrev pub plain : List ℕ → Content
plain bytes = record { headers = []; body = bytes }

-- A message with one more header before its others.
abbrev pub pushed : Header → Content → Content
pushed h m = record { headers = h ∷ m.headers; body = m.body }

-- The first of a list, if it has one.
abbrev pub first_of : List Header → Option Header
first_of [] = None
first_of (h ∷ hs) = Some h

-- A list without its first.
abbrev pub rest_of : List Header → List Header
rest_of [] = []
rest_of (h ∷ hs) = hs

-- A message without its first header; one that has none stays as it is.
abbrev pub popped : Content → Content
popped m = record { headers = rest_of m.headers; body = m.body }
