-- The tokens that a tree is printed as.
use Rattle.std.specs.Prelude.{ℕ, List, Option, Some, None, filter_map}
use Rattle.layer_ast.specs.declared.names.Name.{Name}
use Rattle.layer_ast.specs.declared.syntax.Ending.{Ending}
use Rattle.layer_ast.specs.declared.syntax.Ending.TheVariants.{Passes, Ends}
use Rattle.layer_ast.specs.declared.tokens.Token.{Token}
use Rattle.layer_ast.specs.declared.tokens.Token.TheVariants as token
use Rattle.layer_words.specs.declared.events.Kind.{Kind}
use Rattle.layer_words.specs.declared.places.At.{At}
use Rattle.layer_words.specs.declared.signs.Sign.{Sign}
use Rattle.layer_words.specs.declared.signs.Sign.TheVariants as sign

-- a token of a tree, and where it stands if the tree says so
pub record Printed : Type 0 where
  pub token : Token
  pub at : Option At

-- the places that printed tokens say, in order
abbrev pub marks : List Printed → List At
marks = filter_map (λ p. p.at)

-- a sign that the tree keeps no place of
abbrev pub plain : Sign → Printed
plain s = record { token = token.Sign s; at = None }

-- a sign that the tree keeps the place of
abbrev pub placed_sign : Sign → At → Printed
placed_sign s at = record { token = token.Sign s; at = Some at }

-- a number that the tree keeps the place of
abbrev pub numeral : ℕ → At → Printed
numeral value at = record { token = token.Number value; at = Some at }

-- a number that the tree keeps no place of
abbrev pub plain_numeral : ℕ → Printed
plain_numeral value = record { token = token.Number value; at = None }

-- the token of a name
abbrev pub name : Name → Printed
name n = record { token = token.Name n.word; at = Some n.at }

-- the token of a kind
abbrev pub kind : Kind → Printed
kind k = record { token = token.Kind k; at = None }

-- the word that says whether the headers of the layers above follow a header
abbrev pub ending_sign : Ending → Sign
ending_sign Passes = sign.Passes
ending_sign Ends = sign.Ends
