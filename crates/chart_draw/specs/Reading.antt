-- What the readers of words and lines answer, and what their values are in the definitions.
use Rattle.std.specs.Prelude.{◌≡◌, ℕ, List, Option, Some, None, option_map, map}
use Rattle.std.specs.Prelude.{Result, Ok, Err}
use Rattle.std.specs.declared.alloc.Global.{Global}
use Rattle.std.specs.declared.vec.Vec.{Vec}
use Rattle.hex.specs.declared.error.FromHexError.{FromHexError}
use Rattle.script_mean.specs.Words.{Word}
use Rattle.script_text.specs.Parts.{parts_after}
use Rattle.chart_mean.specs.Says as spec
use Rattle.chart_mean.specs.Place as place
use Rattle.chart_mean.specs.Words as words
use Rattle.chart_mean.specs.Excerpt as excerpts
use Rattle.chart_mean.specs.Mark as marks
use Rattle.chart_draw.specs.declared.pieces.Pieces.{Pieces}
use Rattle.chart_draw.specs.declared.says.Says.{Says}
use Rattle.chart_draw.specs.declared.says.Says.TheVariants.{Deliver, Packet, View, Out, Other, Give, Ask, Befall, Idle}
use Rattle.chart_draw.specs.declared.says.Says.TheVariants.{Aside}
use Rattle.chart_draw.specs.declared.lines.DrawnLine.{DrawnLine}
use Rattle.chart_draw.specs.declared.marks.Manner.{Manner}
use Rattle.chart_draw.specs.declared.words.Excerpt.{Excerpt}
use Rattle.chart_draw.specs.declared.words.Request.{Request}
use denote.Ref.{Bor}

-- the pieces that are left
abbrev pub pieces_left : Pieces → List Word
pieces_left pieces = parts_after pieces.at pieces.rest

-- what a line says, in the definitions
abbrev pub says_shown : Says → spec.Says
says_shown (Deliver kind member body) = spec.deliver kind.now member body.now
says_shown (Packet number member to chain body) = spec.packet number.now member to.now chain.now body.now
says_shown (View member ltime mask) = spec.view member ltime mask
says_shown (Out member) = spec.out member
says_shown (Other verb member detail) = spec.other verb.now member detail.now
says_shown (Give number member) = spec.give number.now member
says_shown (Ask verb member body) = spec.ask verb.now member body.now
says_shown (Befall verb member detail) = spec.befall verb.now member detail.now
says_shown (Idle member) = spec.idle member
says_shown Aside = spec.aside

-- a line of a picture, in the definitions
abbrev pub line_shown : DrawnLine → place.Line
line_shown line = record { number = line.number; x = line.x; text = line.text.now; says = says_shown line.says }

-- the bytes of a text that is lent
abbrev pub text_shown : Bor (List ℕ) → List ℕ
text_shown text = text.now

-- the bytes of each of these texts
abbrev pub texts_shown : List (Bor (List ℕ)) → List (List ℕ)
texts_shown texts = map text_shown texts

-- what is asked of a picture, in the definitions
abbrev pub excerpt_shown : Excerpt → excerpts.Excerpt
excerpt_shown excerpt =
    record { first = excerpt.first; last = excerpt.last; breach = excerpt.breach; hide = excerpt.hide.now }

-- how marks are drawn, in the definitions
abbrev pub manner_shown : Manner → marks.Manner
manner_shown manner = record { told = manner.told; breach = manner.breach; hide = manner.hide.now }

-- what the words ask for, in the definitions
abbrev pub request_shown : Request → words.Request
request_shown request = record { file = request.file.now; excerpt = excerpt_shown request.excerpt }

-- the bytes of a word that is lent, if there is one
abbrev pub word_shown : Option (Bor (List ℕ)) → Option (List ℕ)
word_shown word = option_map text_shown word

-- what a form took from the words, and the words after it
abbrev pub Takes : {A : Type 0} → Option (A × List Word) → Option A → List Word → Type 0
Takes taken (Some value) following = taken ≡ Some (value, following)
Takes taken None following = taken ≡ None

-- what a form for a word took from the words, and the words after it
abbrev pub TakesWord : Option (Word × List Word) → Option (Bor (List ℕ)) → List Word → Type 0
TakesWord taken (Some word) following = taken ≡ Some (word.now, following)
TakesWord taken None following = taken ≡ None

-- what a form said of a whole line
abbrev pub IsSaid : Option (spec.Says × List Word) → Option Says → Type 0
IsSaid taken (Some says) = option_map (λ t. t.0) taken ≡ Some (says_shown says)
IsSaid taken None = taken ≡ None

-- the bytes that digits spell, if they spell any
abbrev pub Decodes : Result (List ℕ) FromHexError → Option (Vec ℕ Global) → Type 0
Decodes decoded (Some bytes) = decoded ≡ Ok bytes.items
Decodes decoded None = (cause : FromHexError) × (decoded ≡ Err cause)
