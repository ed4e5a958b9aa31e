-- The words that stand beside a mark.
use Rattle.std.specs.Prelude.{ℕ, ◌==◌, nat_lt, nat_le, ◌&&◌, Bool, List, [], ◌∷◌, ◌++◌, length, take, drop, codes}
use Rattle.std.specs.Prelude.{bytes_eq, Result, Ok, Err, if◌then◌else◌}
use Rattle.std.specs.List.{flat_map, list_all, slice_split}
use Rattle.hex.specs.Hex.{decode_of}
use Rattle.hex.specs.declared.error.FromHexError.{FromHexError}
use Rattle.script_mean.specs.Words.{Word}
use Rattle.chart_mean.specs.Says.{Says, deliver, packet, view, out, other, give, ask, befall, idle, aside}
use Rattle.chart_mean.specs.Says.{is_one_of, first_word}

-- a byte that can be read as text: printable ASCII
abbrev pub is_readable : ℕ → Bool
is_readable byte = nat_le 32 byte && nat_le byte 126

-- bytes between quotes
abbrev pub quoted : List ℕ → List ℕ
quoted bytes = codes "\"" ++ bytes ++ codes "\""

-- what digits spell: the text between quotes where all bytes can be read, and else the digits
abbrev pub spelled : Word → Result (List ℕ) FromHexError → List ℕ
spelled digits (Ok bytes) = if list_all is_readable bytes then quoted bytes else digits
spelled digits (Err cause) = digits

-- how many digits of a body are shown
abbrev pub most_shown : ℕ
most_shown = 28

-- two points where a body goes on
abbrev pub points : Word → List ℕ
points body = if nat_lt most_shown (length body) then codes ".." else []

-- the beginning of a body
abbrev pub beginning : Word → List ℕ
beginning body = spelled (take most_shown body) (decode_of (take most_shown body)) ++ points body

-- what is shown of a body: nothing where it is empty
abbrev pub body_text : Word → List ℕ
body_text body = if bytes_eq body (codes "-") then [] else beginning body

-- what stands after the layer's name in a header, which is spelled `LAYER.NAME(..)`
abbrev pub after_layer : Word → Word
after_layer header = first_word (drop 1 (slice_split (λ byte. byte == 46) header))

-- the headers that say nothing: that which each message has
abbrev pub dull : List Word
dull = [] ∷ codes "none()" ∷ []

-- a header's name with its fields, and a blank after it, unless it says nothing
abbrev pub named : Word → List ℕ
named name = if is_one_of dull name then [] else name ++ codes " "

-- the name of a header's layer
abbrev pub layer_of : Word → Word
layer_of header = first_word (slice_split (λ byte. byte == 46) header)

-- what is shown of a header: nothing where its layer is left out
abbrev pub header_text : (hide header : Word) → List ℕ
header_text hide header = if bytes_eq (layer_of header) hide then [] else named (after_layer header)

-- what is shown of a packet's headers, which have `/` between
abbrev pub chain_text : (hide chain : Word) → List ℕ
chain_text hide chain = flat_map (header_text hide) (slice_split (λ byte. byte == 47) chain)

-- the first words of lines that have a sign and no words
abbrev pub quiet : List Word
quiet = codes "timer" ∷ codes "state" ∷ codes "cell" ∷ []

-- a verb, and a detail after it
abbrev pub detailed : Word → Word → List ℕ
detailed verb detail = verb ++ codes " " ++ detail

-- the words beside the mark of a line; the headers of one layer may be left out
abbrev pub label_of : Word → Says → List ℕ
label_of hide (deliver kind member body) = detailed (codes "delivers") (body_text body)
label_of hide (packet number member to chain body) = chain_text hide chain ++ body_text body
label_of hide (view member ltime mask) = []
label_of hide (out member) = codes "out"
label_of hide (other verb member detail) = if is_one_of quiet verb then [] else detailed verb detail
label_of hide (give number member) = []
label_of hide (ask verb member body) = detailed verb (body_text body)
label_of hide (befall verb member detail) = detailed verb detail
label_of hide (idle member) = []
label_of hide aside = []
