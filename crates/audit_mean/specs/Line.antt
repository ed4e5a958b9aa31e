-- The lines of a report, as far as the group's laws look at them.
use Rattle.std.specs.Prelude.{ℕ, Bool, List, [], ◌∷◌, Option, Some, None, option_map, codes, bytes_eq, if◌then◌else◌}
use Rattle.std.specs.List.{list_any}
use Rattle.script_mean.specs.Words.{Word, words_of, body_of}
use Rattle.script_mean.specs.Form.{Form, ◌>>=◌, one, a_word, a_number, a_number_within, ends}
use Rattle.msg_core.specs.View.{last_member}

-- what a line says: a member delivers a peer's cast with this body, is in a new view or is out; the number of events,
-- or of visits; or nothing that a law looks at
pub data ReportLine : Type 0 where
  deliver : (member peer : ℕ) (body : Word) → ReportLine
  view : (member ltime mask : ℕ) → ReportLine
  out : (member : ℕ) → ReportLine
  end : ReportLine
  visits : ReportLine
  silent : ReportLine

-- a member
abbrev pub a_member : Form ℕ
a_member = a_number_within 0 last_member

-- a number of 64 bits, whatever it is
abbrev pub a_long_number : Form ℕ
a_long_number = a_number_within 0 18446744073709551615

-- a body, as it is spelled; each body has one spelling
abbrev pub a_spelled_body : Form Word
a_spelled_body = one (λ word. option_map (λ bytes. word) (body_of word))

-- `P HEX` of a delivered cast
abbrev pub delivered_cast : ℕ → Form ReportLine
delivered_cast member = do
  peer ← a_number
  body ← a_spelled_body
  ends (deliver member peer body)

-- `P HEX` of a delivered send
abbrev pub delivered_send : Form ReportLine
delivered_send = do
  peer ← a_number
  body ← a_spelled_body
  ends silent

-- what follows the kind of a delivery
abbrev pub delivery_of : ℕ → Word → Form ReportLine
delivery_of member kind =
    if bytes_eq kind (codes "cast") then delivered_cast member
    else if bytes_eq kind (codes "send") then delivered_send
    else (λ words. None)

-- `deliver M cast P HEX` or `deliver M send P HEX`
abbrev pub deliver_line : Form ReportLine
deliver_line = do
  member ← a_member
  kind ← a_word
  delivery_of member kind

-- `view M LTIME MASK`
abbrev pub view_line : Form ReportLine
view_line = do
  member ← a_member
  ltime ← a_number
  mask ← a_number
  ends (view member ltime mask)

-- `out M`
abbrev pub out_line : Form ReportLine
out_line = do
  member ← a_member
  ends (out member)

-- `end N` and `visits V`
abbrev pub count_line : ReportLine → Form ReportLine
count_line said = do
  count ← a_long_number
  ends said

-- the first words of the lines that no law looks at, whatever follows
abbrev pub skipped_words : List Word
skipped_words =
    codes "block" ∷ codes "announce" ∷ codes "timer" ∷ codes "packet" ∷ codes "refused" ∷ codes "absent" ∷
    codes "state" ∷ codes "cell"
    ∷ codes "wire" ∷ codes "lost" ∷ codes "deaf" ∷ codes ">" ∷ []

-- whether no law looks at lines with this first word
abbrev pub is_skipped : Word → Bool
is_skipped verb = list_any (bytes_eq verb) skipped_words

-- what stands after the first word of a line
abbrev pub after_first : Word → Form ReportLine
after_first verb =
    if bytes_eq verb (codes "deliver") then deliver_line
    else if bytes_eq verb (codes "view") then view_line
    else if bytes_eq verb (codes "out") then out_line
    else if bytes_eq verb (codes "end") then count_line end
    else if bytes_eq verb (codes "visits") then count_line visits
    else if is_skipped verb then (λ words. Some (silent, []))
    else (λ words. None)

-- a line of any kind
abbrev pub any_line : Form ReportLine
any_line = do
  verb ← a_word
  after_first verb

-- what a line says, if it is in form
abbrev pub line_said : List ℕ → Option ReportLine
line_said line = option_map (λ taken. taken.0) (any_line (words_of line))
