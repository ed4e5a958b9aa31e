-- What a picture shows of a line of a report.
use Rattle.std.specs.Prelude.{ℕ, Bool, true, false, List, [], ◌∷◌, Option, Some, None, option_map, unwrap_or, codes}
use Rattle.std.specs.Prelude.{bytes_eq, ◌&&◌, not, if◌then◌else◌}
use Rattle.std.specs.List.{list_any}
use Rattle.script_mean.specs.Words.{Word, words_of}
use Rattle.script_mean.specs.Form.{Form, ◌>>=◌, one, a_word, a_number, ends}
use Rattle.audit_mean.specs.Line.{a_member}

-- a member delivers a body, by cast or send; sends a packet, of this number, to all (`all`) or to a rank, with headers
-- and a body; is in a new view; is out; does what the line's first word says, with a detail. Events: a packet is given
-- to a member; its application casts or sends a body, or it gets the bytes of a datagram; another event befalls it,
-- with a detail, or passes it by: it is a tick of which nothing came. Or the line is beside the members
pub data Says : Type 0 where
  deliver : (kind : Word) (member : ℕ) (body : Word) → Says
  packet : (number : Word) (member : ℕ) (to chain body : Word) → Says
  view : (member ltime mask : ℕ) → Says
  out : (member : ℕ) → Says
  other : (verb : Word) (member : ℕ) (detail : Word) → Says
  give : (number : Word) (member : ℕ) → Says
  ask : (verb : Word) (member : ℕ) (body : Word) → Says
  befall : (verb : Word) (member : ℕ) (detail : Word) → Says
  idle : (member : ℕ) → Says
  aside : Says

-- whether a word is one of these
abbrev pub is_one_of : List Word → Word → Bool
is_one_of words word = list_any (bytes_eq word) words

-- the kinds of deliveries
abbrev pub kinds : List Word
kinds = codes "cast" ∷ codes "send" ∷ []

-- the first words of the other lines that tell of a member, which is their second word
abbrev pub others : List Word
others =
    codes "block" ∷ codes "announce" ∷ codes "timer" ∷ codes "refused" ∷ codes "absent" ∷ codes "state" ∷ codes "cell" ∷
    codes "deaf" ∷ []

-- the events that bring bytes, which follow the member
abbrev pub askings : List Word
askings = codes "cast" ∷ codes "raw" ∷ []

-- the events that bring none
abbrev pub befallings : List Word
befallings = codes "tick" ∷ codes "leave" ∷ codes "state" ∷ []

-- one of these words
abbrev pub a_word_of : List Word → Form Word
a_word_of words = one (λ word. if is_one_of words word then Some word else None)

-- the first of these words, or an empty one
abbrev pub first_word : List Word → Word
first_word [] = []
first_word (word ∷ words) = word

-- `M cast P HEX` or `M send P HEX` of a delivery
abbrev pub deliver_line : Form Says
deliver_line = do
  member ← a_member
  kind ← a_word_of kinds
  peer ← a_word
  body ← a_word
  ends (deliver kind member body)

-- `K M D CHAIN HEX` of a packet
abbrev pub packet_line : Form Says
packet_line = do
  number ← a_word
  member ← a_member
  to ← a_word
  chain ← a_word
  body ← a_word
  ends (packet number member to chain body)

-- `M LTIME MASK` of a view
abbrev pub view_line : Form Says
view_line = do
  member ← a_member
  ltime ← a_number
  mask ← a_number
  ends (view member ltime mask)

-- `M` of an out
abbrev pub out_line : Form Says
out_line = do
  member ← a_member
  ends (out member)

-- `M` and whatever follows, of which the first word is the detail
abbrev pub other_line : Word → Form Says
other_line verb = do
  member ← a_member
  λ following. Some (other verb member (first_word following), following)

-- `K M` of a packet that is given
abbrev pub give_event : Form Says
give_event = do
  number ← a_word
  member ← a_member
  ends (give number member)

-- `M HEX` of a cast or a datagram
abbrev pub ask_event : Word → Form Says
ask_event verb = do
  member ← a_member
  body ← a_word
  ends (ask verb member body)

-- `M P HEX` of a send
abbrev pub send_event : Form Says
send_event = do
  member ← a_member
  rank ← a_word
  body ← a_word
  ends (ask (codes "send") member body)

-- `M` and whatever follows, of another event
abbrev pub befall_event : Word → Form Says
befall_event verb = do
  member ← a_member
  λ following. Some (befall verb member (first_word following), following)

-- what stands after the first word of an event
abbrev pub event_after : Word → Form Says
event_after verb =
    if bytes_eq verb (codes "give") then give_event
    else if bytes_eq verb (codes "send") then send_event
    else if is_one_of askings verb then ask_event verb
    else if is_one_of befallings verb then befall_event verb
    else (λ words. None)

-- an event, after the sign `>` that begins its line
abbrev pub event_line : Form Says
event_line = do
  verb ← a_word
  event_after verb

-- what stands after the first word of a line
abbrev pub after_first : Word → Form Says
after_first verb =
    if bytes_eq verb (codes "deliver") then deliver_line
    else if bytes_eq verb (codes "packet") then packet_line
    else if bytes_eq verb (codes "view") then view_line
    else if bytes_eq verb (codes "out") then out_line
    else if bytes_eq verb (codes ">") then event_line
    else if is_one_of others verb then other_line verb
    else (λ words. None)

-- a line that tells of a member
abbrev pub any_line : Form Says
any_line = do
  verb ← a_word
  after_first verb

-- what a line says: one that is none of these is beside the members
abbrev pub says_of : List ℕ → Says
says_of line = unwrap_or (option_map (λ taken. taken.0) (any_line (words_of line))) aside

-- the member of which it tells
abbrev pub member_of : Says → Option ℕ
member_of (deliver kind member body) = Some member
member_of (packet number member to chain body) = Some member
member_of (view member ltime mask) = Some member
member_of (out member) = Some member
member_of (other verb member detail) = Some member
member_of (give number member) = Some member
member_of (ask verb member body) = Some member
member_of (befall verb member detail) = Some member
member_of (idle member) = Some member
member_of aside = None

-- whether it tells of a packet that is given to a member
abbrev pub is_reception : Says → Bool
is_reception (give number member) = true
is_reception _ = false

-- whether it tells what came of an event, or how a member is
abbrev pub is_outcome : Says → Bool
is_outcome (deliver kind member body) = true
is_outcome (packet number member to chain body) = true
is_outcome (view member ltime mask) = true
is_outcome (out member) = true
is_outcome (other verb member detail) = true
is_outcome _ = false

-- what a line says before one that says this: nothing came of a tick where no outcome follows
abbrev pub settled : Says → (next : Says) → Says
settled (befall verb member detail) next =
    if bytes_eq verb (codes "tick") && not (is_outcome next) then idle member else befall verb member detail
settled says next = says
