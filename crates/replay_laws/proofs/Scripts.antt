-- What the lines of a script say is made of bytes and numbers.
use Rattle.std.proofs.Common.{◌≡◌, ℕ, ◌-◌, ◌<◌, ◌≤◌, Bool, true, false, List, [], ◌∷◌, Option, Some, None, refl, subst}
use Rattle.std.proofs.Common.{arith}
use Rattle.std.specs.Prelude.{◌==◌, ◌&&◌, ◌||◌, nat_le, nat_lt, length, codes, bytes_eq, if◌then◌else◌, option_map}
use Rattle.std.specs.Prelude.{Result, Ok, Err}
use Rattle.std.specs.List.{AllByRecursion}
use Rattle.std.specs.Option.{option_and_then}
use Rattle.std.specs.Str.Parse.{digits_value}
use Rattle.std.proofs.lemmas.Bool.{leb-true, ltb-true}
use Rattle.msg_core.specs.View.{most_members, last_member}
use Rattle.packet_mean.specs.ChainedState.{IsNumber}
use Rattle.packet_mean.specs.Spelling.{AreBytes}
use Rattle.chain_laws.proofs.Lists.{Where}
use Rattle.member_laws.specs.Members.{IsGivenEvent}
use Rattle.member_laws.proofs.Members.{all_of}
use Rattle.script_mean.specs.Words.{Word, words_of, is_plain, within, number_within, number_of, hex_digit, hex_bytes}
use Rattle.script_mean.specs.Words.{most_digits, body_of}
use Rattle.script_mean.specs.Form.{Form, one, a_word, the_word, a_number, a_body, ends}
use Rattle.script_mean.specs.Event.{group_line, cast_line, send_line, leave_line, tick_line, give_line, raw_line}
use Rattle.script_mean.specs.Event.{state_line, event_after, event_line, said_by, member_of}
use Rattle.script_mean.specs.Lines.{is_too_long, said_lines}
use Rattle.script_mean.specs.Script.{ScriptFault, too_long, no_member, ◌>>=◌, in_form, of_member, event_of, events_of}
use Rattle.script_mean.specs.Script.{script_of_lines}
use Rattle.script_mean.specs.declared.script.GroupLine.{GroupLine}
use Rattle.script_mean.specs.declared.event.ScriptEvent.{ScriptEvent}
use Rattle.replay_laws.specs.Scripts.{IsGivenScript, ScriptsAreGiven}

-- words

within_bounds : (low high value : ℕ) → Where (λ n. (low ≤ n) × (n ≤ high)) (within low high value)
within_bounds low high value = go (nat_le low value) (nat_le value high) refl refl where
  go : (a b : Bool) → nat_le low value ≡ a → nat_le value high ≡ b →
      Where (λ n. (low ≤ n) × (n ≤ high)) (if a && b then Some value else None)
  go true true below above = (leb-true low value below, leb-true value high above)
  go true false below above = tt
  go false b below above = tt

number_bounds : (low high : ℕ) (word : Word) → Where (λ n. (low ≤ n) × (n ≤ high)) (number_within low high word)
number_bounds low high word = go (is_plain word) where
  go : (b : Bool) → Where (λ n. (low ≤ n) × (n ≤ high)) (if b then within low high (digits_value 10 word) else None)
  go true = within_bounds low high (digits_value 10 word)
  go false = tt

-- what follows from a fact of a value holds where the fact does
so : {A : Type 0} (P Q : A → Type 0) → ((x : A) → P x → Q x) → (o : Option A) → Where P o → Where Q o
so P Q f None h = tt
so P Q f (Some x) h = f x h

number_small : (word : Word) → Where IsNumber (number_of word)
number_small word = so (λ n. (0 ≤ n) × (n ≤ 4294967295)) IsNumber (λ n h. omega (arith, h.1)) (number_of word)
    (number_bounds 0 4294967295 word)

-- a step, and the one after it
then_so : {A B : Type 0} (P : A → Type 0) (Q : B → Type 0) (f : A → Option B) (o : Option A) → Where P o →
    ((x : A) → P x → Where Q (f x)) →
    Where Q (option_and_then f o)
then_so P Q f None h k = tt
then_so P Q f (Some x) h k = k x h

digit_small : (byte : ℕ) → Where (λ d. d < 16) (hex_digit byte)
digit_small byte = go (nat_le 48 byte) (nat_le byte 57) (nat_le 97 byte) (nat_le byte 102) refl refl refl refl where
  go : (a b c d : Bool) → nat_le 48 byte ≡ a → nat_le byte 57 ≡ b → nat_le 97 byte ≡ c → nat_le byte 102 ≡ d →
      Where (λ d. d < 16) (if a && b then Some (byte - 48) else if c && d then Some (byte - 87) else None)
  go true true c d p q r s = omega (arith, leb-true 48 byte p, leb-true byte 57 q)
  go true false true true p q r s = omega (arith, leb-true 97 byte r, leb-true byte 102 s)
  go true false true false p q r s = tt
  go true false false d p q r s = tt
  go false b true true p q r s = omega (arith, leb-true 97 byte r, leb-true byte 102 s)
  go false b true false p q r s = tt
  go false b false d p q r s = tt

abbrev Bytes : List ℕ → Type 0
Bytes bytes = AllByRecursion (λ b. b < 256) bytes

hex_bytes_are : (word : Word) → Where Bytes (hex_bytes word)
hex_bytes_are [] = tt
hex_bytes_are (one ∷ []) = tt
hex_bytes_are (high ∷ low ∷ more) = go (hex_bytes_are more) where
  go : Where Bytes (hex_bytes more) → Where Bytes (hex_bytes (high ∷ low ∷ more))
  go rest = then_so (λ d. d < 16) Bytes _ (hex_digit high) (digit_small high) (λ h small.
      then_so (λ d. d < 16) Bytes _ (hex_digit low) (digit_small low) (λ l tiny.
      then_so Bytes Bytes _ (hex_bytes more) rest (λ bytes are. (omega (arith, small, tiny), are))))

body_is : (word : Word) → Where AreBytes (body_of word)
body_is word = so Bytes AreBytes (all_of (λ b. b < 256)) (body_of word)
    (go (bytes_eq word (codes "-")) (length word == 0 || nat_lt most_digits (length word))) where
      go : (a b : Bool) → Where Bytes (if a then Some [] else if b then None else hex_bytes word)
      go true b = tt
      go false true = tt
      go false false = hex_bytes_are word

-- forms: what holds of each value that they give

abbrev Said : {A : Type 0} → (A → Type 0) → Option (A × List Word) → Type 0
Said P o = Where (λ taken. P taken.0) o

one_so : {A : Type 0} (P : A → Type 0) (spelled : Word → Option A) → ((w : Word) → Where P (spelled w)) →
    (ws : List Word) → Said P (one spelled ws)
one_so P spelled h [] = tt
one_so P spelled h (word ∷ rest) = go (spelled word) (h word) where
  go : (o : Option _) → Where P o → Said P (option_map (λ value. (value, rest)) o)
  go None h = tt
  go (Some x) h = h

abbrev Any : {A : Type 0} → A → Type 0
Any _ = Unit {0}

any_given : {A : Type 0} (o : Option (A × List Word)) → Said (Any {A = A}) o
any_given None = tt
any_given (Some taken) = tt

any_so : {A : Type 0} (form : Form A) (ws : List Word) → Said (Any {A = A}) (form ws)
any_so form ws = any_given (form ws)

ends_so : {A : Type 0} (P : A → Type 0) (value : A) (ws : List Word) → P value → Said P (ends value ws)
ends_so P value [] h = h
ends_so P value (word ∷ rest) h = tt

-- a form, and the next on what is left
next_so : {A B : Type 0} (P : A → Type 0) (Q : B → Type 0) (next : A → Form B) (o : Option (A × List Word)) → Said P o →
    ((x : A) → P x → (ws : List Word) → Said Q (next x ws)) → Said Q (option_and_then (λ taken. next taken.0 taken.1) o)
next_so P Q next None h k = tt
next_so P Q next (Some taken) h k = k taken.0 h taken.1

record IsGroup (g : GroupLine) : Type 0 where
  group : IsNumber g.group
  stamp : IsNumber g.stamp
  some_member : 1 ≤ g.members
  most : g.members ≤ most_members

group_is : (ws : List Word) → Said IsGroup (group_line ws)
group_is ws =
    next_so Any IsGroup _ _ (any_so (the_word (codes "group")) ws) (λ _ _ ws.
    next_so IsNumber IsGroup _ _ (one_so IsNumber number_of number_small ws) (λ group group_small ws.
    next_so Any IsGroup _ _ (any_so (the_word (codes "stamp")) ws) (λ _ _ ws.
    next_so IsNumber IsGroup _ _ (one_so IsNumber number_of number_small ws) (λ stamp stamp_small ws.
    next_so Any IsGroup _ _ (any_so (the_word (codes "members")) ws) (λ _ _ ws.
    next_so (λ n. (1 ≤ n) × (n ≤ most_members)) IsGroup _ _
    (one_so (λ n. (1 ≤ n) × (n ≤ most_members)) (number_within 1 most_members) (number_bounds 1 most_members) ws)
    (λ members bounds ws.
    ends_so IsGroup (record { group = group; stamp = stamp; members = members }) ws
    (record { group = group_small; stamp = stamp_small; some_member = bounds.0; most = bounds.1 })))))))

rank_small : (word : Word) → Where IsNumber (number_within 0 last_member word)
rank_small word = so (λ n. (0 ≤ n) × (n ≤ last_member)) IsNumber (λ n h. omega (arith, h.1))
    (number_within 0 last_member word)
    (number_bounds 0 last_member word)

-- one number, and what follows it
numbered : {B : Type 0} (Q : B → Type 0) (next : ℕ → Form B) →
    ((n : ℕ) → IsNumber n → (ws : List Word) → Said Q (next n ws)) → (ws : List Word) →
    Said Q (option_and_then (λ taken. next taken.0 taken.1) (a_number ws))
numbered Q next k ws = next_so IsNumber Q next (a_number ws) (one_so IsNumber number_of number_small ws) k

bodied : {B : Type 0} (Q : B → Type 0) (next : List ℕ → Form B) →
    ((body : List ℕ) → AreBytes body → (ws : List Word) → Said Q (next body ws)) →
    (ws : List Word) → Said Q (option_and_then (λ taken. next taken.0 taken.1) (a_body ws))
bodied Q next k ws = next_so AreBytes Q next (a_body ws) (one_so AreBytes body_of body_is ws) k

cast_is : (ws : List Word) → Said IsGivenEvent (cast_line ws)
cast_is ws = numbered IsGivenEvent _ (λ m _ ws. bodied IsGivenEvent _ (λ body are ws. ends_so IsGivenEvent _ ws are) ws)
    ws

send_is : (ws : List Word) → Said IsGivenEvent (send_line ws)
send_is ws = numbered IsGivenEvent _ (λ m _ ws.
    next_so IsNumber IsGivenEvent _ _ (one_so IsNumber (number_within 0 last_member) rank_small ws) (λ rank small ws.
    bodied IsGivenEvent _ (λ body are ws. ends_so IsGivenEvent _ ws (small, are)) ws)) ws

leave_is : (ws : List Word) → Said IsGivenEvent (leave_line ws)
leave_is ws = numbered IsGivenEvent _ (λ m _ ws. ends_so IsGivenEvent _ ws tt) ws

tick_is : (ws : List Word) → Said IsGivenEvent (tick_line ws)
tick_is ws = numbered IsGivenEvent _
    (λ m _ ws. numbered IsGivenEvent _ (λ time small ws. ends_so IsGivenEvent _ ws small) ws) ws

give_is : (ws : List Word) → Said IsGivenEvent (give_line ws)
give_is ws = numbered IsGivenEvent _ (λ k _ ws. numbered IsGivenEvent _ (λ m _ ws. ends_so IsGivenEvent _ ws tt) ws) ws

raw_is : (ws : List Word) → Said IsGivenEvent (raw_line ws)
raw_is ws = numbered IsGivenEvent _ (λ m _ ws. bodied IsGivenEvent _ (λ body are ws. ends_so IsGivenEvent _ ws are) ws)
    ws

state_is : (ws : List Word) → Said IsGivenEvent (state_line ws)
state_is ws = numbered IsGivenEvent _ (λ m _ ws. ends_so IsGivenEvent _ ws tt) ws

after_is : (verb : Word) (ws : List Word) → Said IsGivenEvent (event_after verb ws)
after_is verb ws = go (bytes_eq verb (codes "cast")) (bytes_eq verb (codes "send")) (bytes_eq verb (codes "leave"))
    (bytes_eq verb (codes "tick"))
    (bytes_eq verb (codes "give")) (bytes_eq verb (codes "raw")) (bytes_eq verb (codes "state"))
  where
    go : (a b c d e f g : Bool) →
        Said IsGivenEvent ((if a then cast_line else if b then send_line else if c then leave_line else if d
        then tick_line
        else if e then give_line else if f then raw_line else if g then state_line else (λ words. None)) ws)
    go true b c d e f g = cast_is ws
    go false true c d e f g = send_is ws
    go false false true d e f g = leave_is ws
    go false false false true e f g = tick_is ws
    go false false false false true f g = give_is ws
    go false false false false false true g = raw_is ws
    go false false false false false false true = state_is ws
    go false false false false false false false = tt

event_is : (ws : List Word) → Said IsGivenEvent (event_line ws)
event_is ws = next_so Any IsGivenEvent event_after (a_word ws) (any_so a_word ws) (λ verb _ ws. after_is verb ws)

said_so : {A : Type 0} (P : A → Type 0) (form : Form A) → ((ws : List Word) → Said P (form ws)) → (line : List ℕ) →
    Where P (said_by form line)
said_so P form h line = go (form (words_of line)) (h (words_of line)) where
  go : (o : Option _) → Said P o → Where P (option_map (λ taken. taken.0) o)
  go None h = tt
  go (Some taken) h = h

-- the script

-- what holds of a result's value
abbrev Good : {A : Type 0} → (A → Type 0) → Result A ScriptFault → Type 0
Good P (Ok x) = P x
Good P (Err fault) = Unit {0}

after_so : {A B : Type 0} (P : A → Type 0) (Q : B → Type 0) (r : Result A ScriptFault) (f : A → Result B ScriptFault) →
    Good P r →
    ((x : A) → P x → Good Q (f x)) → Good Q (r >>= f)
after_so P Q (Ok x) f h k = k x h
after_so P Q (Err fault) f h k = tt

in_form_so : {A : Type 0} (P : A → Type 0) (line : ℕ) (o : Option A) → Where P o → Good P (in_form line o)
in_form_so P line None h = tt
in_form_so P line (Some x) h = h

-- an event of one of these members
record IsEvent (members : ℕ) (event : ScriptEvent) : Type 0 where
  member : member_of event < members
  given : IsGivenEvent event

of_member_so : (members line : ℕ) (event : ScriptEvent) → IsGivenEvent event →
    Good (IsEvent members) (of_member members line event)
of_member_so members line event h = go (nat_lt (member_of event) members) refl where
  go : (b : Bool) → nat_lt (member_of event) members ≡ b →
      Good (IsEvent members) (if b then Ok event else Err (no_member line))
  go true is = record { member = ltb-true (member_of event) members is; given = h }
  go false is = tt

event_of_so : (members : ℕ) (line : ℕ × List ℕ) → Good (IsEvent members) (event_of members line)
event_of_so members line = after_so IsGivenEvent (IsEvent members) (in_form line.0 (said_by event_line line.1))
    (of_member members line.0)
    (in_form_so IsGivenEvent line.0 (said_by event_line line.1) (said_so IsGivenEvent event_line event_is line.1))
    (λ event h. of_member_so members line.0 event h)

events_of_so : (members : ℕ) (lines : List (ℕ × List ℕ)) →
    Good (AllByRecursion (IsEvent members)) (events_of members lines)
events_of_so members [] = tt
events_of_so members (line ∷ lines) = go (events_of_so members lines) where
  go : Good (AllByRecursion (IsEvent members)) (events_of members lines) →
      Good (AllByRecursion (IsEvent members)) (events_of members (line ∷ lines))
  go rest = after_so (IsEvent members) (AllByRecursion (IsEvent members)) (event_of members line) _
      (event_of_so members line) (λ event is.
      after_so (AllByRecursion (IsEvent members)) (AllByRecursion (IsEvent members)) (events_of members lines) _ rest
      (λ events are. (is, are)))

each_member : (members : ℕ) (events : List ScriptEvent) → AllByRecursion (IsEvent members) events →
    AllByRecursion (λ event. member_of event < members) events
each_member members [] h = tt
each_member members (event ∷ events) h = (h.0.member, each_member members events h.1)

each_given : (members : ℕ) (events : List ScriptEvent) → AllByRecursion (IsEvent members) events →
    AllByRecursion IsGivenEvent events
each_given members [] h = tt
each_given members (event ∷ events) h = (h.0.given, each_given members events h.1)

script_so : (lines : List (ℕ × List ℕ)) → Good IsGivenScript (script_of_lines lines)
script_so [] = tt
script_so (first ∷ lines) =
    after_so IsGroup IsGivenScript (in_form first.0 (said_by group_line first.1)) _
    (in_form_so IsGroup first.0 (said_by group_line first.1) (said_so IsGroup group_line group_is first.1))
    (λ opening is.
    after_so (AllByRecursion (IsEvent opening.members)) IsGivenScript (events_of opening.members lines) _
    (events_of_so opening.members lines)
    (λ events are. record {
      group = is.group;
      stamp = is.stamp;
      runs = record {
        some_member = is.some_member;
        most_members = is.most;
        of_members = all_of (λ event. member_of event < opening.members) events
            (each_member opening.members events are);
      };
      events = each_given opening.members events are;
    }))

pub scripts_are_given : ScriptsAreGiven
scripts_are_given text script is = subst (Good IsGivenScript) is (go (is_too_long text)) where
  go : (b : Bool) → Good IsGivenScript (if b then Err too_long else script_of_lines (said_lines text))
  go true = tt
  go false = script_so (said_lines text)
