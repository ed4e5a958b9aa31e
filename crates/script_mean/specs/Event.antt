-- The lines of a script, word by word.
use Rattle.std.specs.Prelude.{ℕ, List, Option, None, option_map, codes, bytes_eq, if◌then◌else◌}
use Rattle.script_mean.specs.Words.{Word, words_of}
use Rattle.script_mean.specs.Form.{Form, ◌>>=◌, a_word, the_word, a_number, a_number_within, a_body, ends}
use Rattle.script_mean.specs.declared.script.GroupLine.{GroupLine}
use Rattle.script_mean.specs.declared.event.ScriptEvent.{ScriptEvent}
use Rattle.script_mean.specs.declared.event.ScriptEvent.TheVariants.{Cast, Send, Leave, Tick, Give, Raw, Show}
use Rattle.msg_core.specs.View.{most_members, last_member}

-- `group G stamp S members N`, N from 1 to 32
abbrev pub group_line : Form GroupLine
group_line = do
  _ ← the_word (codes "group")
  group ← a_number
  _ ← the_word (codes "stamp")
  stamp ← a_number
  _ ← the_word (codes "members")
  members ← a_number_within 1 most_members
  ends (record { group = group; stamp = stamp; members = members })

-- `cast M HEX`
abbrev pub cast_line : Form ScriptEvent
cast_line = do
  member ← a_number
  body ← a_body
  ends (Cast member body)

-- `send M D HEX`, D from 0 to 31
abbrev pub send_line : Form ScriptEvent
send_line = do
  member ← a_number
  rank ← a_number_within 0 last_member
  body ← a_body
  ends (Send member rank body)

-- `leave M`
abbrev pub leave_line : Form ScriptEvent
leave_line = do
  member ← a_number
  ends (Leave member)

-- `tick M T`
abbrev pub tick_line : Form ScriptEvent
tick_line = do
  member ← a_number
  time ← a_number
  ends (Tick member time)

-- `give K M`
abbrev pub give_line : Form ScriptEvent
give_line = do
  packet ← a_number
  member ← a_number
  ends (Give packet member)

-- `raw M HEX`
abbrev pub raw_line : Form ScriptEvent
raw_line = do
  member ← a_number
  body ← a_body
  ends (Raw member body)

-- `state M`
abbrev pub state_line : Form ScriptEvent
state_line = do
  member ← a_number
  ends (Show member)

-- what stands after the first word of an event's line
abbrev pub event_after : Word → Form ScriptEvent
event_after verb =
    if bytes_eq verb (codes "cast") then cast_line
    else if bytes_eq verb (codes "send") then send_line
    else if bytes_eq verb (codes "leave") then leave_line
    else if bytes_eq verb (codes "tick") then tick_line
    else if bytes_eq verb (codes "give") then give_line
    else if bytes_eq verb (codes "raw") then raw_line
    else if bytes_eq verb (codes "state") then state_line
    else (λ words. None)

-- the line of an event
abbrev pub event_line : Form ScriptEvent
event_line = do
  verb ← a_word
  event_after verb

-- what a whole line says by a form
abbrev pub said_by : {A : Type 0} → Form A → List ℕ → Option A
said_by form line = option_map (λ taken. taken.0) (form (words_of line))

-- the member of an event
abbrev pub member_of : ScriptEvent → ℕ
member_of (Cast member body) = member
member_of (Send member rank body) = member
member_of (Leave member) = member
member_of (Tick member time) = member
member_of (Give packet member) = member
member_of (Raw member body) = member
member_of (Show member) = member
