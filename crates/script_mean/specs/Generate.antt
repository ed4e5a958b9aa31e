-- Scripts that are made from a number.
use Rattle.std.specs.Prelude.{ℕ, zero, suc, ◌+◌, ◌-◌, ◌*◌, ◌/◌, ◌%◌, ◌^◌, ◌==◌, Bool, ◌&&◌, max, nat_lt, List, [], ◌∷◌}
use Rattle.std.specs.Prelude.{◌++◌, map, replicate, take, slice_index, slice_set, if◌then◌else◌}
use Rattle.std.specs.Int.{w32, to_be_bytes}
use Rattle.std.specs.List.{range_with_len}
use Rattle.script_mean.specs.declared.event.ScriptEvent.{ScriptEvent}
use Rattle.script_mean.specs.declared.event.ScriptEvent.TheVariants.{Cast, Send, Tick, Give, Raw}
use Rattle.script_mean.specs.declared.script.Script.{Script}

-- something made by draws from a seed, and the seed after them
abbrev pub Drawn : Type 0 → Type 0
Drawn A = ℕ → A × ℕ

infixl 10 ◌>>=◌
-- one after the other, the second from the seed after the first
abbrev pub ◌>>=◌ : {A B : Type 0} → Drawn A → (A → Drawn B) → Drawn B
(drawn >>= next) seed = next (drawn seed).0 (drawn seed).1

-- this, without a draw
abbrev pub made : {A : Type 0} → A → Drawn A
made value seed = (value, seed)

-- the seed after a draw, of 32 bits: a linear congruence
abbrev pub next_seed : ℕ → ℕ
next_seed seed = (1664525 * seed + 1013904223) % 4294967296

-- a number below `bound`, from the upper half of the seed after the draw
abbrev pub a_draw : ℕ → Drawn ℕ
a_draw bound seed = (next_seed seed / 65536 % bound, next_seed seed)

-- up to 63 bytes, which count up from the event's number
abbrev pub a_body : ℕ → Drawn (List ℕ)
a_body number = do
  size ← a_draw 64
  made (map (λ byte. byte % 256) (range_with_len number size))

-- the packet that is given, and the member's cursor after it: mostly the next one; now and then one is
-- left out, the last one comes again, or one comes early
abbrev pub next_cursors : ℕ → ℕ → ℕ × ℕ
next_cursors way cursor =
    if way == 0 then (cursor + 2, cursor + 2)
    else if way == 1 then (max 1 cursor, max 1 cursor)
    else if way == 2 then (cursor + 2, cursor)
    else (cursor + 1, cursor + 1)

-- what is drawn, with the cursors as they were
abbrev pub leaving : List ℕ → Drawn ScriptEvent → Drawn (ScriptEvent × List ℕ)
leaving cursors drawn = do
  event ← drawn
  made (event, cursors)

-- a cast
abbrev pub a_cast : ℕ → ℕ → Drawn ScriptEvent
a_cast number member = do
  body ← a_body number
  made (Cast member body)

-- a send to any of n members
abbrev pub a_send : ℕ → ℕ → ℕ → Drawn ScriptEvent
a_send members number member = do
  rank ← a_draw members
  body ← a_body number
  made (Send member rank body)

-- a packet given to the member, by its cursor
abbrev pub a_give : ℕ → List ℕ → Drawn (ScriptEvent × List ℕ)
a_give member cursors = do
  way ← a_draw 8
  made (
    Give (next_cursors way (slice_index cursors member)).0 member,
    slice_set cursors member (next_cursors way (slice_index cursors member)).1,
  )

-- n numbers below a bound
abbrev pub draws : ℕ → ℕ → Drawn (List ℕ)
draws zero bound = made []
draws (suc k) bound = do
  first ← a_draw bound
  more ← draws k bound
  made (first ∷ more)

-- the preamble of a datagram: a full form where the drawn number is even and else a short one, group
-- and stamp 1, the first view of n members, a sender, and that it is for all
abbrev pub a_preamble : ℕ → ℕ → ℕ → List ℕ
a_preamble form members sender =
    (if form == 0 then 229 else 230) ∷ to_be_bytes w32 1 ++ to_be_bytes w32 1 ++ to_be_bytes w32 0
    ++ to_be_bytes w32 (2 ^ members - 1) ++ sender ∷ 255 ∷ []

-- bytes as they stand, or, one time in eight, fewer than twenty of them
abbrev pub cut_short : List ℕ → ℕ → Drawn (List ℕ)
cut_short bytes way =
    if way == 0 then (do
      left ← a_draw 20
      made (take left bytes))
    else made bytes

-- a datagram that may be stray: a preamble, up to 63 small bytes, and now and then cut short
abbrev pub a_datagram : ℕ → ℕ → Drawn ScriptEvent
a_datagram members member = do
  form ← a_draw 2
  sender ← a_draw members
  count ← a_draw 64
  rest ← draws count 4
  way ← a_draw 8
  bytes ← cut_short (a_preamble form members sender ++ rest) way
  made (Raw member bytes)

-- the event of a choice of 16: two of them are a cast, one is a send, one a tick, which shows a time that
-- rises with each 16 events, one a datagram where these are wanted, and the others give a packet
abbrev pub chosen_event : Bool → ℕ → ℕ → ℕ → ℕ → List ℕ → Drawn (ScriptEvent × List ℕ)
chosen_event raw choice members number member cursors =
    if nat_lt choice 2 then leaving cursors (a_cast number member)
    else if choice == 2 then leaving cursors (a_send members number member)
    else if choice == 3 then made (Tick member (number / 16), cursors)
    else if raw && (choice == 15) then leaving cursors (a_datagram members member)
    else a_give member cursors

-- the event of this number, counted from 0, and the cursors after it
abbrev pub an_event : Bool → ℕ → ℕ → List ℕ → Drawn (ScriptEvent × List ℕ)
an_event raw members number cursors = do
  choice ← a_draw 16
  member ← a_draw members
  chosen_event raw choice members number member cursors

-- how far a script is made: the seed, a cursor for each member, and the events so far
pub record Generator : Type 0 where
  pub seed : ℕ
  pub cursors : List ℕ
  pub events : List ScriptEvent

-- one event further, of an event and cursors that were drawn
abbrev pub with_event : List ScriptEvent → (ScriptEvent × List ℕ) × ℕ → Generator
with_event events drawn = record { seed = drawn.1; cursors = drawn.0.1; events = events ++ drawn.0.0 ∷ [] }

-- the next event, of this number
abbrev pub after_event : Bool → ℕ → ℕ → Generator → Generator
after_event raw members number g = with_event g.events (an_event raw members number g.cursors g.seed)

-- `number` events of n members
abbrev pub generator_after : ℕ → ℕ → Bool → ℕ → Generator
generator_after seed members raw zero = record { seed = seed; cursors = replicate members 0; events = [] }
generator_after seed members raw (suc number) = after_event raw members number (generator_after seed members raw number)

-- the script of `events` events of n members that is made from a seed, with datagrams or without; group and stamp are 1
abbrev pub generate : ℕ → ℕ → ℕ → Bool → Script
generate seed events members raw =
    record { group = 1; stamp = 1; members = members; events = (generator_after seed members raw events).events }
