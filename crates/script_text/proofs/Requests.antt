-- What an application asks for, and in which turn.
use Rattle.std.proofs.Common.{◌≡◌, ℕ, Bool, true, false, List, [], ◌∷◌, Option, Some, None, Ok, Err, refl, ap}
use Rattle.std.specs.Prelude.{option_map, option_and_then, bytes_eq, codes, if◌then◌else◌}
use Rattle.script_mean.specs.Words.{Word}
use Rattle.script_mean.specs.Form.{Form, ◌>>=◌, the_word, a_number, a_number_within, a_body, ends}
use Rattle.script_mean.specs.Event.{cast_line, send_line, leave_line, tick_line, give_line, raw_line, state_line}
use Rattle.script_mean.specs.Event.{event_line}
use Rattle.script_mean.specs.PlanLine.{is_request, request_line, turn_line}
use Rattle.script_mean.specs.declared.event.ScriptEvent.{ScriptEvent}
use Rattle.script_mean.specs.declared.event.ScriptEvent.TheVariants.{Cast, Send, Leave, Tick, Give, Raw, Show}
use Rattle.script_text.specs.Reading.{IsEvent, IsTurn}
use Rattle.script_text.specs.declared.error.LineError.{LineError}
use Rattle.script_text.specs.declared.error.LineError.TheVariants as error

-- an event, if it is a request and nothing stands after it
abbrev asked : ScriptEvent → Form ScriptEvent
asked event = if is_request event then ends event else (λ words. None)

asks_cast : (words : List Word) → (cast_line >>= asked) words ≡ cast_line words
asks_cast words = first (a_number words)
  where
    last : (a : ℕ) (b : List ℕ) (words : List Word) → (ends (Cast a b) >>= asked) words ≡ ends (Cast a b) words
    last a b [] = refl
    last a b (word ∷ words) = refl

    second : (a : ℕ) (o : Option (List ℕ × List Word)) →
        option_and_then (λ t. asked t.0 t.1) (option_and_then (λ taken. ends (Cast a taken.0) taken.1) o) ≡
        option_and_then (λ taken. ends (Cast a taken.0) taken.1) o
    second a None = refl
    second a (Some t) = last a t.0 t.1

    first : (o : Option (ℕ × List Word)) →
        option_and_then (λ t. asked t.0 t.1)
        (option_and_then (λ taken. (a_body >>= λ b. ends (Cast taken.0 b)) taken.1) o) ≡
        option_and_then (λ taken. (a_body >>= λ b. ends (Cast taken.0 b)) taken.1) o
    first None = refl
    first (Some t) = second t.0 (a_body t.1)

asks_send : (words : List Word) → (send_line >>= asked) words ≡ send_line words
asks_send words = first (a_number words)
  where
    last : (a : ℕ) (b : ℕ) (c : List ℕ) (words : List Word) → (ends (Send a b c) >>= asked) words ≡
        ends (Send a b c) words
    last a b c [] = refl
    last a b c (word ∷ words) = refl

    third : (a : ℕ) (b : ℕ) (o : Option (List ℕ × List Word)) →
        option_and_then (λ t. asked t.0 t.1) (option_and_then (λ taken. ends (Send a b taken.0) taken.1) o) ≡
        option_and_then (λ taken. ends (Send a b taken.0) taken.1) o
    third a b None = refl
    third a b (Some t) = last a b t.0 t.1

    second : (a : ℕ) (o : Option (ℕ × List Word)) →
        option_and_then (λ t. asked t.0 t.1)
        (option_and_then (λ taken. (a_body >>= λ c. ends (Send a taken.0 c)) taken.1) o) ≡
        option_and_then (λ taken. (a_body >>= λ c. ends (Send a taken.0 c)) taken.1) o
    second a None = refl
    second a (Some t) = third a t.0 (a_body t.1)

    first : (o : Option (ℕ × List Word)) →
        option_and_then (λ t. asked t.0 t.1)
        (option_and_then (λ taken. (a_number_within 0 31 >>= λ b. a_body >>= λ c. ends (Send taken.0 b c)) taken.1) o) ≡
        option_and_then (λ taken. (a_number_within 0 31 >>= λ b. a_body >>= λ c. ends (Send taken.0 b c)) taken.1) o
    first None = refl
    first (Some t) = second t.0 (a_number_within 0 31 t.1)

asks_leave : (words : List Word) → (leave_line >>= asked) words ≡ leave_line words
asks_leave words = first (a_number words)
  where
    last : (a : ℕ) (words : List Word) → (ends (Leave a) >>= asked) words ≡ ends (Leave a) words
    last a [] = refl
    last a (word ∷ words) = refl

    first : (o : Option (ℕ × List Word)) →
        option_and_then (λ t. asked t.0 t.1) (option_and_then (λ taken. ends (Leave taken.0) taken.1) o) ≡
        option_and_then (λ taken. ends (Leave taken.0) taken.1) o
    first None = refl
    first (Some t) = last t.0 t.1

asks_tick : (words : List Word) → (tick_line >>= asked) words ≡ None
asks_tick words = first (a_number words)
  where
    last : (a : ℕ) (b : ℕ) (words : List Word) → (ends (Tick a b) >>= asked) words ≡ None
    last a b [] = refl
    last a b (word ∷ words) = refl

    second : (a : ℕ) (o : Option (ℕ × List Word)) →
        option_and_then (λ t. asked t.0 t.1) (option_and_then (λ taken. ends (Tick a taken.0) taken.1) o) ≡ None
    second a None = refl
    second a (Some t) = last a t.0 t.1

    first : (o : Option (ℕ × List Word)) →
        option_and_then (λ t. asked t.0 t.1)
        (option_and_then (λ taken. (a_number >>= λ b. ends (Tick taken.0 b)) taken.1) o) ≡ None
    first None = refl
    first (Some t) = second t.0 (a_number t.1)

asks_give : (words : List Word) → (give_line >>= asked) words ≡ None
asks_give words = first (a_number words)
  where
    last : (a : ℕ) (b : ℕ) (words : List Word) → (ends (Give a b) >>= asked) words ≡ None
    last a b [] = refl
    last a b (word ∷ words) = refl

    second : (a : ℕ) (o : Option (ℕ × List Word)) →
        option_and_then (λ t. asked t.0 t.1) (option_and_then (λ taken. ends (Give a taken.0) taken.1) o) ≡ None
    second a None = refl
    second a (Some t) = last a t.0 t.1

    first : (o : Option (ℕ × List Word)) →
        option_and_then (λ t. asked t.0 t.1)
        (option_and_then (λ taken. (a_number >>= λ b. ends (Give taken.0 b)) taken.1) o) ≡ None
    first None = refl
    first (Some t) = second t.0 (a_number t.1)

asks_raw : (words : List Word) → (raw_line >>= asked) words ≡ None
asks_raw words = first (a_number words)
  where
    last : (a : ℕ) (b : List ℕ) (words : List Word) → (ends (Raw a b) >>= asked) words ≡ None
    last a b [] = refl
    last a b (word ∷ words) = refl

    second : (a : ℕ) (o : Option (List ℕ × List Word)) →
        option_and_then (λ t. asked t.0 t.1) (option_and_then (λ taken. ends (Raw a taken.0) taken.1) o) ≡ None
    second a None = refl
    second a (Some t) = last a t.0 t.1

    first : (o : Option (ℕ × List Word)) →
        option_and_then (λ t. asked t.0 t.1)
        (option_and_then (λ taken. (a_body >>= λ b. ends (Raw taken.0 b)) taken.1) o) ≡ None
    first None = refl
    first (Some t) = second t.0 (a_body t.1)

asks_state : (words : List Word) → (state_line >>= asked) words ≡ None
asks_state words = first (a_number words)
  where
    last : (a : ℕ) (words : List Word) → (ends (Show a) >>= asked) words ≡ None
    last a [] = refl
    last a (word ∷ words) = refl

    first : (o : Option (ℕ × List Word)) →
        option_and_then (λ t. asked t.0 t.1) (option_and_then (λ taken. ends (Show taken.0) taken.1) o) ≡ None
    first None = refl
    first (Some t) = last t.0 t.1

-- the lines of the three requests
pub asked_cast : (words following : List Word) (verb : Word) → words ≡ verb ∷ following → bytes_eq verb (codes "cast") ≡
    true → request_line words ≡ cast_line following
asked_cast words following verb split is = rw (split, is) (asks_cast following)

pub asked_send : (words following : List Word) (verb : Word) → words ≡ verb ∷ following → bytes_eq verb (codes "cast") ≡
    false → bytes_eq verb (codes "send") ≡ true → request_line words ≡ send_line following
asked_send words following verb split one is = rw (split, one, is) (asks_send following)

pub asked_leave : (words following : List Word) (verb : Word) → words ≡ verb ∷ following →
    bytes_eq verb (codes "cast") ≡
    false → bytes_eq verb (codes "send") ≡ false → bytes_eq verb (codes "leave") ≡ true →
    request_line words ≡ leave_line following
asked_leave words following verb split one two is = rw (split, one, two, is) (asks_leave following)

-- and no other line is one
pub no_request : (words following : List Word) (verb : Word) → words ≡ verb ∷ following → bytes_eq verb (codes "cast") ≡
    false → bytes_eq verb (codes "send") ≡ false → bytes_eq verb (codes "leave") ≡ false → request_line words ≡ None
no_request words following verb split one two three =
    rw (split, one, two, three)
    (of_four (bytes_eq verb (codes "tick")) (bytes_eq verb (codes "give")) (bytes_eq verb (codes "raw"))
    (bytes_eq verb (codes "state")))
  where
    of_four : (t g r s : Bool) →
        ((if t then tick_line else if g then give_line else if r then raw_line else if s then state_line else
        (λ words. None)) >>= asked) following ≡ None
    of_four true g r s = asks_tick following
    of_four false true r s = asks_give following
    of_four false false true s = asks_raw following
    of_four false false false true = asks_state following
    of_four false false false false = refl

-- a request in its turn, where the line ends
abbrev in_turn : ℕ → ScriptEvent → Form (ℕ × ScriptEvent)
in_turn turn event = ends (turn, event)

-- nothing stands after a request, so it may end a turn's line
whole_request : (turn : ℕ) (words : List Word) → (request_line >>= in_turn turn) words ≡
    option_map (λ t. ((turn, t.0), [])) (request_line words)
whole_request turn words = of_event (event_line words)
  where
    of_rest : (asks : Bool) (event : ScriptEvent) (rest : List Word) →
        option_and_then (λ t. in_turn turn t.0 t.1) ((if asks then ends event else (λ words. None)) rest) ≡
        option_map (λ t. ((turn, t.0), [])) ((if asks then ends event else (λ words. None)) rest)
    of_rest true event [] = refl
    of_rest true event (word ∷ rest) = refl
    of_rest false event rest = refl

    of_event : (o : Option (ScriptEvent × List Word)) →
        option_and_then (λ t. in_turn turn t.0 t.1) (option_and_then (λ t. asked t.0 t.1) o) ≡
        option_map (λ t. ((turn, t.0), [])) (option_and_then (λ t. asked t.0 t.1) o)
    of_event None = refl
    of_event (Some t) = of_rest (is_request t.0) t.0 t.1

-- a turn's line, after its first two words
pub turn_after : (earliest turn : ℕ) (words one two : List Word) → the_word (codes "turn") words ≡ Some (tt, one) →
    a_number_within earliest 4294967295 one ≡ Some (turn, two) →
    turn_line earliest words ≡ option_map (λ t. ((turn, t.0), [])) (request_line two)
turn_after earliest turn words one two first second = rw (first, second) (whole_request turn two)

pub turn_refused : (members turn : ℕ) (taken : Option (ScriptEvent × List Word)) (e : LineError) →
    IsEvent members taken (Err e) → IsTurn members (option_map (λ t. ((turn, t.0), [])) taken) (Err e)
turn_refused members turn taken error.Form h = rw h refl
turn_refused members turn None error.NoMember h = absurd h
turn_refused members turn (Some t) error.NoMember h = h
turn_refused members turn taken error.Memory h = tt

pub turn_read : (members turn : ℕ) (taken : Option (ScriptEvent × List Word)) (event : ScriptEvent) →
    IsEvent members taken (Ok event) → IsTurn members (option_map (λ t. ((turn, t.0), [])) taken) (Ok (turn, event))
turn_read members turn None event h = absurd (cc h.0)
turn_read members turn (Some t) event h = (ap (option_map (λ e. (turn, e))) h.0, h.1)
