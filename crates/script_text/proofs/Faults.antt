-- The faults of lines, and the events before them.
use Rattle.std.proofs.Common.{◌≡◌, ℕ, List, [], ◌∷◌, ◌++◌, Option, Some, None, Result, Ok, Err, refl, ap, ◌∙◌}
use Rattle.std.proofs.Common.{append_assoc}
use Rattle.std.specs.Prelude.{option_map}
use Rattle.std.proofs.lemmas.Bool.{le-ltb}
use Rattle.script_mean.specs.Words.{Word}
use Rattle.script_mean.specs.Event.{member_of}
use Rattle.script_mean.specs.Script.{ScriptFault, ◌>>=◌, in_form, of_member, event_of, events_of}
use Rattle.script_mean.specs.declared.event.ScriptEvent.{ScriptEvent}
use Rattle.script_text.specs.Answer.{Answers}
use Rattle.script_text.specs.Reading.{IsEvent, error_at}
use Rattle.script_text.specs.declared.error.LineError.{LineError}
use Rattle.script_text.specs.declared.error.LineError.TheVariants.{Form, NoMember, Memory}

-- a line's error, as the fault of its numbered line
pub fault_at : (members line : ℕ) (taken : Option (ScriptEvent × List Word)) (error : LineError) →
    IsEvent members taken (Err error) →
    Answers (in_form line (option_map (λ t. t.0) taken) >>= λ event. of_member members line event)
    (Err (error_at line error))
fault_at members line taken Form h = rw h refl
fault_at members line (Some t) NoMember h = rw (le-ltb (member_of t.0) members h) refl
fault_at members line None NoMember h = absurd h
fault_at members line taken Memory h = tt

-- what is read so far, before what the other lines spell
abbrev pub with_front : {A : Type 0} → List A → Result (List A) ScriptFault → Result (List A) ScriptFault
with_front front (Ok read) = Ok (front ++ read)
with_front front (Err fault) = Err fault

-- one more is read
pub front_more : {A : Type 0} (front : List A) (one : A) (rest : Result (List A) ScriptFault) →
    with_front (front ++ one ∷ []) rest ≡ with_front front (rest >>= λ more. Ok (one ∷ more))
front_more front one (Ok more) = ap Ok (append_assoc front (one ∷ []) more)
front_more front one (Err fault) = refl

-- with one more event read, those read and the other lines still spell the whole
pub goes_on : (members : ℕ) (front : List ScriptEvent) (line : ℕ × List ℕ) (event : ScriptEvent)
    (all following : List (ℕ × List ℕ)) (whole : Result (List ScriptEvent) ScriptFault) → all ≡ line ∷ following →
    event_of members line ≡ Ok event → with_front front (events_of members all) ≡ whole →
    with_front (front ++ event ∷ []) (events_of members following) ≡ whole
goes_on members front line event all following whole split reads e =
    front_more front event (events_of members following) ∙
    rw (split, reads) at e
