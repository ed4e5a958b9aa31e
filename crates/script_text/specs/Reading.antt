-- What the readers of lines and words answer.
use Rattle.std.specs.Prelude.{◌≡◌, ◌≤◌, ◌<◌, ℕ, true, List, [], Option, Some, None, option_map, Result, Ok, Err}
use Rattle.std.specs.Prelude.{IsSomeAnd}
use Rattle.std.specs.Char.{is_ascii_digit}
use Rattle.std.specs.List.{enumerate_from, list_all}
use Rattle.std.specs.Str.Parse.{digits_value}
use Rattle.script_mean.specs.Lines.{speaking_lines}
use Rattle.script_mean.specs.Words.{Word, words_of}
use Rattle.script_mean.specs.Form.{a_body}
use Rattle.script_mean.specs.Event.{member_of}
use Rattle.script_mean.specs.declared.event.ScriptEvent.{ScriptEvent}
use Rattle.script_text.specs.Parts.{parts_after}
use Rattle.script_text.specs.declared.error.LineError.{LineError}
use Rattle.script_text.specs.declared.error.LineError.TheVariants.{Form, NoMember, Memory}
use Rattle.script_text.specs.declared.error.ScriptError.{ScriptError}
use Rattle.script_text.specs.declared.error.ScriptError.TheVariants as script
use Rattle.script_text.specs.declared.lines.NumberedLine.{NumberedLine}
use Rattle.script_text.specs.declared.lines.Lines.{Lines}
use Rattle.script_text.specs.declared.words.Words.{Words}

-- a line as the definitions see it
abbrev pub numbered_line : NumberedLine → ℕ × List ℕ
numbered_line line = (line.number, line.text.now)

-- the lines that are left
abbrev pub all_left : Lines → List (ℕ × List ℕ)
all_left lines = enumerate_from lines.number (parts_after 10 lines.rest)

-- the lines that are left and say something
abbrev pub lines_left : Lines → List (ℕ × List ℕ)
lines_left lines = speaking_lines (all_left lines)

-- the words that are left of a line
abbrev pub words_left : Words → List Word
words_left words = parts_after 32 words.rest

-- a line's error as an error of the script
abbrev pub error_at : ℕ → LineError → ScriptError
error_at line Form = script.BadLine line
error_at line NoMember = script.NoMember line
error_at line Memory = script.Memory

-- these are all decimal digits, of this value
abbrev pub IsAllDigits : List ℕ → ℕ → Type 0
IsAllDigits digits value = (list_all is_ascii_digit digits ≡ true) × (value ≡ digits_value 10 digits)

-- what was spelled, or memory was wanted
abbrev pub Spells : {A : Type 0} → Option A → Result A LineError → Type 0
Spells spelled (Ok value) = spelled ≡ Some value
Spells spelled (Err Form) = spelled ≡ None
Spells spelled (Err NoMember) = ⊥
Spells spelled (Err Memory) = Unit {0}

-- a text is one word, which spells these bytes
abbrev pub IsWholeBody : List ℕ → Option (List ℕ) → Type 0
IsWholeBody text None = Unit {0}
IsWholeBody text (Some bytes) = a_body (words_of text) ≡ Some (bytes, [])

-- what a form took from the words and the words after it, or memory was wanted
abbrev pub Takes : {A : Type 0} → Option (A × List Word) → Result A LineError → List Word → Type 0
Takes taken (Ok value) following = taken ≡ Some (value, following)
Takes taken (Err Form) following = taken ≡ None
Takes taken (Err NoMember) following = ⊥
Takes taken (Err Memory) following = Unit {0}

-- what a form said of a whole line, or memory was wanted
abbrev pub Says : {A : Type 0} → Option (A × List Word) → Result A LineError → Type 0
Says taken result = Spells (option_map (λ t. t.0) taken) result

-- what a form said of an event, whose member is then judged, or memory was wanted
abbrev pub IsEvent : ℕ → Option (ScriptEvent × List Word) → Result ScriptEvent LineError → Type 0
IsEvent members taken (Ok event) = (option_map (λ t. t.0) taken ≡ Some event) × (member_of event < members)
IsEvent members taken (Err Form) = taken ≡ None
IsEvent members taken (Err NoMember) = IsSomeAnd taken (λ t. members ≤ member_of t.0)
IsEvent members taken (Err Memory) = Unit {0}

-- a member's number, if it is below the number of members
abbrev pub IsBelow : ℕ → ℕ → Result ℕ LineError → Type 0
IsBelow members number (Ok member) = (member ≡ number) × (number < members)
IsBelow members number (Err Form) = ⊥
IsBelow members number (Err NoMember) = members ≤ number
IsBelow members number (Err Memory) = ⊥

-- what a form said of a request with its turn, whose member is then judged, or memory was wanted
abbrev pub IsTurn : ℕ → Option ((ℕ × ScriptEvent) × List Word) → Result (ℕ × ScriptEvent) LineError → Type 0
IsTurn members taken (Ok turn) = (option_map (λ t. t.0) taken ≡ Some turn) × (member_of turn.1 < members)
IsTurn members taken (Err Form) = taken ≡ None
IsTurn members taken (Err NoMember) = IsSomeAnd taken (λ t. members ≤ member_of t.0.1)
IsTurn members taken (Err Memory) = Unit {0}
