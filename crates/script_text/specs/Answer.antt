-- What the answer of a reader says of what a text spells.
use Rattle.std.specs.Prelude.{◌≡◌, Result, Ok, Err}
use Rattle.script_mean.specs.Script.{ScriptFault, too_long, bad_line, no_member}
use Rattle.script_text.specs.declared.error.ScriptError.{ScriptError}
use Rattle.script_text.specs.declared.error.ScriptError.TheVariants.{TooLong, BadLine, NoMember, Memory}

-- the answer is what the text spells, or its first fault; want of memory says nothing
abbrev pub Answers : {A : Type 0} → Result A ScriptFault → Result A ScriptError → Type 0
Answers spelled (Ok value) = spelled ≡ Ok value
Answers spelled (Err TooLong) = spelled ≡ Err too_long
Answers spelled (Err (BadLine line)) = spelled ≡ Err (bad_line line)
Answers spelled (Err (NoMember line)) = spelled ≡ Err (no_member line)
Answers spelled (Err Memory) = Unit {0}
