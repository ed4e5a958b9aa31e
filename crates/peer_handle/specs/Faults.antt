-- Why a layer file is refused, in numbers and in words.
use Rattle.std.specs.Prelude.{◌≡◌, ℕ, Bool, true, false, List, ◌++◌, codes, length, take, drop}
use Rattle.layer_words.specs.declared.places.At.{At}
use Rattle.end_mean.specs.Status.{FileFault, too_large, bad_token, unexpected, unknown, twice, over_limit, wrong_kind}
use Rattle.end_mean.specs.Status.{arity, direction, header, initial, cycle, too_many, too_many_joins, file_cause}
use Rattle.file_judge.specs.declared.error.FileError.{FileError}
use Rattle.file_judge.specs.declared.error.FileError.TheVariants as file
use Rattle.output_mean.specs.Judged.{Refuses}
use Rattle.peer_handle.specs.declared.fault.ToldFault.{ToldFault}

-- A cause with these numbers, and one at a place in the text.
abbrev pub fault_with : (cause a b n : ℕ) → ToldFault
fault_with cause a b n = record { cause = cause; a = a; b = b; length = n }

abbrev pub fault_at : (cause : ℕ) → At → (n : ℕ) → ToldFault
fault_at cause at n = fault_with cause at.line at.col n

-- A cause in numbers, with the length of its sentence.
abbrev pub fault_of : FileFault → (n : ℕ) → ToldFault
fault_of too_large n = fault_with 1 0 0 n
fault_of (bad_token at) n = fault_at 2 at n
fault_of (unexpected at) n = fault_at 3 at n
fault_of (unknown at) n = fault_at 4 at n
fault_of (twice at) n = fault_at 5 at n
fault_of (over_limit at) n = fault_at 6 at n
fault_of (wrong_kind at) n = fault_at 7 at n
fault_of (arity at) n = fault_at 8 at n
fault_of (direction at) n = fault_at 9 at n
fault_of (header at) n = fault_at 10 at n
fault_of (initial at) n = fault_at 11 at n
fault_of (cycle place kind) n = fault_with 12 place 0 n
fault_of (too_many weight) n = fault_with 13 weight 0 n
fault_of too_many_joins n = fault_with 14 0 0 n

-- A cause in words: the line that the program says, without its end.
abbrev pub sentence_of : FileFault → List ℕ
sentence_of fault = codes "file: " ++ file_cause fault

-- What the judge of files answers, in numbers and in words; want of memory has no cause.
abbrev pub error_fault : FileError → (n : ℕ) → ToldFault
error_fault file.TooLarge n = fault_of too_large n
error_fault (file.BadToken at) n = fault_of (bad_token at) n
error_fault (file.Unexpected at) n = fault_of (unexpected at) n
error_fault (file.Unknown at) n = fault_of (unknown at) n
error_fault (file.Twice at) n = fault_of (twice at) n
error_fault (file.OverLimit at) n = fault_of (over_limit at) n
error_fault (file.Kind at) n = fault_of (wrong_kind at) n
error_fault (file.Arity at) n = fault_of (arity at) n
error_fault (file.Direction at) n = fault_of (direction at) n
error_fault (file.Header at) n = fault_of (header at) n
error_fault (file.Initial at) n = fault_of (initial at) n
error_fault (file.Cycle place kind) n = fault_of (cycle place kind) n
error_fault (file.TooMany weight) n = fault_of (too_many weight) n
error_fault file.TooManyJoins n = fault_of too_many_joins n
error_fault file.Memory n = fault_with 0 0 0 n

abbrev pub error_sentence : FileError → List ℕ
error_sentence file.TooLarge = sentence_of too_large
error_sentence (file.BadToken at) = sentence_of (bad_token at)
error_sentence (file.Unexpected at) = sentence_of (unexpected at)
error_sentence (file.Unknown at) = sentence_of (unknown at)
error_sentence (file.Twice at) = sentence_of (twice at)
error_sentence (file.OverLimit at) = sentence_of (over_limit at)
error_sentence (file.Kind at) = sentence_of (wrong_kind at)
error_sentence (file.Arity at) = sentence_of (arity at)
error_sentence (file.Direction at) = sentence_of (direction at)
error_sentence (file.Header at) = sentence_of (header at)
error_sentence (file.Initial at) = sentence_of (initial at)
error_sentence (file.Cycle place kind) = sentence_of (cycle place kind)
error_sentence (file.TooMany weight) = sentence_of (too_many weight)
error_sentence file.TooManyJoins = sentence_of too_many_joins
error_sentence file.Memory = codes "no memory"

-- Whether an answer of the judge of files is a cause for which a file is refused.
abbrev pub is_cause : FileError → Bool
is_cause file.Memory = false
is_cause _ = true

-- A sentence stands at the beginning of a room, or as much of it as there is room for, and what was behind it stays.
abbrev pub Beginning : (sentence room after : List ℕ) → Type 0
Beginning sentence room after = after ≡ take (length room) sentence ++ drop (length sentence) room

-- The bytes of a file are refused for this first cause, in numbers, and in words in the room.
pub record IsRefused (text : List ℕ) (fault : ToldFault) (room after : List ℕ) : Type 0 where
  pub cause : FileFault
  pub refuses : Refuses text cause
  pub numbers : fault ≡ fault_of cause (length (sentence_of cause))
  pub words : Beginning (sentence_of cause) room after
