-- What a run of the program does: what its read found, what was written, why it ended so, and what is said.
use Rattle.std.specs.Prelude.{◌≡◌, ◌⊎◌, ℕ, ◌<◌, ◌≤◌, nat_eq, nat_lt, if◌then◌else◌, List, [], ◌∷◌, ◌++◌, length, Option}
use Rattle.std.specs.Prelude.{Some, None, IfSome, IsSomeAnd, Result, Ok, Err, codes}
use Rattle.std.specs.Fmt.{decimal}
use Rattle.std.specs.Str.{bytes_eq}
use Rattle.std.specs.declared.alloc.Global.{Global}
use Rattle.std.specs.declared.vec.Vec.{Vec}
use Rattle.layer_words.specs.declared.places.At.{At}
use Rattle.layer_ast.specs.Cut.{text_tokens}
use Rattle.layer_ast.specs.Spells.{longest_file}
use Rattle.outside.specs.Count.{Rose}
use Rattle.outside.specs.Lines.{Begins, Gains, Fails}
use Rattle.outside.specs.Said.{Errors, SaysLine, Silent}
use Rattle.outside.specs.Shelf.{Shelved, found_in}
use Rattle.outside.specs.Tells.{Tells, tells_of}
use Rattle.outside.specs.declared.shelf.Shelf as shelves
use Rattle.outside.specs.declared.sink.Sink as outputs
use Rattle.format_mean.specs.Layout.{formatted, formatted_lines}
use Rattle.format_run.specs.declared.ending.LayoutEnding.{LayoutEnding}
use Rattle.format_run.specs.declared.ending.LayoutEnding.TheVariants as ending

-- What a run began with and what it left: what the shelf told, its count of faults before and after, and what the
-- output told before and after.
pub record Around : Type 0 where
  pub told : Option Shelved
  pub reads : ℕ
  pub reads_after : ℕ
  pub output : Tells
  pub output_after : Tells

abbrev pub around : {S O : Type 0} → shelves.Ghosts S → outputs.Ghosts O → S → S → O → O → Around
around s o shelf shelf_after out out_after = record {
  told = s.told shelf;
  reads = s.faults shelf;
  reads_after = s.faults shelf_after;
  output = tells_of o out;
  output_after = tells_of o out_after;
}

-- A word, unless it begins with a hyphen, as an option does.
abbrev pub no_option : List ℕ → Option (List ℕ)
no_option [] = Some []
no_option (b ∷ bs) = if nat_eq b 45 then None else Some (b ∷ bs)

-- The name of the file that the words say: the only word, which is no option, or the one after `--`.
abbrev pub name_of : List (List ℕ) → Option (List ℕ)
name_of [] = None
name_of (word ∷ []) = no_option word
name_of (first ∷ word ∷ []) = if bytes_eq first (codes "--") then Some word else None
name_of (_ ∷ _ ∷ _ ∷ _) = None

abbrev pub IsSmall : List ℕ → Type 0
IsSmall file = length file ≤ longest_file

-- Why a file isn't laid out, if it isn't: it is too large, or has a bad token.
abbrev pub by_token : Option At → LayoutEnding
by_token None = ending.Done
by_token (Some at) = ending.BadToken at

abbrev pub verdict : List ℕ → LayoutEnding
verdict file = if nat_lt longest_file (length file) then ending.TooLarge else by_token (text_tokens file).bad_at

-- How a run ends for what its read found, where nothing fails.
abbrev pub end_for : Option (List ℕ) → LayoutEnding
end_for None = ending.Read
end_for (Some file) = verdict file

-- As far as the shelf tells, it has this under the name: a file, or none.
abbrev pub Finds : List ℕ → Option Shelved → Option (List ℕ) → Type 0
Finds name told found = IfSome told (λ shelf. found_in shelf name ≡ found)

-- The read found a file that can be laid out.
pub record IsGood (name : List ℕ) (told : Option Shelved) (reads reads_after : ℕ) (file : List ℕ) : Type 0 where
  pub found : Finds name told (Some file)
  pub good : verdict file ≡ ending.Done
  pub sound : reads_after ≡ reads

-- It found one that has a bad token.
pub record IsBad (name : List ℕ) (told : Option Shelved) (reads reads_after : ℕ) (at : At) : Type 0 where
  pub file : List ℕ
  pub found : Finds name told (Some file)
  pub bad : verdict file ≡ ending.BadToken at
  pub sound : reads_after ≡ reads

-- It found one that is too large.
pub record IsLarge (name : List ℕ) (told : Option Shelved) (reads reads_after : ℕ) : Type 0 where
  pub large : IfSome told (λ shelf. IsSomeAnd (found_in shelf name) (λ file. longest_file < length file))
  pub sound : reads_after ≡ reads

-- It found none, and the count of the shelf's faults rose.
pub record IsMissed (name : List ℕ) (told : Option Shelved) (reads reads_after : ℕ) : Type 0 where
  pub none : Finds name told None
  pub rose : Rose reads reads_after

-- How a run stops at its read.
abbrev pub StopsAt : List ℕ → Option Shelved → (reads reads_after : ℕ) → LayoutEnding → Type 0
StopsAt name told reads reads_after (ending.BadToken at) = IsBad name told reads reads_after at
StopsAt name told reads reads_after ending.TooLarge = IsLarge name told reads reads_after
StopsAt name told reads reads_after ending.Read = IsMissed name told reads reads_after
StopsAt name told reads reads_after ending.Memory = Unit {0}
StopsAt name told reads reads_after _ = ⊥

-- The text that is to be laid out, or how the run ends.
abbrev pub Fetches : List ℕ → Option Shelved → (reads reads_after : ℕ) → Result (Vec ℕ Global) LayoutEnding → Type 0
Fetches name told reads reads_after (Ok text) = IsGood name told reads reads_after text.items
Fetches name told reads reads_after (Err end) = StopsAt name told reads reads_after end

-- The text of a small file, which has no bad token; or where its first one stands; or memory ran out.
abbrev pub Judges : List ℕ → Result (Vec ℕ Global) LayoutEnding → Type 0
Judges file (Ok text) = (text.items ≡ file) × (None ≡ (text_tokens file).bad_at)
Judges file (Err (ending.BadToken at)) = Some at ≡ (text_tokens file).bad_at
Judges file (Err ending.Memory) = Unit {0}
Judges file (Err _) = ⊥

-- A file was laid out: all lines were put, one a put; or a put failed, or memory ran out.
abbrev pub Writes : List ℕ → Tells → Tells → LayoutEnding → Type 0
Writes file old new ending.Done = Gains old new (formatted_lines file)
Writes file old new ending.Write = Fails old new (formatted_lines file)
Writes file old new ending.Memory = Begins old new (formatted file)
Writes file old new _ = ⊥

-- A file that can be laid out was found, and its lines were written, or those before the end.
pub record Wrote (name : List ℕ) (a : Around) (end : LayoutEnding) : Type 0 where
  pub file : List ℕ
  pub found : IsGood name a.told a.reads a.reads_after file
  pub written : Writes file a.output a.output_after end

-- The run stopped at its read, and nothing was written.
pub record Stopped (name : List ℕ) (a : Around) (end : LayoutEnding) : Type 0 where
  pub stopped : StopsAt name a.told a.reads a.reads_after end
  pub untouched : a.output_after ≡ a.output

-- How a run over a named file ended.
abbrev pub ComesOf : List ℕ → Around → LayoutEnding → Type 0
ComesOf name a ending.Done = Wrote name a ending.Done
ComesOf name a ending.Write = Wrote name a ending.Write
ComesOf name a ending.Memory = Stopped name a ending.Memory ⊎ Wrote name a ending.Memory
ComesOf name a end = Stopped name a end

-- Nothing was read and nothing was written.
pub record Nothing (a : Around) : Type 0 where
  pub untouched : a.output_after ≡ a.output
  pub unread : a.reads_after ≡ a.reads

-- How a run ends whose words name no file.
abbrev pub NoName : Around → LayoutEnding → Type 0
NoName a ending.Words = Nothing a
NoName a _ = ⊥

abbrev pub Comes : Option (List ℕ) → Around → LayoutEnding → Type 0
Comes None a end = NoName a end
Comes (Some name) a end = ComesOf name a end

-- The line that is said of a bad token.
abbrev pub token_line : At → List ℕ
token_line at = codes "file: token " ++ decimal at.line ++ codes ":" ++ decimal at.col ++ codes "\n"

-- What is said of each end, and its status.
abbrev pub said_line : LayoutEnding → List ℕ
said_line ending.Done = []
said_line ending.Words = codes "words: refused\n"
said_line ending.TooLarge = codes "file: too large\n"
said_line (ending.BadToken at) = token_line at
said_line ending.Read = codes "read fault\n"
said_line ending.Write = codes "write fault\n"
said_line ending.Memory = codes "no memory\n"

abbrev pub status_of : LayoutEnding → ℕ
status_of ending.Done = 0
status_of ending.Words = 2
status_of ending.TooLarge = 1
status_of (ending.BadToken at) = 1
status_of ending.Read = 4
status_of ending.Write = 5
status_of ending.Memory = 7

abbrev pub Said : LayoutEnding → Errors → Type 0
Said ending.Done e = Silent e
Said end e = SaysLine (said_line end) (status_of end) e

-- The status is the one that is due, or that of want of memory.
abbrev pub Due : ℕ → ℕ → Type 0
Due due status = (status ≡ due) ⊎ (status ≡ 7)

-- The output's count of faults didn't rise, nor does it stand at its last value.
abbrev pub NoPutFailed : Around → Type 0
NoPutFailed a = Rose a.output.faults a.output_after.faults → ⊥

-- Where the shelf tells and no put failed, the status is the one that what is found calls for, or memory ran out; and a
-- file that can be laid out was written whole, or memory ran out.
pub record Exact (name : List ℕ) (a : Around) (status : ℕ) : Type 0 where
  pub due : (shelf : Shelved) → a.told ≡ Some shelf → NoPutFailed a →
      Due (status_of (end_for (found_in shelf name))) status
  pub complete : (shelf : Shelved) (file : List ℕ) → a.told ≡ Some shelf → found_in shelf name ≡ Some file →
      verdict file ≡ ending.Done →
      NoPutFailed a → Gains a.output a.output_after (formatted_lines file) ⊎ (status ≡ 7)

abbrev pub IsExact : Option (List ℕ) → Around → ℕ → Type 0
IsExact None a status = Due 2 status
IsExact (Some name) a status = Exact name a status

-- What a run does with its words: it ended in one way, that was said, and the status is the one that is due.
pub record Does (words : List (List ℕ)) (a : Around) (e : Errors) : Type 0 where
  pub end : LayoutEnding
  pub came : Comes (name_of words) a end
  pub said : Said end e
  pub exact : IsExact (name_of words) a e.status
