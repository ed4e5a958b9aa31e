-- The command line of a program as it is described to `clap`, and what is found in words.
use Rattle.std.specs.Prelude.{◌≡◌, Bool, true, false, List, Option, Some, None, codes, fold, if◌then◌else◌}
use Rattle.std.specs.Option.{option_map_or}
use Rattle.std.specs.Str.{bytes_eq}
use Rattle.clap.specs.Faults.{fault_of, is_simple_and_free}
use Rattle.clap.specs.Matches.{found_of}
use Rattle.clap.specs.Simple.{App, Shape, is_simple, matches_of, new_app, new_rule, on_top, with_rule}
use Rattle.clap.specs.Walk.{Row, Rule, Text, is_empty, one_of, rows_of}
use Rattle.clap.specs.declared.builder.action.ArgAction.TheVariants.{Set, SetTrue}
use Rattle.clap.specs.declared.parser.matches.ArgMatches.{ArgMatches}

-- a word at its place, which may be missing
abbrev pub positional : Text → Rule
positional name = record (new_rule name) { action = Some Set }

-- a word at its place, which has to be there
abbrev pub required : Text → Rule
required name = record (positional name) { required = true }

-- `--NAME` with a value, at most once
abbrev pub option : Text → Rule
option name = record (positional name) { long = Some name }

-- `--NAME` without a value, at most once
abbrev pub flag : Text → Rule
flag name = record (new_rule name) { long = Some name; action = Some SetTrue }

-- no help, and the words are those after the program's name
abbrev pub plain_top : Shape → Shape
plain_top top = record top { no_binary_name = true; disable_help_flag = true }

-- a command with such words, without a help or a version flag
abbrev pub command_of : (name : Text) → List Rule → App
command_of name rules = fold with_rule (on_top plain_top (new_app name)) rules

-- what a reader of what `clap` found makes of words, if `clap` takes them
abbrev pub read_in : {A : Type 0} → App → (List Row → Option A) → List Text → Option A
read_in app reader words = if is_empty (fault_of app words) then reader (matches_of app words) else None

-- all that `clap` found in words, if `clap` takes them
abbrev pub rows_in : App → List Text → Option (List Row)
rows_in app words = if is_empty (fault_of app words) then Some (matches_of app words) else None

-- `clap` tells of a command exactly which words it takes, and what it finds in them
pub record IsExact (app : App) : Type 0 where
  pub simple : is_simple app ≡ true
  pub free : is_simple_and_free app ≡ true

-- what was found, by name
abbrev pub rows_found : ArgMatches → List Row
rows_found matches = rows_of (found_of matches)

-- whether a flag was given
abbrev pub is_set : Text → List Row → Bool
is_set name rows = option_map_or (λ text. bytes_eq text (codes "true")) (one_of name rows) false
